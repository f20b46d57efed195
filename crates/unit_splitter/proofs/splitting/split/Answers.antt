use Rattle.std.proofs.lemmas.List.{nil_from_length}
use Rattle.std.proofs.Common.{◌∙◌}
use Rattle.unit_splitter.proofs.LoopLemmas.{step, finish}
use Rattle.unit_splitter.proofs.splitting.split.Goals as goal

pub loop-event-preserved : goal.loop-event-preserved
loop-event-preserved c =
    step c.args.events.now.list c.loop-event.rest.now c.split_at.result.1.now c.split_at.result.0.now c.in-Some.field-0-1.now c.in-Some.event.now c.loop-event.known c.in_ok-next.next c.loop-event.root c.push_part.new.root
    c.loop-event.depth c.depth_after-depth.result c.part_length.result c.in_ok-next.number
    c.in-Some.ensures.cases.0 c.part_length.ensures.length c.split_at.ensures.front c.split_at.ensures.back c.depth_after-depth.ensures
    c.in_ok-next.ensures.pieces c.in_ok-next.ensures.number c.in_ok-push_part.ensures c.loop-event.invariant

pub returns : goal.returns
returns c =
    let done = finish c.args.events.now.list c.loop-event.rest.now c.loop-event.known c.loop-event.root c.loop-event.depth (nil_from_length c.loop-event.rest.now c.in_default.ensures.cases) c.loop-event.invariant in
    (λ i. record { root = c.loop-event.root; pieces = c.into_pieces.ensures i }) ∙ done
