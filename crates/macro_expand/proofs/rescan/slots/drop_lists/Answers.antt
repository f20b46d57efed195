use Rattle.std.proofs.Common.{◌∙◌, ap, arith, ◌≡◌, ◌-◌, drop}
use Rattle.macro_expand.specs.Slots.{lists}
use Rattle.macro_expand.proofs.SlotLemmas.{drop_more}
use Rattle.macro_expand.proofs.rescan.slots.drop_lists.Goals as goal

pub loop-preserved : goal.loop-preserved
loop-preserved c = record {
  dropped = drop_more c.args.count c.loop.counter (lists c.loop.slots.items) (lists c.take_list.new.slots.items) c.loop-test.true c.in_ok-take_list.ensures.others ∙ c.loop.invariant.dropped;
  right = c.take_list.ensures.right;
}

pub returns-clause-dropped : goal.returns-clause-dropped
returns-clause-dropped c =
    let none : 0 ≡ c.args.count - c.loop.counter = omega arith in
    ap (λ n. drop n (lists c.loop.slots.items)) none ∙ c.loop.invariant.dropped
