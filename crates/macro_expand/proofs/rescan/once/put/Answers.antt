use Rattle.std.proofs.Common.{◌+◌, ◌∙◌, ap, arith}
use Rattle.macro_expand.specs.declared.rescan.once.Level.{Level}
use Rattle.macro_expand.proofs.LevelMoves.{put_goes_on}
use Rattle.macro_expand.proofs.rescan.once.put.Goals as goal

pub returns-clause-ok : goal.returns-clause-ok
returns-clause-ok c = λ macros here.
    let n : Level = record { slots = c.put_list.new.slots; out = c.append.new.self; work = c.args.level.now.work + c.len-count.result } in
    put_goes_on macros here c.args.level.now n c.args.call.now c.in_ok-list.list.items c.in_ok-list.ensures.list c.in_ok-list.ensures.rest c.in_ok-append.ensures.items
    (ap (λ k. c.args.level.now.work + k) (c.len-count.ensures ∙ c.in_ok-list.list.ok.0)) (omega (arith, c.in_ok-list.list.ok.0))
