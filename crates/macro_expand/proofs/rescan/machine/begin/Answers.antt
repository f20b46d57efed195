use Rattle.std.proofs.Common.{subst, suc}
use Rattle.macro_expand.specs.Machine.{replacing, replacing_size, GoesOn}
use Rattle.macro_expand.proofs.rescan.machine.begin.Goals as goal

pub returns-clause-ok : goal.returns-clause-ok
returns-clause-ok c = λ macros here.
    subst (λ d. GoesOn macros here (replacing macros here c.args.machine.now c.args.call d) (suc (replacing_size c.args.machine.now c.args.call)) c.advance.new.machine) c.new.ensures.items
    (c.in_ok-advance.ensures.ok macros here)
