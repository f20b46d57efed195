use Rattle.std.proofs.Common.{◌≡◌, map, take}
use Rattle.macro_expand.specs.States.{marked}
use Rattle.macro_expand.proofs.rescan.once.copy_all.Given as goal

abbrev pub invariant-loop-hidden : goal.invariant-loop-hidden
invariant-loop-hidden l = map marked l.all.items ≡ map marked (take l.hidden-index l.tokens)
