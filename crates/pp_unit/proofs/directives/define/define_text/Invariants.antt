use Rattle.std.proofs.Common.{◌≡◌, ◌++◌, length}
use Rattle.pp_unit.specs.Definitions.{define_text}
use Rattle.pp_unit.proofs.directives.define.define_text.Given as goal

abbrev pub invariant-loop-left : goal.invariant-loop-left
invariant-loop-left l = l.text.items ++ define_text l.left ≡ define_text l.word

abbrev pub decreases-loop-left : goal.decreases-loop-left
decreases-loop-left l = length l.left
