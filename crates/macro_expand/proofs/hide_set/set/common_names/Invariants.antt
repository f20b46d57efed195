use Rattle.std.proofs.Common.{◌≡◌, ◌++◌, length}
use Rattle.macro_expand.specs.States.{hidden_names, names_left, common_names}
use Rattle.macro_expand.proofs.hide_set.set.common_names.Given as goal

abbrev pub invariant-loop-name : goal.invariant-loop-name
invariant-loop-name l = l.all ++ common_names (names_left l.left) (hidden_names l.set) ≡ common_names (names_left l.fn.names) (hidden_names l.set)

abbrev pub decreases-loop-name : goal.decreases-loop-name
decreases-loop-name l = length (names_left l.left)
