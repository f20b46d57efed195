use Rattle.std.proofs.Common.{◌≡◌, ◌++◌, length}
use Rattle.macro_expand.specs.States.{hidden_names, names_left, missing_names}
use Rattle.macro_expand.proofs.hide_set.set.joined_names.Given as goal

abbrev pub invariant-loop-other : goal.invariant-loop-other
invariant-loop-other l = l.all ++ missing_names (hidden_names l.set) (names_left l.left) ≡ l.fn.names ++ missing_names (hidden_names l.set) (names_left l.fn.others)

abbrev pub decreases-loop-other : goal.decreases-loop-other
decreases-loop-other l = length (names_left l.left)
