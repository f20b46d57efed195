use Rattle.std.proofs.Common.{◌≡◌, length}
use Rattle.macro_expand.specs.States.{hidden_names, names_left, covers_names}
use Rattle.macro_expand.proofs.hide_set.set.covers.Given as goal

abbrev pub invariant-loop-name : goal.invariant-loop-name
invariant-loop-name l = covers_names (hidden_names l.set) (names_left l.left) ≡ covers_names (hidden_names l.set) (names_left l.fn.names)

abbrev pub decreases-loop-name : goal.decreases-loop-name
decreases-loop-name l = length (names_left l.left)
