use Rattle.std.proofs.Common.{◌≡◌, length}
use Rattle.macro_expand.specs.States.{members, names_left}
use Rattle.macro_expand.proofs.hide_set.set.is_among.Given as goal

abbrev pub invariant-loop-known : goal.invariant-loop-known
invariant-loop-known l = members (names_left l.left) l.name ≡ members (names_left l.fn.names) l.name

abbrev pub decreases-loop-known : goal.decreases-loop-known
decreases-loop-known l = length (names_left l.left)
