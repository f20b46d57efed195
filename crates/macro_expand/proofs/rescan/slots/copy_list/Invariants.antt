use Rattle.std.proofs.Common.{◌≡◌, ◌++◌, map, length}
use Rattle.macro_expand.specs.Calls.{first_list}
use Rattle.macro_expand.specs.States.{marked}
use Rattle.macro_expand.specs.Slots.{lists}
use Rattle.macro_expand.proofs.rescan.slots.copy_list.Given as goal

abbrev pub invariant-loop-slot : goal.invariant-loop-slot
invariant-loop-slot l = map marked l.list.items ++ first_list (lists l.left) ≡ first_list (lists l.slots)

abbrev pub decreases-loop-slot : goal.decreases-loop-slot
decreases-loop-slot l = length l.left
