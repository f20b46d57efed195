use Rattle.std.proofs.Common.{length}
use Rattle.macro_expand.proofs.LeapLemmas.{Seen}
use Rattle.macro_expand.proofs.rescan.slots.closing.Given as goal

abbrev pub invariant-loop-slot : goal.invariant-loop-slot
invariant-loop-slot l = Seen l.slots l.left

abbrev pub decreases-loop-slot : goal.decreases-loop-slot
decreases-loop-slot l = length l.left
