use Rattle.std.proofs.Common.{◌≡◌, length}
use Rattle.unit_splitter.specs.Split.{same_part}
use Rattle.unit_splitter.proofs.comparison.same_part.Given as goal

abbrev pub invariant-loop-left : goal.invariant-loop-left
invariant-loop-left l = same_part l.left l.right ≡ same_part l.one l.other

abbrev pub decreases-loop-left : goal.decreases-loop-left
decreases-loop-left l = length l.left
