use Rattle.std.proofs.Common.{◌≡◌, false, length}
use Rattle.macro_expand.specs.States.{stands_bound}
use Rattle.macro_expand.proofs.substitution.params.stands_bound.Given as goal

abbrev pub invariant-loop-token : goal.invariant-loop-token
invariant-loop-token l = stands_bound l.name l.behind l.left ≡ stands_bound l.name false l.body

abbrev pub decreases-loop-token : goal.decreases-loop-token
decreases-loop-token l = length l.left
