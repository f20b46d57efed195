use Rattle.std.proofs.Common.{◌≡◌, [], length}
use Rattle.macro_table.specs.Definitions.{params_from}
use Rattle.macro_table.proofs.list.params_from.Given as goal

abbrev pub invariant-loop-left : goal.invariant-loop-left
invariant-loop-left l = params_from l.names l.left ≡ params_from [] l.tokens

abbrev pub decreases-loop-left : goal.decreases-loop-left
decreases-loop-left l = length l.left
