use Rattle.std.proofs.Common.{◌≡◌, length}
use Rattle.macro_table.specs.Definitions.{is_param, has_lone_hash}
use Rattle.macro_table.proofs.body.has_lone_hash.Given as goal

abbrev pub invariant-loop-token : goal.invariant-loop-token
invariant-loop-token l = has_lone_hash (is_param l.params l.variadic) l.left ≡ has_lone_hash (is_param l.params l.variadic) l.body

abbrev pub decreases-loop-token : goal.decreases-loop-token
decreases-loop-token l = length l.left
