use Rattle.std.proofs.Common.{◌≡◌, map, length}
use Rattle.macro_expand.specs.declared.before.Before.TheVariants.{Else}
use Rattle.macro_expand.specs.Substituted.{front, put_in}
use Rattle.macro_expand.specs.States.{argument_of, piece_of}
use Rattle.macro_expand.proofs.substitution.argument_pass.put_tokens.Given as goal

abbrev pub invariant-loop-token : goal.invariant-loop-token
invariant-loop-token l = front (map piece_of l.cells.items) (put_in l.name l.calls (map argument_of l.args) l.before l.left) ≡ put_in l.name l.calls (map argument_of l.args) Else l.body

abbrev pub decreases-loop-token : goal.decreases-loop-token
decreases-loop-token l = length l.left
