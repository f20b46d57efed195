use Rattle.std.proofs.Common.{◌≡◌, map, vec_len}
use Rattle.macro_expand.specs.Substituted.{front, pasted, pasted_on}
use Rattle.macro_expand.specs.States.{backwards, piece_of}
use Rattle.macro_expand.proofs.substitution.paste_pass.paste_cells.Given as goal

abbrev pub invariant-loop-cell : goal.invariant-loop-cell
invariant-loop-cell l = front (map piece_of l.done.items) (pasted_on (piece_of l.last) (backwards piece_of l.rest.items)) ≡ pasted (backwards piece_of l.fn.rest.items)

abbrev pub decreases-loop-cell : goal.decreases-loop-cell
decreases-loop-cell l = vec_len l.rest
