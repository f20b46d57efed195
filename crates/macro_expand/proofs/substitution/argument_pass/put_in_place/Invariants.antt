use Rattle.std.proofs.Common.{◌≡◌, ◌++◌, map, drop}
use Rattle.macro_expand.specs.Substituted.{in_place, Word}
use Rattle.macro_expand.specs.States.{marked, piece_of}
use Rattle.macro_expand.proofs.substitution.argument_pass.put_in_place.Given as goal

abbrev pub invariant-loop-hidden : goal.invariant-loop-hidden
invariant-loop-hidden l =
    map piece_of l.cells.items ++ map Word (map marked (drop l.hidden-index l.rest)) ≡ map piece_of l.fn.cells.items ++ in_place l.fn.space (map marked l.fn.tokens)
