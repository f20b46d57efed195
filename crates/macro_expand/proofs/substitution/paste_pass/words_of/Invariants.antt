use Rattle.std.proofs.Common.{◌≡◌, map}
use Rattle.macro_expand.specs.Substituted.{words}
use Rattle.macro_expand.specs.States.{marked, piece_of}
use Rattle.macro_expand.proofs.substitution.paste_pass.words_of.Given as goal

abbrev pub invariant-loop-cell : goal.invariant-loop-cell
invariant-loop-cell l = map marked l.list.items ≡ words (map piece_of l.yielded)
