use Rattle.std.proofs.Common.{◌≡◌, map, take}
use Rattle.macro_expand.specs.Marked.{fresh, hiding}
use Rattle.macro_expand.specs.Substituted.{first_spaced}
use Rattle.macro_expand.specs.States.{marked, hidden_names}
use Rattle.macro_expand.proofs.PassLemmas.{is_nil}
use Rattle.macro_expand.proofs.substitution.plain.hidden_copies.Given as goal

abbrev pub invariant-loop-token : goal.invariant-loop-token
invariant-loop-token l = record {
  same : map marked l.list.items ≡ map (hiding (hidden_names l.hides)) (first_spaced l.space (map fresh (take l.token-index l.tokens)));
  begins : l.first ≡ is_nil (map fresh (take l.token-index l.tokens));
}
