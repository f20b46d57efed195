use Rattle.std.proofs.Common.{◌≡◌, map}
use Rattle.macro_expand.specs.Marked.{hiding}
use Rattle.macro_expand.specs.Substituted.{first_spaced}
use Rattle.macro_expand.specs.States.{marked, hidden_names}
use Rattle.macro_expand.proofs.PassLemmas.{is_nil}
use Rattle.macro_expand.proofs.substitution.paste_pass.hide_all.Given as goal

abbrev pub invariant-loop-hidden : goal.invariant-loop-hidden
invariant-loop-hidden l = record {
  same : map marked l.list.items ≡ map (hiding (hidden_names l.hides)) (first_spaced l.space (map marked l.yielded));
  begins : l.first ≡ is_nil l.yielded;
}
