use Rattle.std.proofs.Common.{sym, subst, ◌∙◌}
use Rattle.macro_expand.specs.Marked.{Names}
use Rattle.macro_expand.specs.States.{hidden_names, names_left, AreAmong}
use Rattle.macro_expand.proofs.HideLemmas.{covered}
use Rattle.macro_expand.proofs.hide_set.set.has_all.Goals as goal

pub returns-else-is_listed_alike : goal.returns-else-is_listed_alike
returns-else-is_listed_alike c = λ e. subst (λ (f : Names). AreAmong f (hidden_names c.args.a.now)) c.listed.ensures (covered (hidden_names c.args.a.now) (names_left c.listed.result) (sym c.covers.ensures ∙ e))
