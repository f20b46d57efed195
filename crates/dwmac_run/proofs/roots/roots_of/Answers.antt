use Rattle.std.proofs.Common.{sym, ◌∙◌}
use Rattle.dwmac_run.proofs.RootLemmas.{few_found}
use Rattle.dwmac_run.proofs.roots.roots_of.Goals as goal

pub returns-in_ok-labels_by-in-Ok-Some-clause-few : goal.returns-in_ok-labels_by-in-Ok-Some-clause-few
returns-in_ok-labels_by-in-Ok-Some-clause-few c =
    few_found c.as_slice.result.now c.in_ok-labels_by-in-Ok-Some.field-0 c.in-Ok-Some.request (sym c.in-Ok-Some.field-0-is ∙ c.in-Ok-Some.ensures) c.in_ok-labels_by-in-Ok-Some.ensures
