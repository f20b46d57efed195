use Rattle.std.proofs.Common.{◌++◌, ap, ◌∙◌, subst, ℕ, List}
use Rattle.std.specs.Prelude.{codes}
use Rattle.mac_base.specs.ReportText.{Tells}
use Rattle.macro_query.proofs.ExpansionLemmas.{line_told}
use Rattle.macro_query.proofs.expansion_report.line_of.Goals as goal

pub returns : goal.returns
returns c =
    let line = c.in_ok-push.ensures.items ∙ ap (λ text. text ++ codes "\n") c.in_ok-report.ensures in
    line_told c.finished.result c.args.tokens.now c.in_ok-print_tokens.field-0 c.settle.new.self.is_long c.settle.new.self.text.items c.in_ok-print_tokens.ensures
    (subst (λ (told : List ℕ). Tells c.settle.new.self.is_long c.settle.new.self.text.items told) line c.settle.ensures) c.finished.ensures
