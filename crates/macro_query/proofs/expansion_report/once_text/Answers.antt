use Rattle.macro_expand.specs.Macros.{macros_of}
use Rattle.macro_expand.specs.Rules.{ExpandsOnceTo}
use Rattle.macro_query.proofs.ExpansionLemmas.{text_stops, expansion_stops, expansion_prints}
use Rattle.macro_query.proofs.expansion_report.once_text.Goals as goal

pub returns-in_err-tokens : goal.returns-in_err-tokens
returns-in_err-tokens c = text_stops c.from_residual.result (ExpandsOnceTo (macros_of c.args.table.now) c.args.here.now) c.args.text.now c.in_err-tokens.field-0.0 c.in_err-tokens.ensures c.from_residual.ensures.1

pub returns-in_err-expanded : goal.returns-in_err-expanded
returns-in_err-expanded c =
    expansion_stops c.from_residual-in_err-expanded.result (ExpandsOnceTo (macros_of c.args.table.now) c.args.here.now) c.args.text.now c.in_ok-tokens.tokens c.in_err-expanded.field-0.0
    c.in_ok-tokens.ensures c.in_err-expanded.ensures.exact c.from_residual-in_err-expanded.ensures.1

pub returns : goal.returns
returns c =
    expansion_prints c.line_of.result (ExpandsOnceTo (macros_of c.args.table.now) c.args.here.now) c.args.text.now c.in_ok-tokens.tokens c.in_ok-expanded.expanded
    c.in_ok-tokens.ensures c.in_ok-expanded.ensures.exact c.line_of.ensures
