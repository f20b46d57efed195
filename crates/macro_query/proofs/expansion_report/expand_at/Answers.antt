use Rattle.macro_expand.specs.Rules.{ExpandsTo}
use Rattle.macro_query.specs.Expansions.{TextSays}
use Rattle.macro_query.proofs.TableLemmas.{scope_fails, scope_says}
use Rattle.macro_query.proofs.ExpansionLemmas.{in_scope}
use Rattle.macro_query.proofs.expansion_report.expand_at.Goals as goal

pub returns-in_err-found : goal.returns-in_err-found
returns-in_err-found c = scope_fails c.from_residual.result (TextSays ExpandsTo c.args.text.now) c.args.position.now c.args.file.now _ c.in_err-found.ensures.err c.from_residual.ensures.1

pub returns : goal.returns
returns c =
    let found = c.in_ok-found.ensures.ok in
    scope_says c.expand_text.result (TextSays ExpandsTo c.args.text.now) c.args.position.now c.args.file.now found.0 found.2
    (in_scope c.expand_text.result ExpandsTo c.args.text.now c.in_ok-found.found.graph c.in_ok-found.found.file c.in_ok-found.found.line c.in_ok-found.found.table c.in_ok-here.here found.0 found.1 c.in_ok-here.ensures c.expand_text.ensures)
