use Rattle.std.specs.Prelude.{◌≡◌, Ok}
use Rattle.macro_query.specs.Tables.{info_text}
use Rattle.macro_query.proofs.TableLemmas.{scope_fails, scope_says, text_says, same_info}
use Rattle.macro_query.proofs.table_report.info.Goals as goal

pub returns-in_err-found : goal.returns-in_err-found
returns-in_err-found c =
    scope_fails c.from_residual.result (λ scope text. text ≡ Ok (info_text c.args.name.now scope.table)) c.args.position.now c.args.file.now _ c.in_err-found.ensures.err c.from_residual.ensures.1

pub returns : goal.returns
returns c =
    let found = c.in_ok-found.ensures.ok in
    scope_says c.info_of.result (λ scope text. text ≡ Ok (info_text c.args.name.now scope.table)) c.args.position.now c.args.file.now found.0 found.2
    (text_says c.info_of.result _ (info_text c.args.name.now found.0.table) (same_info c.in_ok-found.found.graph.paths c.in_ok-found.found.table c.args.name.now found.0.table found.1.table) c.info_of.ensures)
