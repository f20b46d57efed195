use Rattle.std.proofs.Common.{sym, ◌∙◌}
use Rattle.std.proofs.lemmas.Result.{err_from_is_err_and}
use Rattle.unit_header.proofs.RowLemmas.{after_own-next, field_err}
use Rattle.unit_header.proofs.rows.pass_own.Goals as goal

pub returns-in_err-u8 : goal.returns-in_err-u8
returns-in_err-u8 c =
    let p = err_from_is_err_and c.from_residual.result c.from_residual.ensures.1 in
    rw (p.1, p.2) (sym c.loop-code.invariant ∙ after_own-next c.args.at c.args.own.now c.loop-code.code-index c.loop-code.cursor c.loop-code-test.true ∙ field_err _ _ _ c.in_err-u8.ensures.0)
