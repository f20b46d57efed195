use Rattle.std.proofs.Common.{Err, sym, ap, ◌∙◌}
use Rattle.std.proofs.lemmas.Result.{err_from_is_err_and}
use Rattle.unit_header.specs.declared.fault.UnitKind.TheVariants.{Form}
use Rattle.unit_header.proofs.RowLemmas.{after_known-next, field_err, field_then, then_taken, else_taken}
use Rattle.unit_header.proofs.rows.pass_known.Goals as goal

pub returns-in_err-u8 : goal.returns-in_err-u8
returns-in_err-u8 c =
    let p = err_from_is_err_and c.from_residual.result c.from_residual.ensures.1 in
    rw (p.1, p.2) (sym c.loop.invariant ∙ after_known-next c.args.count c.loop.counter c.loop.cursor c.loop-test.true ∙ field_err _ _ _ c.in_err-u8.ensures.0)

pub returns-then-not-is_macro_form : goal.returns-then-not-is_macro_form
returns-then-not-is_macro_form c =
    sym c.loop.invariant ∙ after_known-next c.args.count c.loop.counter c.loop.cursor c.loop-test.true ∙ field_then _ _ _ c.in_ok-u8.ensures ∙ else_taken _ _ _ c.if-not-is_macro_form.ensures
    ∙ ap (λ n. Err (record { at = n; what = Form })) (sym c.at-at.ensures.place)

pub loop-preserved : goal.loop-preserved
loop-preserved c =
    sym (after_known-next c.args.count c.loop.counter c.loop.cursor c.loop-test.true ∙ field_then _ _ _ c.in_ok-u8.ensures ∙ then_taken _ _ _ c.if-not-is_macro_form.ensures) ∙ c.loop.invariant
