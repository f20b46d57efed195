use Rattle.std.proofs.lemmas.Result.{err_from_is_err_and}
use Rattle.std.proofs.lemmas.List.{nil_from_length}
use Rattle.macro_expand.proofs.PassLemmas.{put_next, put_fails, put_end}
use Rattle.macro_expand.proofs.substitution.argument_pass.put_tokens.Goals as goal

pub returns-in_err-before : goal.returns-in_err-before
returns-in_err-before c =
    let p = err_from_is_err_and c.from_residual.result c.from_residual.ensures.1 in
    rw (p.1, p.2) (put_fails _ _ _ c.loop-token.before c.in-Some.token.now c.in-Some.rest.now c.loop-token.left.now _ _ _ c.paste_follows-next.ensures c.in-Some.ensures.cases.0 c.loop-token.invariant c.in_err-before.field-0.0 c.in_err-before.ensures)

pub loop-token-preserved : goal.loop-token-preserved
loop-token-preserved c = put_next _ _ _ c.loop-token.before c.in-Some.token.now c.in-Some.rest.now c.loop-token.left.now _ _ _ c.paste_follows-next.ensures c.in-Some.ensures.cases.0 c.loop-token.invariant _ c.in_ok-before.before c.in_ok-before.ensures

pub returns : goal.returns
returns c = put_end _ _ _ c.loop-token.before c.loop-token.left.now _ _ (nil_from_length _ c.in_default.ensures.cases) c.loop-token.invariant
