use Rattle.std.proofs.Common.{◌≡◌, List, ◌+◌, ◌-◌, Ok, Err, inr, sym, ◌∙◌, subst, arith}
use Rattle.std.proofs.lemmas.Result.{err_from_is_err_and}
use Rattle.line_names.specs.declared.format.Content.{Content}
use Rattle.line_names.specs.Format.{content_at}
use Rattle.line_names.proofs.FormatLemmas.{contents_more, contents_stop}
use Rattle.line_names.proofs.format.read_contents.Goals as goal

pub returns-in_err-content : goal.returns-in_err-content
returns-in_err-content c =
    let p = err_from_is_err_and c.from_residual.result c.from_residual.ensures.1 in
    let read = subst (λ (xs : List Content). content_at xs c.loop-index.cursor ≡ Err c.in_err-content.field-0.0) c.as_slice.ensures.value c.in_err-content.ensures in
    rw (p.1, p.2) (inr (sym c.loop-index.invariant ∙ contents_stop _ _ _ _ (omega arith) read))

pub loop-index-preserved : goal.loop-index-preserved
loop-index-preserved c =
    let less : c.args.count - (c.loop-index._index + 1) ≡ c.args.count - c.loop-index._index - 1 = omega arith in
    let read = subst (λ (xs : List Content). content_at xs c.loop-index.cursor ≡ Ok (c.in_ok-content.content, c.read_content.new.cursor)) c.as_slice.ensures.value c.in_ok-content.ensures in
    rw (c.in_ok-push.ensures.items, less) (sym (contents_more _ _ _ _ _ (omega arith) read) ∙ c.loop-index.invariant)
