use Rattle.std.proofs.Common.{◌∙◌, sym, map}
use Rattle.std.proofs.lemmas.Result.{err_from_is_err_and}
use Rattle.macro_expand.specs.States.{argument_of, piece_of}
use Rattle.macro_expand.proofs.PassLemmas.{put_word_ok, put_word_err}
use Rattle.macro_expand.proofs.substitution.argument_pass.put_token.Goals as goal

pub returns-in_err-put_word : goal.returns-in_err-put_word
returns-in_err-put_word c =
    let p = err_from_is_err_and c.from_residual-in_err-put_word.result c.from_residual-in_err-put_word.ensures.1 in
    rw (p.1, p.2) (put_word_err c.args.name.now c.args.calls (map argument_of c.args.args.now) _ c.args.next c.args.token.now (map piece_of c.args.cells.now.items) (sym c.is_paste.ensures ∙ c.if-is_paste.false) (sym c.makes_string.ensures ∙ c.if-makes_string.false) c.in_err-put_word.field-0.0 c.in_err-put_word.ensures)

pub returns : goal.returns
returns c = put_word_ok c.args.name.now c.args.calls (map argument_of c.args.args.now) _ c.args.next c.args.token.now (map piece_of c.args.cells.now.items) (sym c.is_paste.ensures ∙ c.if-is_paste.false) (sym c.makes_string.ensures ∙ c.if-makes_string.false) _ c.in_ok-put_word.ensures
