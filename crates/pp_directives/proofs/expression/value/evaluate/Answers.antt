use Rattle.std.proofs.Common.{Ok, inr, ap, sym, ◌∙◌}
use Rattle.std.proofs.lemmas.Result.{err_from_is_err_and}
use Rattle.pp_directives.proofs.AnswerLemmas.{answer_spelled, answer_fault, answer_refused}
use Rattle.pp_directives.proofs.expression.value.evaluate.Goals as goal

pub returns-in_err-symbols : goal.returns-in_err-symbols
returns-in_err-symbols c =
    let p = err_from_is_err_and c.from_residual.result c.from_residual.ensures.1 in
    rw (p.1, p.2, ← c.as_slice.ensures) (answer_refused c.as_slice.result.now c.in_err-symbols.field-0.0 c.in_err-symbols.ensures.err)

pub returns-in_err-read : goal.returns-in_err-read
returns-in_err-read c =
    let p = err_from_is_err_and c.from_residual-in_err-read.result c.from_residual-in_err-read.ensures.1 in
    let symbols = c.in_ok-symbols.ensures.ok ∙ ap Ok (sym c.as_slice-2.ensures.value) in
    rw (p.1, p.2, ← c.as_slice.ensures) (answer_fault c.as_slice.result.now c.as_slice-2.result.now c.in_err-read.field-0.0 symbols c.in_err-read.ensures)

pub returns : goal.returns
returns c =
    let symbols = c.in_ok-symbols.ensures.ok ∙ ap Ok (sym c.as_slice-2.ensures.value) in
    rw (c.holds.ensures, ← c.as_slice.ensures) (inr (answer_spelled c.as_slice.result.now c.as_slice-2.result.now c.in_ok-read.read symbols c.in_ok-read.ensures))
