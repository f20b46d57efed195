use Rattle.std.proofs.Common.{sym, ◌∙◌, ap}
use Rattle.std.specs.Option.{is_some}
use Rattle.std.proofs.lemmas.Result.{err_from_is_err_and}
use Rattle.pp_tokens.proofs.ScanLemmas.{continues-more, takes-smaller, scans-err}
use Rattle.pp_tokens.proofs.scanning.scan.Goals as goal

pub pieces-smaller : goal.pieces-smaller
pieces-smaller c = takes-smaller c.args.lines c.pieces.builder c.step.new.builder c.pieces.chars c.step.new.chars c.in_ok-step.ensures.step

pub pieces-preserved : goal.pieces-preserved
pieces-preserved c = record { so_far = continues-more c.args.lines c.args.builder.now c.args.chars.now c.pieces.builder c.pieces.chars c.step.new.builder c.step.new.chars c.pieces.invariant.so_far c.in_ok-step.ensures.step; known = c.in_ok-step.ensures.known }

pub returns-in_err-step : goal.returns-in_err-step
returns-in_err-step c =
    let p = err_from_is_err_and c.from_residual.result c.from_residual.ensures.1 in
    rw (p.1, p.2) (scans-err c.args.lines c.args.builder.now c.args.chars.now c.pieces.builder c.pieces.chars c.step.new.builder c.step.new.chars _ c.pieces.invariant.so_far (ap is_some (sym c.peek.ensures) ∙ sym c.is_some.ensures ∙ c.pieces-test.true) c.in_err-step.ensures.step)
