use Rattle.std.proofs.Common.{◌≡◌, ◌-◌, [], ◌∷◌, sym, ap, ◌∙◌, arith, length-set, true, false}
use Rattle.std.proofs.lemmas.List.{length-replicate}
use Rattle.std.proofs.lemmas.Result.{err_from_is_err_and}
use Rattle.unit_header.specs.Reading.{after_rows}
use Rattle.unit_header.proofs.RowLemmas.{after_rows-barred, after_rows-err, after_rows-on, barred_by, is_seen_more, is_seen_none}
use Rattle.unit_header.proofs.rows.pass_rows.Goals as goal

pub loop-init : goal.loop-init
loop-init c = let all : c.args.count - 0 ≡ c.args.count = omega arith in ([], is_seen_none, length-replicate 256 false, ap (λ n. after_rows [] n c.args.cursor.now) all)

pub returns-then-is_barred : goal.returns-then-is_barred
returns-then-is_barred c =
    let seen = c.loop.invariant.0 in
    let barred = sym (barred_by c.loop.seen seen c.in_ok-opcode.opcode c.loop.invariant.1 (omega arith)) ∙ sym c.is_barred.ensures ∙ c.if-is_barred.true in
    sym c.loop.invariant.3 ∙ after_rows-barred seen c.args.count c.loop.counter c.at-at.result c.in_ok-opcode.opcode c.loop.cursor _ c.loop-test.true c.at-at.ensures.place c.in_ok-opcode.ensures barred

pub returns-in_err-pass_count : goal.returns-in_err-pass_count
returns-in_err-pass_count c =
    let p = err_from_is_err_and c.from_residual-in_err-pass_count.result c.from_residual-in_err-pass_count.ensures.1 in
    let seen = c.loop.invariant.0 in
    let free = sym (barred_by c.loop.seen seen c.in_ok-opcode.opcode c.loop.invariant.1 (omega arith)) ∙ sym c.is_barred.ensures ∙ c.if-is_barred.false in
    rw (p.1, p.2) (sym c.loop.invariant.3 ∙ after_rows-err seen c.args.count c.loop.counter c.at-at.result c.in_ok-opcode.opcode c.loop.cursor _ _ c.loop-test.true c.at-at.ensures.place c.in_ok-opcode.ensures free c.in_err-pass_count.ensures)

pub loop-preserved : goal.loop-preserved
loop-preserved c =
    let seen = c.loop.invariant.0 in
    let opcode = c.in_ok-opcode.opcode in
    let free = sym (barred_by c.loop.seen seen opcode c.loop.invariant.1 (omega arith)) ∙ sym c.is_barred.ensures ∙ c.if-is_barred.false in (
      opcode ∷ seen,
      is_seen_more c.loop.seen seen opcode (omega (arith, c.loop.invariant.2)) c.loop.invariant.1,
      length-set c.loop.seen opcode true ∙ c.loop.invariant.2,
      sym (after_rows-on seen c.args.count c.loop.counter c.at-at.result opcode c.loop.cursor _ _ c.loop-test.true c.at-at.ensures.place c.in_ok-opcode.ensures free c.in_ok-pass_count.ensures) ∙ c.loop.invariant.3,
    )
