use Rattle.std.proofs.Common.{◌≡◌, List, ℕ, [], ◌∷◌, ◌++◌, Ok, inr, refl, ap, subst, sym, ◌∙◌}
use Rattle.std.specs.Option.{option_map}
use Rattle.mac_base.specs.Input.{Input}
use Rattle.unit_header.specs.Header.{header_of}
use Rattle.unit_header.specs.Reading.{header_at}
use Rattle.macro_opcodes.specs.Entry.{entry_of}
use Rattle.macro_query.specs.UnitLines.{report}
use Rattle.mac_base.specs.ReportText.{Tells}
use Rattle.macro_query.proofs.LineLemmas.{report_more}
use Rattle.macro_query.proofs.ReadingLemmas.{read_none, read_more, read_all, less_left}
use Rattle.macro_query.proofs.QueryLemmas.{stopped}
use Rattle.macro_query.proofs.unit_report.report_of.Goals as goal

pub loop-report-init : goal.loop-report-init
loop-report-init g c =
    let read = subst (λ (z : Input). header_at z ≡ Ok (header_of c.in_ok-header.header, c.read_header.new.cursor)) c.new-cursor.ensures c.in_ok-header.ensures in
    ([], read_none (option_map (λ s. s.now.bytes.now) c.args.strs) c.args.section.now c.args.offset _ _ read, c.new-report.ensures)

pub loop-report-smaller : goal.loop-report-smaller
loop-report-smaller g c =
    let read = c.in_ok-entry.ensures.entry ∙ ap (λ o. Ok (option_map entry_of o, c.read_entry.new.cursor)) c.in-Some.is in
    less_left _ _ _ _ read

pub loop-report-preserved : goal.loop-report-preserved
loop-report-preserved g c =
    let read = c.in_ok-entry.ensures.entry ∙ ap (λ o. Ok (option_map entry_of o, c.read_entry.new.cursor)) c.in-Some.is in
    let so_far = c.loop-report.invariant in
    let added = c.in_ok-add.ensures.told in
    let told = added.2 (report so_far.0) so_far.2 in
    (so_far.0 ++ added.0 ∷ [], read_more _ _ _ _ _ _ _ _ _ so_far.1 read added.1, subst (λ (xs : List ℕ). Tells c.add.new.report.is_long c.add.new.report.text.items xs) (sym (report_more so_far.0 added.0)) told)

pub returns-in_err-add : goal.returns-in_err-add
returns-in_err-add g c =
    let read = c.in_ok-entry.ensures.entry ∙ ap (λ o. Ok (option_map entry_of o, c.read_entry.new.cursor)) c.in-Some.is in
    stopped _ _ _ _ _ _ _ _ _ _ c.loop-report.invariant.1 read c.in_err-add.ensures.stop c.from_residual-in_err-add.ensures.1

pub returns : goal.returns
returns g c =
    let read = c.in_ok-entry.ensures.entry ∙ ap (λ o. Ok (option_map entry_of o, c.read_entry.new.cursor)) c.in_default.is in
    let so_far = c.loop-report.invariant in
    inr (Ok (report so_far.0), read_all _ _ _ _ _ _ so_far.0 (report so_far.0) so_far.1 read refl, c.finished.ensures (report so_far.0) so_far.2)
