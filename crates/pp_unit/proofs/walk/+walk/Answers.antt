use Rattle.std.proofs.Common.{arith, ◌≡◌, refl, sym, ◌∙◌, subst, ap, List, true, Ok, Err, inl}
use Rattle.pp_directives.specs.declared.conditional.open_section.OpenSection.{OpenSection}
use Rattle.pp_directives.specs.Conditions.{is_active}
use Rattle.std.proofs.lemmas.List.{drop_all}
use Rattle.std.proofs.Common.{◌<◌, ◌+◌, length, suc, drop, inr}
use Rattle.pp_unit.specs.declared.open_file.OpenFile.{OpenFile}
use Rattle.pp_unit.specs.Files.{Stores, Walks, Enters, IncludesFound, DoesInclude, inside, last_number}
use Rattle.pp_unit.specs.Seen.{macros, started, added}
use Rattle.mac_base.specs.Items.{End}
use Rattle.pp_unit.specs.HeaderNames.{NamesHeader}
use Rattle.pp_unit.specs.LineConditions.{operands, here_of}
use Rattle.pp_unit.specs.Stopping.{with_marks, StopComesTo}
use Rattle.pp_unit.proofs.FileLemmas.{unnamed, told_name, deep, searched, finds_at, file_unlexed, file_ends, file_end_fails, file_stops, runs_lines, refused_what, file_failed, stop_failed, unlexed_plain}
use Rattle.pp_unit.specs.Lines.{Directs}
use Rattle.pp_unit.proofs.EnterLemmas.{left_inside, frames_inside, start_stops, enter_goes, enter_fails, told_start, not_found, not_found_failed, failed_search, found_is, found_no_failure, once_found, stop_map, entered_found}
use Rattle.pp_unit.proofs.WalkLemmas.{stop_by, LineSteps, runs_all, runs_more, runs_stop, runs_end, runs_unclosed}
use Rattle.pp_unit.proofs.StepLemmas.{stopped_out, told, included_steps, directed_steps}
use Rattle.pp_unit.proofs.PassLemmas.{acting_steps}
use Rattle.pp_unit.proofs.CauseLemmas.{no_cause, as_failed, cause_at, failed_to, failed_from, handed_plain, answered_plain, plain_out, plain_comes, plain_answers, plain_added, plain_started, plain_directs, plain_header}
use Rattle.pp_unit.proofs.walk.+walk.Goals as goal

pub follow_line-returns-then-is_include-clause-step : goal.follow_line-returns-then-is_include-clause-step
follow_line-returns-then-is_include-clause-step g t c pending active =
    included_steps (g.P.Headers.stores c.args.path.now) c.args.open_file.now pending c.args.line.now c.args.log c.args.directive.now c.include.result
    c.requires.known c.requires.other active (sym c.if-is_include.ensures) c.include.ensures.included

pub follow_line-returns-then-is_include-clause-cause : goal.follow_line-returns-then-is_include-clause-cause
follow_line-returns-then-is_include-clause-cause g t c = c.include.ensures.cause

pub follow_line-returns-clause-step : goal.follow_line-returns-clause-step
follow_line-returns-clause-step g t c pending active =
    directed_steps (g.P.Headers.stores c.args.path.now) c.args.open_file.now pending c.args.line.now c.args.log c.args.directive.now c.follow_directive.result c.in_line.result
    c.requires.known c.requires.other active (sym c.if-is_include.ensures) c.follow_directive.ensures c.in_line.ensures

pub follow_line-returns-clause-cause : goal.follow_line-returns-clause-cause
follow_line-returns-clause-cause g t c =
    no_cause _ _ _ refl (answered_plain c.args.line.now.number c.follow_directive.result c.in_line.result c.in_line.ensures
    (plain_comes (Directs c.args.open_file.now c.args.line.now c.args.directive.now c.args.log) c.follow_directive.result (plain_directs c.args.open_file.now c.args.line.now c.args.directive.now c.args.log) c.follow_directive.ensures))

pub follow_lines-loop-line-init : goal.follow_lines-loop-line-init
follow_lines-loop-line-init g t c = record { same = refl; kept = refl; runs = runs_all _ _ _ _ _ c.new-pending.ensures }

pub follow_lines-loop-line-preserved-in_default : goal.follow_lines-loop-line-preserved-in_default
follow_lines-loop-line-preserved-in_default g t c = record {
  same = c.loop-line.invariant.same;
  kept = c.loop-line.invariant.kept;
  runs = runs_more (g.P.Headers.stores c.args.path.now) c.args.open_file.now c.args.lines.now c.args.log c.loop-line.pending c.classify_line.new.pending c.loop-line.line-index c.line-item.result c.loop-line.log c.loop-line.log
      c.loop-line-test.true c.line-item.is c.loop-line.invariant.runs ((rw c.in_default.is at c.in_ok-acts.ensures.step) (g.P.Headers.stores c.args.path.now));
}

pub follow_lines-loop-line-preserved : goal.follow_lines-loop-line-preserved
follow_lines-loop-line-preserved g t c = record {
  same = c.in_ok-log.ensures.same ∙ c.loop-line.invariant.same;
  kept = c.in_ok-log.ensures.cause.kept (λ never. never) ∙ c.loop-line.invariant.kept;
  runs = runs_more (g.P.Headers.stores c.args.path.now) c.args.open_file.now c.args.lines.now c.args.log c.loop-line.pending c.classify_line.new.pending c.loop-line.line-index c.line-item.result c.loop-line.log c.in_ok-log.log
      c.loop-line-test.true c.line-item.is c.loop-line.invariant.runs
      (acting_steps (g.P.Headers.stores c.args.path.now) c.args.open_file.now c.loop-line.pending c.classify_line.new.pending c.line-item.result c.loop-line.log c.in-Some.directive (Ok c.in_ok-log.log) (rw c.in-Some.is at c.in_ok-acts.ensures.step)
      (subst (λ (s : Stores). (pending : List OpenSection) → is_active pending ≡ true → LineSteps s c.args.open_file.now pending c.line-item.result c.loop-line.log (Ok c.in_ok-log.log) pending) c.loop-line.invariant.same c.in_ok-log.ensures.step));
}

pub follow_lines-returns-in_err-acts-clause-run : goal.follow_lines-returns-in_err-acts-clause-run
follow_lines-returns-in_err-acts-clause-run g t c =
    runs_stop (g.P.Headers.stores c.args.path.now) c.args.open_file.now c.args.lines.now c.args.log c.loop-line.pending c.classify_line.new.pending c.loop-line.line-index c.line-item.result c.loop-line.log c.in_err-acts.field-0.0 c.from_residual.result
    c.loop-line-test.true c.line-item.is c.loop-line.invariant.runs (c.in_err-acts.ensures.step (g.P.Headers.stores c.args.path.now)) c.from_residual.ensures.1

pub follow_lines-returns-in_err-acts-clause-cause : goal.follow_lines-returns-in_err-acts-clause-cause
follow_lines-returns-in_err-acts-clause-cause g t c =
    no_cause _ _ _ c.loop-line.invariant.kept (λ h. c.in_err-acts.ensures.plain (failed_from c.from_residual.result c.in_err-acts.field-0.0 c.from_residual.ensures.1 h))

pub follow_lines-returns-in_err-log-clause-run : goal.follow_lines-returns-in_err-log-clause-run
follow_lines-returns-in_err-log-clause-run g t c =
    runs_stop (g.P.Headers.stores c.args.path.now) c.args.open_file.now c.args.lines.now c.args.log c.loop-line.pending c.classify_line.new.pending c.loop-line.line-index c.line-item.result c.loop-line.log c.in_err-log.field-0.0 c.from_residual-in_err-log.result
    c.loop-line-test.true c.line-item.is c.loop-line.invariant.runs
    (acting_steps (g.P.Headers.stores c.args.path.now) c.args.open_file.now c.loop-line.pending c.classify_line.new.pending c.line-item.result c.loop-line.log c.in-Some.directive (Err c.in_err-log.field-0.0) (rw c.in-Some.is at c.in_ok-acts.ensures.step)
    (subst (λ (s : Stores). (pending : List OpenSection) → is_active pending ≡ true → LineSteps s c.args.open_file.now pending c.line-item.result c.loop-line.log (Err c.in_err-log.field-0.0) pending) c.loop-line.invariant.same c.in_err-log.ensures.step))
    c.from_residual-in_err-log.ensures.1

pub follow_lines-returns-in_err-log-clause-cause : goal.follow_lines-returns-in_err-log-clause-cause
follow_lines-returns-in_err-log-clause-cause g t c =
    as_failed _ _ _ _ (failed_to c.from_residual-in_err-log.result c.in_err-log.field-0.0 c.from_residual-in_err-log.ensures.1) (failed_from c.from_residual-in_err-log.result c.in_err-log.field-0.0 c.from_residual-in_err-log.ensures.1)
    (cause_at _ _ _ _ c.loop-line.invariant.kept c.in_err-log.ensures.cause)

pub follow_lines-returns-in-None-clause-run : goal.follow_lines-returns-in-None-clause-run
follow_lines-returns-in-None-clause-run g t c =
    runs_end (g.P.Headers.stores c.args.path.now) c.args.open_file.now c.args.lines.now c.args.log c.loop-line.pending (drop c.loop-line.line-index c.args.lines.now) c.loop-line.log (drop_all c.loop-line.line-index c.args.lines.now (omega arith)) (sym c.in-None.ensures) c.loop-line.invariant.runs

pub follow_lines-returns-in-None-clause-cause : goal.follow_lines-returns-in-None-clause-cause
follow_lines-returns-in-None-clause-cause g t c = no_cause _ _ _ c.loop-line.invariant.kept (λ never. never)

pub follow_lines-returns-in-Some-open_line-clause-run : goal.follow_lines-returns-in-Some-open_line-clause-run
follow_lines-returns-in-Some-open_line-clause-run g t c =
    runs_unclosed (g.P.Headers.stores c.args.path.now) c.args.open_file.now c.args.lines.now c.args.log c.loop-line.pending (drop c.loop-line.line-index c.args.lines.now) c.loop-line.log c.in-Some-open_line.line (drop_all c.loop-line.line-index c.args.lines.now (omega arith)) (sym c.in-Some-open_line.ensures) c.loop-line.invariant.runs

pub follow_lines-returns-in-Some-open_line-clause-cause : goal.follow_lines-returns-in-Some-open_line-clause-cause
follow_lines-returns-in-Some-open_line-clause-cause g t c = no_cause _ _ _ c.loop-line.invariant.kept (λ is. cc)

pub enter-returns-in_err-open_file-clause-entered : goal.enter-returns-in_err-open_file-clause-entered
enter-returns-in_err-open_file-clause-entered g t c left marks has =
    let stores = g.P.Headers.stores c.args.path.now in
    stop_by c.args.outer.now (Enters stores (Walks stores (suc left)) c.args.outer.now c.args.line c.args.id c.args.bytes.now (with_marks c.args.log marks)) c.from_residual.result c.in_err-open_file.field-0.0 c.from_residual.ensures.1
    (inl (stopped_out c.args.line c.included.result c.in_err-open_file.field-0.0 c.in_err-open_file.ensures c.included.ensures.err))

pub enter-returns-in_err-open_file-clause-cause : goal.enter-returns-in_err-open_file-clause-cause
enter-returns-in_err-open_file-clause-cause g t c =
    no_cause _ _ _ refl (handed_plain c.args.line c.included.result c.in_err-open_file.field-0.0 c.from_residual.result c.in_err-open_file.ensures (plain_out c.included.result c.included.ensures.err) c.from_residual.ensures.1)

pub enter-returns-in_err-log-clause-entered : goal.enter-returns-in_err-log-clause-entered
enter-returns-in_err-log-clause-entered g t c left marks has =
    let stores = g.P.Headers.stores c.args.path.now in
    stop_by c.args.outer.now (Enters stores (Walks stores (suc left)) c.args.outer.now c.args.line c.args.id c.args.bytes.now (with_marks c.args.log marks)) c.from_residual-in_err-log.result c.in_err-log.field-0.0 c.from_residual-in_err-log.ensures.1
    (start_stops stores (Walks stores (suc left)) c.args.outer.now c.in_ok-open_file.open_file c.args.line c.args.id c.args.bytes.now c.as_slice.result.now c.args.log marks c.start.result c.in_err-log.field-0.0
    (told c.args.line c.included.result c.in_ok-open_file.open_file (λ (w : OpenFile). w ≡ inside stores c.args.outer.now c.args.line c.args.id c.args.log) c.in_ok-open_file.ensures c.included.ensures.ok) c.as_slice.ensures c.start.ensures c.in_err-log.ensures)

pub enter-returns-in_err-log-clause-cause : goal.enter-returns-in_err-log-clause-cause
enter-returns-in_err-log-clause-cause g t c =
    no_cause _ _ _ refl (handed_plain c.args.line c.start.result c.in_err-log.field-0.0 c.from_residual-in_err-log.result c.in_err-log.ensures
    (plain_answers c.start.result (started c.args.log c.args.line c.as_slice.result.now) (plain_started c.args.log c.args.line c.as_slice.result.now) c.start.ensures) c.from_residual-in_err-log.ensures.1)

pub enter-returns-in-Ok-clause-entered : goal.enter-returns-in-Ok-clause-entered
enter-returns-in-Ok-clause-entered g t c left marks has =
    let stores = g.P.Headers.stores c.args.path.now in
    let is = told c.args.line c.included.result c.in_ok-open_file.open_file (λ (w : OpenFile). w ≡ inside stores c.args.outer.now c.args.line c.args.id c.args.log) c.in_ok-open_file.ensures c.included.ensures.ok in
    enter_goes stores (Walks stores (suc left)) c.args.outer.now c.in_ok-open_file.open_file c.args.line c.args.id c.args.bytes.now c.as_slice.result.now c.args.log c.in_ok-log.log c.in-Ok.log marks is c.as_slice.ensures
    (told_start c.args.line c.start.result c.in_ok-log.log _ c.in_ok-log.ensures c.start.ensures)
    (c.in-Ok.ensures.walked left marks (left_inside stores left c.args.outer.now c.in_ok-open_file.open_file c.args.line c.args.id c.args.log is has))

pub enter-returns-in-Ok-clause-cause : goal.enter-returns-in-Ok-clause-cause
enter-returns-in-Ok-clause-cause g t c = c.in-Ok.ensures.cause

pub enter-returns-in-Err-clause-entered : goal.enter-returns-in-Err-clause-entered
enter-returns-in-Err-clause-entered g t c left marks has =
    let stores = g.P.Headers.stores c.args.path.now in
    let is = told c.args.line c.included.result c.in_ok-open_file.open_file (λ (w : OpenFile). w ≡ inside stores c.args.outer.now c.args.line c.args.id c.args.log) c.in_ok-open_file.ensures c.included.ensures.ok in
    enter_fails stores (Walks stores (suc left)) c.args.outer.now c.in_ok-open_file.open_file c.args.line c.args.id c.args.bytes.now c.as_slice.result.now c.args.log c.in_ok-log.log marks c.in-Err.fault is c.as_slice.ensures
    (told_start c.args.line c.start.result c.in_ok-log.log _ c.in_ok-log.ensures c.start.ensures)
    (c.in-Err.ensures.walked left marks (left_inside stores left c.args.outer.now c.in_ok-open_file.open_file c.args.line c.args.id c.args.log is has))

pub enter-returns-in-Err-clause-cause : goal.enter-returns-in-Err-clause-cause
enter-returns-in-Err-clause-cause g t c = c.in-Err.ensures.cause

pub include_found-returns-in-Err-clause-opened : goal.include_found-returns-in-Err-clause-opened
include_found-returns-in-Err-clause-opened g t c left marks has =
    let stores = g.P.Headers.stores c.args.path.now in
    not_found stores (Walks stores (suc left)) c.args.outer.now c.args.line c.args.name (with_marks c.args.log marks) c.args.located c.args.bytes.now c.in-Err.what c.in-Err.ensures

pub include_found-returns-in-Err-clause-cause : goal.include_found-returns-in-Err-clause-cause
include_found-returns-in-Err-clause-cause g t c before had =
    as_failed _ _ _ _ (not_found_failed c.args.located c.args.name c.in-Err.what c.in-Err.ensures) (failed_search c.args.located c.args.name c.in-Err.what c.in-Err.ensures) had

pub include_found-returns-then-is_once-clause-opened : goal.include_found-returns-then-is_once-clause-opened
include_found-returns-then-is_once-clause-opened g t c left marks has =
    let stores = g.P.Headers.stores c.args.path.now in
    once_found stores (Walks stores (suc left)) c.args.outer.now c.args.line c.args.name c.args.log marks c.args.located c.in-Ok.id c.args.bytes.now (found_is c.args.located c.args.name c.in-Ok.id c.in-Ok.ensures) c.if-is_once.ensures

pub include_found-returns-then-is_once-clause-cause : goal.include_found-returns-then-is_once-clause-cause
include_found-returns-then-is_once-clause-cause g t c before had =
    as_failed _ _ _ _ (found_no_failure c.args.located c.in-Ok.id (found_is c.args.located c.args.name c.in-Ok.id c.in-Ok.ensures)) (λ never. absurd never) had

pub include_found-returns-clause-opened : goal.include_found-returns-clause-opened
include_found-returns-clause-opened g t c left marks has =
    let stores = g.P.Headers.stores c.args.path.now in
    stop_map c.args.outer.now (Enters stores (Walks stores (suc left)) c.args.outer.now c.args.line c.in-Ok.id c.args.bytes.now (with_marks c.args.log marks))
    (IncludesFound stores (Walks stores (suc left)) c.args.outer.now c.args.line c.args.name (with_marks c.args.log marks) c.args.located c.args.bytes.now)
    (λ r enters. entered_found stores (Walks stores (suc left)) c.args.outer.now c.args.line c.args.name (with_marks c.args.log marks) c.args.located c.in-Ok.id c.args.bytes.now r (found_is c.args.located c.args.name c.in-Ok.id c.in-Ok.ensures) c.if-is_once.ensures enters)
    c.enter.result (c.enter.ensures.entered left marks has)

pub include_found-returns-clause-cause : goal.include_found-returns-clause-cause
include_found-returns-clause-cause g t c before had =
    cause_at _ _ _ _ (had.kept (found_no_failure c.args.located c.in-Ok.id (found_is c.args.located c.args.name c.in-Ok.id c.in-Ok.ensures))) c.enter.ensures.cause

pub include-returns-in_err-header-clause-included : goal.include-returns-in_err-header-clause-included
include-returns-in_err-header-clause-included g t c left marks has =
    let stores = g.P.Headers.stores c.args.path.now in
    stop_by c.args.open_file.now (DoesInclude stores left (Walks stores left) c.args.open_file.now c.args.line.now (with_marks c.args.log marks)) c.from_residual.result c.in_err-header.field-0.0 c.from_residual.ensures.1
    (unnamed stores left c.args.open_file.now c.args.line.now c.args.log marks c.header_of.result c.in_err-header.field-0.0 c.header_of.ensures c.in_err-header.ensures)

pub include-returns-in_err-header-clause-cause : goal.include-returns-in_err-header-clause-cause
include-returns-in_err-header-clause-cause g t c =
    no_cause _ _ _ refl (handed_plain c.args.line.now.number c.header_of.result c.in_err-header.field-0.0 c.from_residual.result c.in_err-header.ensures
    (plain_comes (NamesHeader (macros c.args.log) (here_of c.args.open_file.now c.args.line.now) (operands c.args.line.now)) c.header_of.result (plain_header (macros c.args.log) (here_of c.args.open_file.now c.args.line.now) (operands c.args.line.now)) c.header_of.ensures)
    c.from_residual.ensures.1)

pub include-returns-then-len-ge-OPEN_LIMIT-clause-included : goal.include-returns-then-len-ge-OPEN_LIMIT-clause-included
include-returns-then-len-ge-OPEN_LIMIT-clause-included g t c left marks has =
    inr (deep (g.P.Headers.stores c.args.path.now) left c.args.open_file.now c.args.line.now (with_marks c.args.log marks) c.in_ok-header.header has (omega arith)
    (told_name c.args.line.now.number (NamesHeader (macros c.args.log) (here_of c.args.open_file.now c.args.line.now) (operands c.args.line.now)) c.header_of.result c.in_ok-header.header c.header_of.ensures c.in_ok-header.ensures))

pub include-returns-then-len-ge-OPEN_LIMIT-clause-cause : goal.include-returns-then-len-ge-OPEN_LIMIT-clause-cause
include-returns-then-len-ge-OPEN_LIMIT-clause-cause g t c = no_cause _ _ _ refl (λ is. cc)

pub include-returns-clause-included : goal.include-returns-clause-included
include-returns-clause-included g t c left marks has =
    let stores = g.P.Headers.stores c.args.path.now in
    let few : length c.args.open_file.now.frames < 200 = omega arith in
    searched stores left c.args.open_file.now c.args.line.now c.args.log marks c.in_ok-header.header c.find-located.result c.as_slice-2.result.now c.include_found.result has few
    (told_name c.args.line.now.number (NamesHeader (macros c.args.log) (here_of c.args.open_file.now c.args.line.now) (operands c.args.line.now)) c.header_of.result c.in_ok-header.header c.header_of.ensures c.in_ok-header.ensures)
    (finds_at stores c.args.open_file.now.id c.in_ok-header.header.form c.in_ok-header.header.name c.as_slice.result.now c.find-located.result _ _ c.as_slice-2.result.now c.find-located.ensures.answer c.as_slice.ensures c.new-bytes.ensures.items c.as_slice-2.ensures.value)
    (λ l ms room. subst (λ (s : Stores). StopComesTo c.args.open_file.now (IncludesFound s (Walks s (suc l)) c.args.open_file.now c.args.line.now.number c.in_ok-header.header.name (with_marks c.args.log ms) c.find-located.result c.as_slice-2.result.now) c.include_found.result)
    c.find-located.ensures.same (c.include_found.ensures.opened l ms room))

pub include-returns-clause-cause : goal.include-returns-clause-cause
include-returns-clause-cause g t c = c.include_found.ensures.cause _ c.find-located.ensures.cause

pub walk_file-returns-in-Err-clause-walked : goal.walk_file-returns-in-Err-clause-walked
walk_file-returns-in-Err-clause-walked g t c left marks has =
    file_unlexed (g.P.Headers.stores c.args.path.now) left c.args.open_file c.args.bytes.now (with_marks c.args.log marks) _ _ c.refuse.result c.in-Err.ensures.err c.refuse.ensures

pub walk_file-returns-in-Err-clause-cause : goal.walk_file-returns-in-Err-clause-cause
walk_file-returns-in-Err-clause-cause g t c =
    no_cause _ _ _ refl (λ failed. unlexed_plain c.args.bytes.now _ _ c.in-Err.ensures.err (sym (refused_what c.args.open_file _ _ c.refuse.result c.refuse.ensures) ∙ failed))

pub walk_file-returns-in-Ok-end-clause-walked : goal.walk_file-returns-in-Ok-end-clause-walked
walk_file-returns-in-Ok-end-clause-walked g t c left marks has =
    let stores = g.P.Headers.stores c.args.path.now in
    file_ends stores left c.args.open_file c.args.bytes.now (with_marks c.args.log marks) c.in-Ok.lines c.in-Ok-follow_lines.log c.in-Ok-end.log c.in-Ok.ensures.ok
    (runs_lines stores left c.args.open_file marks _ c.args.log _ c.in-Ok.lines (Ok c.in-Ok-follow_lines.log) c.in-Ok.ensures.same c.as_slice-2.ensures (c.in-Ok-follow_lines.ensures.run left marks has))
    c.in-Ok-end.ensures

pub walk_file-returns-in-Ok-end-clause-cause : goal.walk_file-returns-in-Ok-end-clause-cause
walk_file-returns-in-Ok-end-clause-cause g t c = c.in-Ok-follow_lines.ensures.cause

pub walk_file-returns-in-Err-end-clause-walked : goal.walk_file-returns-in-Err-end-clause-walked
walk_file-returns-in-Err-end-clause-walked g t c left marks has =
    let stores = g.P.Headers.stores c.args.path.now in
    file_end_fails stores left c.args.open_file c.args.bytes.now (with_marks c.args.log marks) c.in-Ok.lines c.in-Ok-follow_lines.log c.last_number.result c.in-Err-end.what c.refuse-in-Err-end.result c.in-Ok.ensures.ok
    (runs_lines stores left c.args.open_file marks _ c.args.log _ c.in-Ok.lines (Ok c.in-Ok-follow_lines.log) c.in-Ok.ensures.same c.as_slice-2.ensures (c.in-Ok-follow_lines.ensures.run left marks has))
    (c.last_number.ensures ∙ ap (last_number 0) c.as_slice-in-Err-end.ensures) c.in-Err-end.ensures c.refuse-in-Err-end.ensures

pub walk_file-returns-in-Err-end-clause-cause : goal.walk_file-returns-in-Err-end-clause-cause
walk_file-returns-in-Err-end-clause-cause g t c =
    no_cause _ _ _ (c.in-Ok-follow_lines.ensures.cause.kept (λ never. never))
    (λ failed. plain_answers (Err c.in-Err-end.what) (added c.in-Ok-follow_lines.log End) (plain_added c.in-Ok-follow_lines.log End) c.in-Err-end.ensures (sym (refused_what c.args.open_file c.last_number.result c.in-Err-end.what c.refuse-in-Err-end.result c.refuse-in-Err-end.ensures) ∙ failed))

pub walk_file-returns-in-Err-follow_lines-clause-walked : goal.walk_file-returns-in-Err-follow_lines-clause-walked
walk_file-returns-in-Err-follow_lines-clause-walked g t c left marks has =
    let stores = g.P.Headers.stores c.args.path.now in
    file_stops stores left c.args.open_file c.args.bytes.now (with_marks c.args.log marks) c.in-Ok.lines c.in-Err-follow_lines.stop c.stop.result c.in-Ok.ensures.ok
    (runs_lines stores left c.args.open_file marks _ c.args.log _ c.in-Ok.lines (Err c.in-Err-follow_lines.stop) c.in-Ok.ensures.same c.as_slice-2.ensures (c.in-Err-follow_lines.ensures.run left marks has))
    c.stop.ensures

pub walk_file-returns-in-Err-follow_lines-clause-cause : goal.walk_file-returns-in-Err-follow_lines-clause-cause
walk_file-returns-in-Err-follow_lines-clause-cause g t c =
    as_failed _ _ _ _ (file_failed c.args.open_file c.in-Err-follow_lines.stop c.stop.result c.stop.ensures) (stop_failed c.args.open_file c.in-Err-follow_lines.stop c.stop.result c.stop.ensures) c.in-Err-follow_lines.ensures.cause

pub enter-walk_file-requires : goal.enter-walk_file-requires
enter-walk_file-requires g t c κs open_file =
    let stores = g.P.Headers.stores c.args.path.now in
    let is : c.in_ok-open_file.open_file ≡ inside stores c.args.outer.now c.args.line c.args.id c.args.log =
    told c.args.line c.included.result c.in_ok-open_file.open_file (λ (w : OpenFile). w ≡ inside stores c.args.outer.now c.args.line c.args.id c.args.log) c.in_ok-open_file.ensures c.included.ensures.ok in
    let longer : length c.in_ok-open_file.open_file.frames ≡ length c.args.outer.now.frames + 1 = frames_inside stores c.args.outer.now c.in_ok-open_file.open_file c.args.line c.args.id c.args.log is in
    let store : c.in_ok-open_file.open_file.id.store < length stores = subst (λ (w : OpenFile). w.id.store < length stores) (sym is) c.requires.store in
    (omega arith, (open_file, (store, omega arith)))
