use Rattle.std.proofs.Common.{◌≤◌, ◌+◌, List, ℕ, length, sym, subst}
use Rattle.std.specs.Prelude.{position}
use Rattle.pp_tokens.specs.Kinds.{same}
use Rattle.pp_unit.proofs.EventLogLemmas.{sound_started, with_path-long}
use Rattle.pp_unit.proofs.event_log.EventLog.start.Goals as goal

pub invariant_of-result : goal.invariant_of-result
invariant_of-result c =
    let inside = c.self.inside in
    let long : length c.in_ok-files.files ≤ length inside.files + 1 = subst (λ (paths : List (List ℕ)). length paths ≤ length inside.files + 1) (sym c.in_ok-files.ensures) (with_path-long inside.files c.args.path.now (position (same c.args.path.now) inside.files)) in
    sound_started inside.list c.push.new.self inside.files c.in_ok-files.files inside.once c.args.self c.args.line c.number_of-file.result inside.text inside.table
    c.self.view_is c.in_ok-admit.ensures.few c.in_ok-admit.ensures.fits c.self.invariant c.in_ok-push.ensures.ok long
