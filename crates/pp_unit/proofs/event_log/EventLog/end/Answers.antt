use Rattle.pp_unit.proofs.EventLogLemmas.{sound_ended}
use Rattle.pp_unit.proofs.event_log.EventLog.end.Goals as goal

pub invariant_of-result : goal.invariant_of-result
invariant_of-result c =
    let inside = c.self.inside in
    sound_ended inside.list c.push.new.self inside.files inside.once c.args.self inside.text inside.table
    c.self.view_is c.in_ok-admit.ensures.few c.in_ok-admit.ensures.fits c.self.invariant c.in_ok-push.ensures.ok
