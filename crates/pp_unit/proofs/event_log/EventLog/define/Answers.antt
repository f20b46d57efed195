use Rattle.pp_unit.proofs.EventLogLemmas.{sound_defined}
use Rattle.pp_unit.proofs.event_log.EventLog.define.Goals as goal

pub invariant_of-result : goal.invariant_of-result
invariant_of-result c =
    let inside = c.self.inside in
    sound_defined inside.list c.push.new.self inside.files inside.once c.args.self c.args.line c.args.text c.as_slice.result.now _ _ c.len-long.result inside.text inside.table c.define.new.self
    c.self.view_is c.in_ok-admit.ensures.few c.in_ok-admit.ensures.fits c.self.invariant c.in_ok-push.ensures.ok c.len-long.ensures c.in_ok-define.ensures.ok c.as_slice.ensures
