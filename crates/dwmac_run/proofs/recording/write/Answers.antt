use Rattle.dwmac_run.proofs.RecordLemmas.{writable}
use Rattle.dwmac_run.proofs.recording.write.Goals as goal

pub written_object-requires : goal.written_object-requires
written_object-requires c = writable c.in_ok-split.split c.args.events.list c.in_ok-split.ensures
