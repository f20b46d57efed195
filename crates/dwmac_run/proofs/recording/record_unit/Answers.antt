use Rattle.std.proofs.Common.{◌≡◌, List, ℕ, subst}
use Rattle.std.specs.Prelude.{IfSome}
use Rattle.dwmac_run.specs.Outcome.{answer_of}
use Rattle.dwmac_run.specs.Answers.{Answer}
use Rattle.dwmac_run.specs.Record.{recorded}
use Rattle.dwmac_run.proofs.RecordLemmas.{record_ok}
use Rattle.dwmac_run.proofs.recording.record_unit.Goals as goal

pub returns-in-Ok-clause-answer : goal.returns-in-Ok-clause-answer
returns-in-Ok-clause-answer g c =
    record_ok (g.P.Headers.stores c.args.path.now) c.args.unit.now c.args.forms c.args.output c.in-Ok.events (answer_of c.store.result) c.in-Ok.ensures.walked
    (subst (λ (source : List ℕ). IfSome (answer_of c.store.result) (λ (a : Answer). a ≡ recorded source c.in-Ok.events.files c.in-Ok.events.list c.args.forms c.args.output)) c.as_slice.ensures c.store.ensures.answer)
