use Rattle.std.proofs.Common.{subst, sym}
use Rattle.macro_query.specs.Limits.{Answers}
use Rattle.dwmac_run.specs.declared.request.Query.{Query}
use Rattle.dwmac_run.specs.Answer.{QuerySays}
use Rattle.dwmac_run.proofs.perform.ask.Goals as goal

pub returns-in-Unit : goal.returns-in-Unit
returns-in-Unit c = subst (λ (q : Query). Answers c.unit.result (QuerySays q c.args.bytes.now)) (sym c.in-Unit.is) c.unit.ensures

pub returns-in-Dump : goal.returns-in-Dump
returns-in-Dump c = subst (λ (q : Query). Answers c.dump.result (QuerySays q c.args.bytes.now)) (sym c.in-Dump.is) c.dump.ensures
