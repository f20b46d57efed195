use Rattle.dwmac_run.proofs.AnswerLemmas.{one_answer, some_answer}
use Rattle.dwmac_run.proofs.laws.each_run_has_one_answer.Goals as goal

pub returns : goal.returns
returns c words told stores has reads = let found = some_answer words told stores has in (found.0, found.1, λ other is. one_answer words told stores has reads other found.0 is found.1)
