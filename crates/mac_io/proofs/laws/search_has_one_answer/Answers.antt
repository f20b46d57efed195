use Rattle.mac_io.proofs.OneSearchLemmas.{one_answer}
use Rattle.mac_io.proofs.laws.search_has_one_answer.Goals as goal

pub returns : goal.returns
returns c = one_answer
