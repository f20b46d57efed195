use Rattle.pp_unit.proofs.OneWalkLemmas.{walk_one_answer}
use Rattle.pp_unit.proofs.walk_law.walk_has_one_answer.Goals as goal

pub returns : goal.returns
returns c = walk_one_answer
