use Rattle.pp_unit.proofs.SomeWalkLemmas.{walk_some_answer}
use Rattle.pp_unit.proofs.walk_law.walk_has_an_answer.Goals as goal

pub returns : goal.returns
returns c = walk_some_answer
