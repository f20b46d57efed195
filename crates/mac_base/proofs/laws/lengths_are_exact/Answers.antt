use Rattle.mac_base.proofs.LengthLemmas.{length-takes, length-again, one_length}
use Rattle.mac_base.proofs.laws.lengths_are_exact.Goals as goal

pub returns-clause-sound : goal.returns-clause-sound
returns-clause-sound c = length-takes

pub returns-clause-complete : goal.returns-clause-complete
returns-clause-complete c = length-again

pub returns-clause-unique : goal.returns-clause-unique
returns-clause-unique c = one_length
