use Rattle.info_roots.proofs.UnitListLemmas.{roots_takes, roots_again, one_list, units_follow}
use Rattle.info_roots.proofs.laws.roots_are_exact.Goals as goal

pub returns-clause-sound : goal.returns-clause-sound
returns-clause-sound c = roots_takes

pub returns-clause-complete : goal.returns-clause-complete
returns-clause-complete c = roots_again

pub returns-clause-unique : goal.returns-clause-unique
returns-clause-unique c = one_list

pub returns-clause-amid : goal.returns-clause-amid
returns-clause-amid c = units_follow
