use Rattle.pp_unit.proofs.UnitTraces as lemma
use Rattle.pp_unit.proofs.tables_law.tables_agree.Goals as goal

pub returns-clause-same : goal.returns-clause-same
returns-clause-same c = lemma.tables_agree

pub returns-clause-there : goal.returns-clause-there
returns-clause-there c = lemma.tables_are_there

pub returns-clause-one_file : goal.returns-clause-one_file
returns-clause-one_file c = lemma.chains_name_one_file
