use Rattle.line_names.proofs.TableLemmas.{table_takes, table_again, one_table}
use Rattle.line_names.proofs.laws.files_are_exact.Goals as goal

pub returns-clause-sound : goal.returns-clause-sound
returns-clause-sound c = table_takes

pub returns-clause-complete : goal.returns-clause-complete
returns-clause-complete c = table_again

pub returns-clause-unique : goal.returns-clause-unique
returns-clause-unique c = one_table
