use Rattle.line_names.proofs.WrittenLemmas.{table_spelled, table_read}
use Rattle.line_names.proofs.laws.written_files_are_exact.Goals as goal

pub returns-clause-spelled : goal.returns-clause-spelled
returns-clause-spelled c = table_spelled

pub returns-clause-read : goal.returns-clause-read
returns-clause-read c = table_read
