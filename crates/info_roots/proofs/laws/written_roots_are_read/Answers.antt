use Rattle.info_roots.proofs.WrittenLemmas.{unit_spelled, roots_spelled, written_again}
use Rattle.info_roots.proofs.laws.written_roots_are_read.Goals as goal

pub returns-clause-unit : goal.returns-clause-unit
returns-clause-unit c = unit_spelled

pub returns-clause-roots : goal.returns-clause-roots
returns-clause-roots c = record { roots = roots_spelled; read = written_again }
