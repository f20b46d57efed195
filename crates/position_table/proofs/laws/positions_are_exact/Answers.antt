use Rattle.position_table.proofs.SpellingLemmas.{spelled, read}
use Rattle.position_table.proofs.laws.positions_are_exact.Goals as goal

pub returns : goal.returns
returns c = record { spelled = spelled; read = read }
