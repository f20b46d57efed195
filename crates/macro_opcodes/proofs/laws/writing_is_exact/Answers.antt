use Rattle.macro_opcodes.proofs.WritingLemmas.{entry_spelled, entry_written}
use Rattle.macro_opcodes.proofs.laws.writing_is_exact.Goals as goal

pub returns : goal.returns
returns c = record { spelled = entry_spelled; again = entry_written }
