use Rattle.unit_header.proofs.WritingLemmas.{header_spelled, header_written}
use Rattle.unit_header.proofs.laws.writing_is_exact.Goals as goal

pub returns : goal.returns
returns c = record { spelled = header_spelled; again = header_written }
