use Rattle.unit_header.proofs.HeaderLemmas.{header_takes, header_again, one_header}
use Rattle.unit_header.proofs.laws.headers_are_exact.Goals as goal

pub returns-clause-sound : goal.returns-clause-sound
returns-clause-sound c = header_takes

pub returns-clause-complete : goal.returns-clause-complete
returns-clause-complete c = header_again

pub returns-clause-unique : goal.returns-clause-unique
returns-clause-unique c = one_header
