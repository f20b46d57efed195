use Rattle.string_sections.proofs.ContributionLemmas.{spelled_found, written_spelled}
use Rattle.string_sections.proofs.laws.offsets_are_exact.Goals as goal

pub returns-clause-found : goal.returns-clause-found
returns-clause-found c = spelled_found

pub returns-clause-written : goal.returns-clause-written
returns-clause-written c = written_spelled
