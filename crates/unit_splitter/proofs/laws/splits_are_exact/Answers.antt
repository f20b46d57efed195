use Rattle.unit_splitter.proofs.LongestLemmas.{longest}
use Rattle.unit_splitter.proofs.RestoringLemmas.{gives_back}
use Rattle.unit_splitter.proofs.WellMadeLemmas.{well_made}
use Rattle.unit_splitter.proofs.laws.splits_are_exact.Goals as goal

pub returns-clause-restored : goal.returns-clause-restored
returns-clause-restored c = gives_back

pub returns-clause-well_made : goal.returns-clause-well_made
returns-clause-well_made c = well_made

pub returns-clause-longest : goal.returns-clause-longest
returns-clause-longest c = longest
