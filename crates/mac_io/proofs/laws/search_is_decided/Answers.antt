use Rattle.mac_io.proofs.SomeSearchLemmas.{decided}
use Rattle.mac_io.proofs.laws.search_is_decided.Goals as goal

pub returns : goal.returns
returns c = decided
