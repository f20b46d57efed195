use Rattle.mac_io.proofs.ByteLemmas.{bytes_at, bytes_found}
use Rattle.mac_io.proofs.laws.files_are_bytes.Goals as goal

pub returns-clause-stores : goal.returns-clause-stores
returns-clause-stores c = bytes_at

pub returns-clause-search : goal.returns-clause-search
returns-clause-search c = bytes_found
