use Rattle.std.proofs.Common.{take}
use Rattle.sha2.specs.Hashers.{Holds256}
use Rattle.unit_splitter.specs.Names.{spelled_plainly}
use Rattle.unit_splitter.proofs.digest.digest_of.Given as goal

abbrev pub invariant-loop-entry : goal.invariant-loop-entry
invariant-loop-entry l = Holds256 l.hasher (spelled_plainly (take l.entry-index l.entries))
