use Rattle.std.proofs.Common.{◌≡◌, map}
use Rattle.std.specs.Map.Iter.{deref}
use Rattle.std.specs.FinMap as finite
use Rattle.position_table.proofs.KeptLemmas.{put_all}
use Rattle.position_table.proofs.draft.table_in.Given as goal

abbrev pub invariant-loop-definition : goal.invariant-loop-definition
invariant-loop-definition l = l.table ≡ put_all l.files finite.empty (map deref l.yielded)
