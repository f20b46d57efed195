use Rattle.std.proofs.Common.{ℕ, All}
use Rattle.macro_table.specs.Tables.{TableOf}
use Rattle.macro_expand.specs.ParsedMacros.{IsSoundLookup}
use Rattle.macro_expand.proofs.rescan.lookup_memo.free_places.Given as goal

abbrev pub invariant-loop : goal.invariant-loop
invariant-loop l = (table : TableOf ℕ) → All (IsSoundLookup table) l.recent.items
