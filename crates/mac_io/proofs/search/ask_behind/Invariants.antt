use Rattle.std.proofs.Common.{◌≡◌, ℕ, List, length}
use Rattle.mac_io.specs.Search.{Finds}
use Rattle.mac_io.specs.declared.headers.Located.{Located}
use Rattle.mac_io.proofs.SearchLemmas.{from}
use Rattle.mac_io.proofs.search.ask_behind.Given as goal

abbrev pub invariant-loop-store : goal.invariant-loop-store
invariant-loop-store g l =
    (g.S.Stores.stores l.stores ≡ g.S.Stores.stores l.fn.stores)
    × (g.S.Stores.count l.stores ≡ g.S.Stores.count l.fn.stores)
    × (g.S.Stores.counts l.stores ≡ g.S.Stores.counts l.fn.stores)
    × (g.S.Stores.folders l.stores ≡ g.S.Stores.folders l.fn.stores)
    × (l.into.items ≡ l.fn.into.items)
    × (l.store-end ≡ length (g.S.Stores.stores l.fn.stores))
    × ((answer : Located) (new : List ℕ) → Finds (g.S.Stores.stores l.fn.stores) (from l.store (length (g.S.Stores.stores l.fn.stores)) l.name) answer l.fn.into.items new
    → Finds (g.S.Stores.stores l.fn.stores) (from 1 (length (g.S.Stores.stores l.fn.stores)) l.name) answer l.fn.into.items new)
