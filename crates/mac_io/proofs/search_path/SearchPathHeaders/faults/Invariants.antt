use Rattle.std.proofs.Common.{◌≡◌, ◌+◌, take, sum_by}
use Rattle.mac_io.specs.Causes.{capped}
use Rattle.mac_io.proofs.search_path.SearchPathHeaders.faults.Given as goal

abbrev pub invariant-loop-store : goal.invariant-loop-store
invariant-loop-store g l = l.faults ≡ capped (l.self.retired + sum_by (λ s. (goal.HeaderStore-dyn g (s.store.vtable, s.store.value)).count s.store.value) (take l.store-index l.self.stores.items))
