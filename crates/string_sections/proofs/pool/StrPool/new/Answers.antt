use Rattle.string_sections.proofs.PoolLemmas.{pool_none}
use Rattle.string_sections.proofs.pool.StrPool.new.Goals as goal

pub invariant_of-result : goal.invariant_of-result
invariant_of-result c = pool_none (λ k. k.items) c.new.result.items c.new-2.result.items c.new-3.result.entries c.new.ensures.items c.new-2.ensures.items c.new-3.ensures.empty
