use Rattle.std.proofs.Common.{ℕ, ◌≤◌, List, length, arith, subst, ap, sym, ◌∙◌}
use Rattle.mac_base.proofs.TableLemmas.{get_keyed}
use Rattle.string_sections.specs.Pool.{pool_bytes, pool_limit}
use Rattle.string_sections.specs.PoolTable.{place_in}
use Rattle.string_sections.proofs.PoolLemmas.{number_alone}
use Rattle.string_sections.proofs.pool.StrPool.offset_of.Goals as goal

pub returns-clause-place : goal.returns-clause-place
returns-clause-place c =
    c.copied.ensures ∙ c.get.ensures.value ∙ sym (number_alone _)
    ∙ sym (get_keyed (λ k. k.items) (λ n. n) c.self.inside.offsets.entries c.args.s.now)
    ∙ c.self.invariant.places c.args.s.now
    ∙ ap (λ (pool : List (List ℕ)). place_in pool c.args.s.now) c.self.view_is

pub returns-clause-small : goal.returns-clause-small
returns-clause-small c =
    let pool = c.self.invariant in
    subst (λ (strings : List (List ℕ)). length (pool_bytes strings) ≤ pool_limit) c.self.view_is (omega (arith, ap length pool.whole, pool.small))
