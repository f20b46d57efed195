use Rattle.std.proofs.Common.{◌≡◌, ℕ, ◌+◌, ◌<◌, false, List, [], ◌∷◌, ◌++◌, length, ap, sym, ◌∙◌, arith}
use Rattle.string_sections.specs.Pool.{has_string, pool_bytes, pool_limit}
use Rattle.string_sections.specs.PoolTable.{strings_in}
use Rattle.string_sections.proofs.PoolLemmas.{pool_inserted, strings_put}
use Rattle.string_sections.proofs.pool.StrPool.push.Goals as goal
use Rattle.string_sections.proofs.pool.StrPool.push.Goals.{in-Ok-insert, in-Err-insert}

pub invariant_of-self-in-Ok-insert : goal.invariant_of-self-in-Ok-insert
invariant_of-self-in-Ok-insert c =
    let inside = c.self.inside in
    let s = c.args.s.now in
    let lacks : has_string (strings_in inside.lengths.items inside.bytes.items) s ≡ false = ap (λ (pool : List (List ℕ)). has_string pool s) c.self.view_is ∙ c.requires.absent in
    let long : length inside.bytes.items ≡ length (pool_bytes c.args.self.now) = sym (ap length c.self.invariant.whole) ∙ ap (λ (pool : List (List ℕ)). length (pool_bytes pool)) c.self.view_is in
    let room : length inside.bytes.items + length s < pool_limit = omega (arith, long, c.requires.room) in
    rw (c.in-Ok-insert.ensures.entries, c.in_ok-push_string.ensures.ok, c.in-Ok.ensures.items)
    (pool_inserted (λ k. k.items) inside.offsets.entries c.in_ok-key.key c.len-end.result inside.lengths.items inside.bytes.items s c.in_ok-key.ensures.items (omega (arith, c.len-end.ensures, inside.bytes.ok.0)) c.self.invariant lacks room)

pub returns-clause-ok : goal.returns-clause-ok
returns-clause-ok c = elim c.match-insert.branch [
  | in-Err-insert w ↦ rw w.result-is tt
  | in-Ok-insert w ↦ rw w.result-is (
      w.self-is ∙ ap (strings_in c.push.new.self.items) c.in_ok-push_string.ensures.ok
      ∙ ap (λ (lengths : List ℕ). strings_in lengths (c.self.inside.bytes.items ++ (c.args.s.now ++ 0 ∷ []))) c.in-Ok.ensures.items
      ∙ strings_put c.self.inside.lengths.items c.self.inside.bytes.items c.args.s.now c.self.invariant.whole
      ∙ ap (λ (pool : List (List ℕ)). pool ++ c.args.s.now ∷ []) c.self.view_is
      )
]
