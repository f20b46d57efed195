-- When a call of the outside may fail, by the count of faults that each object keeps.
use Rattle.std.specs.Prelude.{◌≡◌, ℕ, ◌+◌, ◌-◌, ◌^◌, ◌<◌, ◌≤◌, min, List, length, slice_index_or, slice_set}
use Rattle.std.specs.List.{sum}

-- one more; the greatest number of 64 bits stays
abbrev pub risen : ℕ → ℕ
risen count = min (count + 1) (2 ^ 64 - 1)

-- the count has risen, or is the greatest number
abbrev pub Rose : ℕ → ℕ → Type 0
Rose before now = risen before ≤ now

-- A call fails only where the object's count rose, and the count rises only where the call fails. It never falls.
pub record HasCause (before now : ℕ) (failed : Type 0) : Type 0 where
  pub later : before ≤ now
  pub rose : failed → Rose before now
  pub kept : (failed → ⊥) → now ≡ before

-- a sum of counts, at most the greatest number of 64 bits
abbrev pub capped : ℕ → ℕ
capped count = min count (2 ^ 64 - 1)

-- The counts of faults of a path: what was counted of stores that it no longer has, and the count of each of its stores, in order.
pub record Counts : Type 0 where
  pub retired : ℕ
  pub stores : List ℕ

-- all of them together
abbrev pub total : Counts → ℕ
total counts = capped (counts.retired + sum counts.stores)

-- A call of a path fails only where the count of one of its stores rose, and then no other count changes. Where it doesn't fail, no count
-- changes. The retired count never does.
pub record HasStoreCause (before now : Counts) (failed : Type 0) : Type 0 where
  pub retired : now.retired ≡ before.retired
  pub rose : failed → (store : ℕ) × (count : ℕ) × (store < length before.stores) × Rose (slice_index_or before.stores store 0) count × (now.stores ≡ slice_set before.stores store count)
  pub kept : (failed → ⊥) → now ≡ before
