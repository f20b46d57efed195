-- A pool is read by its offsets, and has exactly the strings that were added.
use Rattle.std.specs.Prelude.{◌≡◌, ◌≢◌, ℕ, List, [], ◌∷◌, ◌++◌, Bool, true, not, ◌&&◌, Some, IsTrue}
use Rattle.std.specs.List.{AllByRecursion}
use Rattle.string_sections.specs.Strings.{string_of}
use Rattle.string_sections.specs.Pool.{has_string, add_string, pool_of, pool_bytes, offset_in}

-- of a string without NUL that a pool has, the string at its offset in the pool's bytes is the string, whatever follows them
abbrev pub StringIsAtOffset : Type 0
StringIsAtOffset = (pool : List (List ℕ)) (s after : List ℕ) → IsTrue (has_string pool s) → AllByRecursion (λ b. b ≢ 0) s → string_of (pool_bytes pool ++ after) (offset_in pool s) ≡ Some s

-- strings of a pool that have the same offset are the same
abbrev pub OffsetsDiffer : Type 0
OffsetsDiffer = (pool : List (List ℕ)) (s t : List ℕ) → IsTrue (has_string pool s) → IsTrue (has_string pool t) → offset_in pool s ≡ offset_in pool t → s ≡ t

-- a string that is added keeps the strings of the pool at their offsets, and has the offset that it would have before
pub record AddingKeepsOffsets : Type 0 where
  pub others : (pool : List (List ℕ)) (s added : List ℕ) → IsTrue (has_string pool s) → IsTrue (has_string (add_string pool added) s) × (offset_in (add_string pool added) s ≡ offset_in pool s)
  pub itself : (pool : List (List ℕ)) (s : List ℕ) → IsTrue (has_string (add_string pool s) s) × (offset_in (add_string pool s) s ≡ offset_in pool s)

-- no string is twice in the list
abbrev pub are_different : List (List ℕ) → Bool
are_different [] = true
are_different (s ∷ strings) = not (has_string strings s) && are_different strings

-- a pool has exactly the strings that were added, and none twice
pub record PoolHasWhatIsAdded : Type 0 where
  pub members : (added : List (List ℕ)) (s : List ℕ) → has_string (pool_of added) s ≡ has_string added s
  pub once : (added : List (List ℕ)) → IsTrue (are_different (pool_of added))
