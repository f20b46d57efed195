-- Cited only by contracts of private functions. What the code of a pool keeps: its bytes, the lengths of the strings in them, and a table of these strings.
use Rattle.std.specs.Prelude.{◌≡◌, ℕ, ◌+◌, ◌≤◌, if◌then◌else◌, List, [], ◌∷◌, length, take, drop, Option, Some, None}
use Rattle.std.specs.Ordering.{nat_cmp}
use Rattle.std.specs.Cmp.Lexicographic.{slice_cmp}
use Rattle.std.specs.FinMap as finite
use Rattle.string_sections.specs.Pool.{has_string, offset_in, pool_bytes, pool_limit}

-- the strings of these lengths, each with a NUL after it
abbrev pub strings_in : List ℕ → List ℕ → List (List ℕ)
strings_in [] bytes = []
strings_in (n ∷ lengths) bytes = take n bytes ∷ strings_in lengths (drop (n + 1) bytes)

-- where a string is, if the pool has it
abbrev pub place_in : List (List ℕ) → List ℕ → Option ℕ
place_in pool s = if has_string pool s then Some (offset_in pool s) else None

-- the bytes are those of the strings of these lengths, and the table has the place of each
pub record IsPool (bytes lengths : List ℕ) (table : finite.FinMap (slice_cmp nat_cmp) ℕ) : Type 0 where
  pub whole : pool_bytes (strings_in lengths bytes) ≡ bytes
  pub small : length bytes ≤ pool_limit
  pub places : (s : List ℕ) → finite.get table s ≡ place_in (strings_in lengths bytes) s
