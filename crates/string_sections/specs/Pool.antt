-- A pool of strings, which is a string section (DWARF 5, 7.5.5 and 7.26): its different strings in the order in which they were added first, and its bytes.
use Rattle.std.specs.Prelude.{ℕ, ◌+◌, nat_lt, Bool, if◌then◌else◌, List, [], ◌∷◌, ◌++◌, length, bytes_eq}
use Rattle.std.specs.List.{list_any, fold, flat_map}

-- whether a pool has a string
abbrev pub has_string : List (List ℕ) → List ℕ → Bool
has_string pool s = list_any (bytes_eq s) pool

-- the pool with a string: as it is where it has the string, else with it at the end
abbrev pub add_string : List (List ℕ) → List ℕ → List (List ℕ)
add_string pool s = if has_string pool s then pool else pool ++ s ∷ []

-- each different string once, in order of first adding, out of all that are added
abbrev pub pool_of : List (List ℕ) → List (List ℕ)
pool_of added = fold add_string [] added

-- each string with its NUL
abbrev pub pool_bytes : List (List ℕ) → List ℕ
pool_bytes pool = flat_map (λ s. s ++ 0 ∷ []) pool

-- how many bytes are before the string: the strings before its first place, each with its NUL, and all of the pool where it lacks the string
abbrev pub offset_in : List (List ℕ) → List ℕ → ℕ
offset_in [] s = 0
offset_in (first ∷ pool) s = if bytes_eq s first then 0 else length first + 1 + offset_in pool s

-- the most bytes that a pool may have
abbrev pub pool_limit : ℕ
pool_limit = 1_073_741_824

-- whether a pool would have more bytes with a string
abbrev pub is_too_large_with : List (List ℕ) → List ℕ → Bool
is_too_large_with pool s = nat_lt pool_limit (length (pool_bytes (add_string pool s)))
