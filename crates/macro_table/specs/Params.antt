-- Names that are found by their bytes.
use Rattle.std.specs.Prelude.{◌≡◌, ℕ, List}
use Rattle.std.specs.List.{list_any}
use Rattle.std.specs.Ordering.{nat_cmp, is_eq}
use Rattle.std.specs.Cmp.Lexicographic.{slice_cmp}
use Rattle.pp_tokens.specs.Kinds.{same}

-- the sorted names are the same as those in order
abbrev pub AreKnown : List (List ℕ) → List (List ℕ) → Type 0
AreKnown known names = (q : List ℕ) → list_any (λ name. is_eq (slice_cmp nat_cmp q name)) known ≡ list_any (same q) names
