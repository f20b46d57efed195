-- How many bytes the files that are kept have together.
use Rattle.std.proofs.Common.{◌≡◌, ◌+◌, ◌≤◌, ℕ, List, sum_by, arith, sym, subst}
use Rattle.std.specs.BTreeMap.{insert_entry}
use Rattle.std.specs.Map.{keys_of, values_of}
use Rattle.std.specs.List.Sorted.{IsStrictlySortedBy}
use Rattle.std.specs.Ordering.{nat_cmp}
use Rattle.std.proofs.lemmas.Cmp.{nat_cmp_total}
use Rattle.std.proofs.lemmas.Map.Entries.{sum_by-insert_entry}

-- one more entry, which may replace another
pub kept_with : {X : Type 0} (f : X → ℕ) (old new : List (ℕ × X)) (number : ℕ) (x : X) (kept long : ℕ) → IsStrictlySortedBy nat_cmp (keys_of old) → new ≡ insert_entry nat_cmp old number x → f x ≡ long →
    sum_by f (values_of old) ≤ kept → sum_by f (values_of new) ≤ kept + long
kept_with {X = X} f old new number x kept long sorted is has open_file =
    subst (λ (es : List (ℕ × X)). sum_by f (values_of es) ≤ kept + long) (sym is) (omega (arith, sum_by-insert_entry f nat_cmp_total old number x sorted, has, open_file))
