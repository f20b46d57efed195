-- The first byte that passes a test ends a field.
use Rattle.std.proofs.Common.{◌≡◌, ℕ, zero, suc, ◌+◌, ◌-◌, ◌*◌, ◌%◌, ◌<◌, ◌≤◌, Bool, true, false, eqb, ltb, cond, List, [], ◌∷◌, length, get_or, take, drop, Option, Some, None, refl, ap, ◌∙◌, sym, arith, length-drop, ℤ, pos, ◌+ℤ◌, ◌*ℤ◌}
use Rattle.std.proofs.lemmas.List.{drop_more}
use Rattle.std.proofs.lemmas.Int.{ints}
use Rattle.std.specs.Int.{w64}
use Rattle.std.specs.Int.RustNames.{FitsSigned}
use Rattle.std.proofs.lemmas.List.Quantifiers.{position-Some}
use Rattle.std.proofs.lemmas.Iterator.Adapters.{position_from-zero}
use Rattle.std.specs.List.{position, position_from}
use Rattle.std.specs.Option.{option_map}
use Rattle.mac_base.specs.Fields.{before_nul, leb_digits, unsigned_leb, signed_leb}

pub before_nul_first : (xs : List ℕ) (k : ℕ) → k < length xs → eqb (get_or xs k 0) 0 ≡ true → ((j : ℕ) → j < k → eqb (get_or xs j 0) 0 ≡ false) → before_nul xs ≡ Some (take k xs)
before_nul_first [] k within here before = absurd (omega arith)
before_nul_first (b ∷ bs) zero within here before = rw here refl
before_nul_first (b ∷ bs) (suc k) within here before =
    let other : eqb b 0 ≡ false = before 0 (omega arith) in
    let later : before_nul bs ≡ Some (take k bs) = before_nul_first bs k (omega arith) here (λ j h. before (suc j) (omega arith)) in
    rw (other, later) refl

pub before_nul_none : (xs : List ℕ) → ((j : ℕ) → j < length xs → eqb (get_or xs j 0) 0 ≡ false) → before_nul xs ≡ None
before_nul_none [] none = refl
before_nul_none (b ∷ bs) none =
    let other : eqb b 0 ≡ false = none 0 (omega arith) in
    let later : before_nul bs ≡ None = before_nul_none bs (λ j h. none (suc j) (omega arith)) in
    rw (other, later) refl

digits_first : (xs : List ℕ) (k : ℕ) → k < length xs → ltb (get_or xs k 0) 128 ≡ true → ((j : ℕ) → j < k → ltb (get_or xs j 0) 128 ≡ false) → leb_digits xs ≡ Some (take (suc k) xs)
digits_first [] k within here before = absurd (omega arith)
digits_first (b ∷ bs) zero within here before = rw here refl
digits_first (b ∷ bs) (suc k) within here before =
    let other : ltb b 128 ≡ false = before 0 (omega arith) in
    let later : leb_digits bs ≡ Some (take (suc k) bs) = digits_first bs k (omega arith) here (λ j h. before (suc j) (omega arith)) in
    rw (other, later) refl

none_on : {A B : Type 0} (t : Bool) (i : A) (p : Option A) (one : B) (f : B → B) (more : Option B) → None ≡ cond t (Some i) p → (None ≡ p → more ≡ None) → cond t (Some one) (option_map f more) ≡ None
none_on true i p one f more is later = cc
none_on false i p one f more is later = rw (later is) refl

no_last : (xs : List ℕ) (i : ℕ) → None ≡ position_from (λ b. ltb b 128) i xs → leb_digits xs ≡ None
no_last [] i none = refl
no_last (b ∷ bs) i none = none_on (ltb b 128) i _ _ _ (leb_digits bs) none (no_last bs (i + 1))

pub leb_digits-no_position : (xs : List ℕ) → None ≡ position (λ b. ltb b 128) xs → leb_digits xs ≡ None
leb_digits-no_position xs none = no_last xs 0 (none ∙ position_from-zero (λ b. ltb b 128) xs)

pub leb_digits-position : (xs : List ℕ) (k : ℕ) → Some k ≡ position (λ b. ltb b 128) xs → leb_digits xs ≡ Some (take (k + 1) xs)
leb_digits-position xs k is =
    let found = position-Some (λ b. ltb b 128) xs k 0 (sym is) in
    let more : suc k ≡ k + 1 = omega arith in
    digits_first xs k found.0 found.1 found.2 ∙ ap (λ n. Some (take n xs)) more

pub unsigned_leb-drop-le : (xs : List ℕ) (i : ℕ) → unsigned_leb (drop i xs) ≤ unsigned_leb xs
unsigned_leb-drop-le xs zero = omega arith
unsigned_leb-drop-le [] (suc i) = omega arith
unsigned_leb-drop-le (b ∷ bs) (suc i) = omega (arith, unsigned_leb-drop-le bs i)

pub unsigned_leb-drop : (xs : List ℕ) (i : ℕ) → 0 < i → i ≤ length xs → unsigned_leb (drop (i - 1) xs) ≡ get_or xs (i - 1) 0 % 128 + 128 * unsigned_leb (drop i xs)
unsigned_leb-drop xs i some within =
    let less : i - 1 < length xs = omega arith in
    let next : i - 1 + 1 ≡ i = omega arith in
    ap unsigned_leb (drop_more xs (i - 1) 0 less) ∙ ap (λ n. get_or xs (i - 1) 0 % 128 + 128 * unsigned_leb (drop n xs)) next

below_is_signed : (d : ℕ) (z : ℤ) → FitsSigned w64 (pos d +ℤ pos 128 *ℤ z) → d < 128 → FitsSigned w64 z
below_is_signed d z fits low = omega (arith, ints)

pub signed_leb-fits-drop : (xs : List ℕ) (i : ℕ) → i < length xs → FitsSigned w64 (signed_leb xs) → FitsSigned w64 (signed_leb (drop i xs))
signed_leb-fits-drop xs zero within fits = fits
signed_leb-fits-drop [] (suc i) within fits = absurd (omega arith)
signed_leb-fits-drop (b ∷ []) (suc i) within fits = absurd (omega arith)
signed_leb-fits-drop (b ∷ c ∷ bs) (suc i) within fits =
    signed_leb-fits-drop (c ∷ bs) i (omega arith) (below_is_signed (b % 128) (signed_leb (c ∷ bs)) fits (omega arith))

more_digits : (b : ℕ) (bs : List ℕ) → 0 < length bs → signed_leb (b ∷ bs) ≡ pos (b % 128) +ℤ pos 128 *ℤ signed_leb bs
more_digits b [] some = absurd (omega arith)
more_digits b (c ∷ bs) some = refl

pub signed_leb-drop : (xs : List ℕ) (i : ℕ) → 0 < i → i < length xs → signed_leb (drop (i - 1) xs) ≡ pos (get_or xs (i - 1) 0 % 128) +ℤ pos 128 *ℤ signed_leb (drop i xs)
signed_leb-drop xs i some within =
    let less : i - 1 < length xs = omega arith in
    let next : i - 1 + 1 ≡ i = omega arith in
    let left : 0 < length (drop (i - 1 + 1) xs) = omega (arith, length-drop (i - 1 + 1) xs) in
    ap signed_leb (drop_more xs (i - 1) 0 less) ∙ more_digits (get_or xs (i - 1) 0) (drop (i - 1 + 1) xs) left
    ∙ ap (λ n. pos (get_or xs (i - 1) 0 % 128) +ℤ pos 128 *ℤ signed_leb (drop n xs)) next
