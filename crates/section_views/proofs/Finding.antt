-- The first section for which a test holds, found by going through the numbers.
use Rattle.std.proofs.Common.{◌≡◌, ℕ, zero, suc, ◌+◌, ◌-◌, ◌<◌, ◌≤◌, Bool, true, false, cond, List, [], ◌∷◌, length, get_or, map, Option, Some, None, refl, sym, inl, inr, ap, ◌∙◌, subst, arith}
use Rattle.std.specs.List.{find, range_with_len}
use Rattle.std.specs.Option.{option_or}
use Rattle.std.proofs.lemmas.List.FromFn.{map-range_with_len_more, get_or-map-range_with_len, length-map-range_with_len}
use Rattle.mac_base.proofs.Choices.{chosen, same_some}
use Rattle.std.proofs.lemmas.List.Folds.{find-append}

-- the values at the numbers from 1 on below n
abbrev pub before : {X : Type 0} → (ℕ → X) → ℕ → List X
before f n = map f (range_with_len 1 (n - 1))

one : {X : Type 0} → (X → Bool) → X → Option X
one p x = cond (p x) (Some x) None

-- one more number
pub find_more : {X : Type 0} (f : ℕ → X) (p : X → Bool) (n : ℕ) → 1 ≤ n → find p (before f (n + 1)) ≡ option_or (find p (before f n)) (cond (p (f n)) (Some (f n)) None)
find_more f p n low =
    let place : 1 + (n - 1) ≡ n = omega arith in
    let more : n + 1 - 1 ≡ n - 1 + 1 = omega arith in
    ap (λ k. find p (map f (range_with_len 1 k))) more ∙ ap (find p) (map-range_with_len_more f 1 (n - 1) n place) ∙ find-append p (before f n) (f n ∷ [])

pub find_none_more : {X : Type 0} (f : ℕ → X) (p : X → Bool) (n : ℕ) → 1 ≤ n → find p (before f n) ≡ None → p (f n) ≡ false → find p (before f (n + 1)) ≡ None
find_none_more f p n low none fails = find_more f p n low ∙ rw (none, fails) refl

stays : {X : Type 0} (f : ℕ → X) (p : X → Bool) (x : X) (n d : ℕ) → 1 ≤ n → find p (before f n) ≡ Some x → find p (before f (n + d)) ≡ Some x
stays f p x n zero low found = let same : n + 0 ≡ n = omega arith in rw same found
stays f p x n (suc d) low found =
    let next : n + suc d ≡ n + d + 1 = omega arith in
    let earlier = stays f p x n d low found in
    ap (λ k. find p (before f k)) next ∙ find_more f p (n + d) (omega arith) ∙ rw earlier refl

-- what is found first among some is found first among more
pub find_stays : {X : Type 0} (f : ℕ → X) (p : X → Bool) (x : X) (n m : ℕ) → 1 ≤ n → n ≤ m → find p (before f n) ≡ Some x → find p (before f m) ≡ Some x
find_stays f p x n m low less found =
    let far : n + (m - n) ≡ m = omega arith in
    subst (λ k. find p (before f k) ≡ Some x) far (stays f p x n (m - n) low found)

-- the first number for which the test holds
pub find_hit : {X : Type 0} (f : ℕ → X) (p : X → Bool) (n m : ℕ) → 1 ≤ n → n < m → find p (before f n) ≡ None → p (f n) ≡ true → find p (before f m) ≡ Some (f n)
find_hit f p n m low less none holds = find_stays f p (f n) (n + 1) m (omega arith) (omega arith) (find_more f p n low ∙ rw (none, holds) refl)

not_true : {A : Type 0} (b : Bool) (x : A) (o : Option A) → cond b (Some x) o ≡ None → (b ≡ false) × (o ≡ None)
not_true true x o none = cc
not_true false x o none = (refl, none)

miss : {X : Type 0} (p : X → Bool) (xs : List X) (i : ℕ) (d : X) → find p xs ≡ None → i < length xs → p (get_or xs i d) ≡ false
miss p [] i d none within = absurd (omega arith)
miss p (x ∷ xs) zero d none within = (not_true (p x) x (find p xs) none).0
miss p (x ∷ xs) (suc i) d none within = miss p xs i d (not_true (p x) x (find p xs) none).1 (omega arith)

-- no number is found, so the test holds at none
pub find_miss : {X : Type 0} (f : ℕ → X) (p : X → Bool) (n m : ℕ) → 1 ≤ n → n < m → find p (before f m) ≡ None → p (f n) ≡ false
find_miss f p n m low less none =
    let place : 1 + (n - 1) ≡ n = omega arith in
    let long = length-map-range_with_len f 1 (m - 1) in
    let within : n - 1 < length (before f m) = omega arith in
    subst (λ x. p x ≡ false) (get_or-map-range_with_len f 1 (m - 1) (n - 1) n (f n) (omega arith) place) (miss p (before f m) (n - 1) (f n) none within)

found : {X : Type 0} (p : X → Bool) (xs : List X) (x d : X) → find p xs ≡ Some x → (i : ℕ) × (i < length xs) × (get_or xs i d ≡ x) × (p x ≡ true)
found p [] x d is = cc
found p (y ∷ ys) x d is =
    elim (chosen (p y) (Some y) (find p ys) (Some x) is) [
      | inl here ↦
          let same : y ≡ x = same_some y x here.1 in
          (0, omega arith, same, ap p (sym same) ∙ here.0)
      | inr later ↦
          let rest = found p ys x d later.1 in
          (suc rest.0, omega (arith, rest.1), rest.2, rest.3)
    ]

-- what is found has a number, and the test holds for it
pub find_found : {X : Type 0} (f : ℕ → X) (p : X → Bool) (m : ℕ) (x : X) → find p (before f m) ≡ Some x → (n : ℕ) × (1 ≤ n) × (n < m) × (f n ≡ x) × (p x ≡ true)
find_found f p m x is =
    let here = found p (before f m) x x is in
    let long = length-map-range_with_len f 1 (m - 1) in
    let within : here.0 < m - 1 = omega (arith, here.1, long) in
    (1 + here.0, omega arith, omega arith, sym (get_or-map-range_with_len f 1 (m - 1) here.0 (1 + here.0) x within refl) ∙ here.2, here.3)
