-- Lemmas on the spelling of constants.
use Rattle.std.proofs.Common.{Option, sym, eq-eqb, Bool, true, false, if◌then◌else◌, ◌==◌, ◌++◌, Some, refl, ap, ◌∙◌, None, ◌≡◌, ℕ, suc, ◌+◌, ◌&&◌, List, [], ◌∷◌, take, arith}
use Rattle.std.specs.Prelude.{IsTrue}
use Rattle.std.proofs.lemmas.Bool.{ne_eqb}
use Rattle.std.specs.Option.{option_map}
use Rattle.std.specs.List.{list_all, prefix_len}
use Rattle.pp_directives.specs.Constants.{before_quote}

-- a byte after what comes before a byte
chosen : (b : ℕ) (test : Bool) (front : List ℕ) → option_map (λ f. b ∷ f) (if test then Some front else None) ≡ (if test then Some (b ∷ front) else None)
chosen b true front = refl
chosen b false front = refl

-- a list with a last byte
pub before_quote-append : (front : List ℕ) (x : ℕ) → before_quote (front ++ x ∷ []) ≡ (if x == 39 then Some front else None)
before_quote-append [] x = refl
before_quote-append (b ∷ []) x = chosen b (x == 39) []
before_quote-append (b ∷ c ∷ cs) x = ap (option_map (λ f. b ∷ f)) (before_quote-append (c ∷ cs) x) ∙ chosen b (x == 39) (c ∷ cs)

pub before_quote-quote : (text front : List ℕ) (x : ℕ) → text ≡ front ++ x ∷ [] → x ≡ 39 → ◌≡◌ {A = Option (List ℕ)} (Some front) (before_quote text)
before_quote-quote text front x e q =
    sym (ap before_quote e ∙ before_quote-append front x ∙ ap (λ test. if test then Some front else None) (eq-eqb x 39 q))

pub before_quote-other : (text front : List ℕ) (x : ℕ) → text ≡ front ++ x ∷ [] → (x ≡ 39 → ⊥) → ◌≡◌ {A = Option (List ℕ)} None (before_quote text)
before_quote-other text front x e q =
    sym (ap before_quote e ∙ before_quote-append front x ∙ ap (λ test. if test then Some front else None) (ne_eqb x 39 q))

-- the digits that come first are digits
prefix_by : (p : ℕ → Bool) (x : ℕ) (xs : List ℕ) (t : Bool) → p x ≡ t → list_all p (take (prefix_len p xs) xs) ≡ true → list_all p (take (prefix_len p (x ∷ xs)) (x ∷ xs)) ≡ true
prefix_by p x xs true is later =
    let one_more : 1 + prefix_len p xs ≡ suc (prefix_len p xs) = omega arith in
    rw is (ap (λ n. list_all p (take n (x ∷ xs))) one_more ∙ ap (λ t. t && list_all p (take (prefix_len p xs) xs)) is ∙ later)
prefix_by p x xs false is later = rw is refl

prefix_passes : (p : ℕ → Bool) (xs : List ℕ) → list_all p (take (prefix_len p xs) xs) ≡ true
prefix_passes p [] = refl
prefix_passes p (x ∷ xs) = prefix_by p x xs (p x) refl (prefix_passes p xs)

pub prefix_is_true : (p : ℕ → Bool) (xs : List ℕ) (n : ℕ) → n ≡ prefix_len p xs → IsTrue (list_all p (take n xs))
prefix_is_true p xs n is = ap (λ k. list_all p (take k xs)) is ∙ prefix_passes p xs
