-- What a field reads is what its bytes spell, and no other bytes are read.
use Rattle.std.proofs.Common.{◌≡◌, ◌≢◌, ℕ, suc, ◌+◌, ◌<◌, ◌≤◌, eqb, ltb, List, [], ◌∷◌, ◌++◌, length, drop, Some, inl, inr, refl, ap, subst, arith}
use Rattle.std.specs.Option.{option_map}
use Rattle.std.specs.List.{AllByRecursion}
use borrow.Author.Tests.{ltb-true, ltb-false, lt-ltb, le-ltb, eqb-true, eqb-false, apart_eqb}
use Rattle.mac_base.specs.Fields.{before_nul, leb_digits}
use Rattle.mac_base.specs.Spelling.{AreDigits}
use Rattle.mac_base.proofs.Choices.{chosen, some_map, same_some}

-- a digit more
pub digits_more : (b : ℕ) (ds : List ℕ) → 128 ≤ b → AreDigits ds → AreDigits (b ∷ ds)
digits_more b [] high are = absurd are
digits_more b (d ∷ ds) high are = (high, are)

-- the digits in front are digits, and the rest follows them
pub leb_digits_takes : (xs ds : List ℕ) → leb_digits xs ≡ Some ds → AreDigits ds × (xs ≡ ds ++ drop (length ds) xs)
leb_digits_takes [] ds is = cc
leb_digits_takes (b ∷ bs) ds is =
    elim (chosen (ltb b 128) (Some (b ∷ [])) (option_map (λ (d : List ℕ). b ∷ d) (leb_digits bs)) (Some ds) is) [
      | inl last ↦
          let one : b ∷ [] ≡ ds = same_some (b ∷ []) ds last.1 in
          let low : b < 128 = ltb-true b 128 last.0 in
          subst (λ (d : List ℕ). AreDigits d × (b ∷ bs ≡ d ++ drop (length d) (b ∷ bs))) one (low, refl)
      | inr more ↦
          let later = some_map (λ (d : List ℕ). b ∷ d) (leb_digits bs) ds more.1 in
          let inner = leb_digits_takes bs later.0 later.1 in
          subst (λ (d : List ℕ). AreDigits d × (b ∷ bs ≡ d ++ drop (length d) (b ∷ bs))) later.2
          (digits_more b later.0 (ltb-false b 128 more.0) inner.0, ap (λ xs. b ∷ xs) inner.1)
    ]

-- and digits are found again, whatever follows
pub leb_digits_again : (ds more : List ℕ) → AreDigits ds → leb_digits (ds ++ more) ≡ Some ds
leb_digits_again [] more are = absurd are
leb_digits_again (b ∷ []) more are = rw (lt-ltb b 128 are) refl
leb_digits_again (b ∷ c ∷ ds) more are = rw (le-ltb b 128 are.0, leb_digits_again (c ∷ ds) more are.1) refl

text_more : (b : ℕ) (bs inner text : List ℕ) → bs ≡ inner ++ 0 ∷ drop (length inner + 1) bs → b ∷ inner ≡ text → b ∷ bs ≡ text ++ 0 ∷ drop (length text + 1) (b ∷ bs)
text_more b bs inner text is longer =
    let places : suc (length inner) + 1 ≡ suc (length inner + 1) = omega arith in
    rw (← longer) (rw places (ap (λ xs. b ∷ xs) is))

pub before_nul_takes : (xs text : List ℕ) → before_nul xs ≡ Some text → AllByRecursion (λ b. b ≢ 0) text × (xs ≡ text ++ 0 ∷ drop (length text + 1) xs)
before_nul_takes [] text is = cc
before_nul_takes (b ∷ bs) text is =
    elim (chosen (eqb b 0) (Some []) (option_map (λ (t : List ℕ). b ∷ t) (before_nul bs)) (Some text) is) [
      | inl nul ↦
          let zero_byte : b ≡ 0 = eqb-true b 0 nul.0 in
          let empty : text ≡ [] = cc in
          rw (empty, zero_byte) (tt, refl)
      | inr other ↦
          let later = some_map (λ (t : List ℕ). b ∷ t) (before_nul bs) text other.1 in
          let inner = before_nul_takes bs later.0 later.1 in
          let split = text_more b bs later.0 text inner.1 later.2 in
          (subst (AllByRecursion (λ b. b ≢ 0)) later.2 (eqb-false b 0 other.0, inner.0), split)
    ]

pub before_nul_again : (text more : List ℕ) → AllByRecursion (λ b. b ≢ 0) text → before_nul (text ++ 0 ∷ more) ≡ Some text
before_nul_again [] more are = refl
before_nul_again (b ∷ bs) more are = rw (apart_eqb b 0 are.0, before_nul_again bs more are.1) refl
