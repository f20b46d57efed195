-- Bytes in front that spell themselves.
use Rattle.std.proofs.Common.{◌≡◌, ◌≤◌, ℕ, zero, suc, ◌+◌, Bool, cond, List, [], ◌∷◌, length, take, drop, refl, sym, ◌∙◌, ap, subst, arith}
use Rattle.pp_tokens.specs.Cleaning.{bytes_of}
use Rattle.pp_tokens.specs.Raw.{IsPlace, IsPlain, ArePlain, left_of}
use Rattle.pp_tokens.specs.Cut.{line_rest}
use Rattle.pp_tokens.proofs.CleanLemmas.{apart, plain-head, plain-place}

-- one is passed over
pub plain_shorter : (bytes : List ℕ) → IsPlain bytes → suc (length (drop 1 bytes)) ≡ length bytes
plain_shorter [] one = absurd one
plain_shorter (a ∷ bs) one = refl

-- one more
pub plain_more : (n : ℕ) (bytes : List ℕ) → ArePlain n bytes → IsPlain (drop n bytes) → ArePlain (suc n) bytes
plain_more zero bytes all one = (one, tt)
plain_more (suc n) [] all one = absurd all.0
plain_more (suc n) (a ∷ bs) all one = (all.0, plain_more n bs all.1 one)

-- they are bytes of the text
pub plain_bound : (n : ℕ) (bytes : List ℕ) → ArePlain n bytes → n ≤ length bytes
plain_bound zero bytes all = omega arith
plain_bound (suc n) [] all = absurd all.0
plain_bound (suc n) (a ∷ bs) all = omega (arith, plain_bound n bs all.1)

-- after some of them the others are plain
pub plain_past : (m k n : ℕ) (bytes : List ℕ) → n ≡ m + k → ArePlain n bytes → ArePlain k (drop m bytes)
plain_past zero k n bytes is all = subst (λ x. ArePlain x bytes) (omega (arith, is)) all
plain_past (suc m) k zero bytes is all = absurd (omega (arith, is))
plain_past (suc m) k (suc n) [] is all = absurd all.0
plain_past (suc m) k (suc n) (a ∷ bs) is all = plain_past m k n bs (omega (arith, is)) all.1

-- none of them is a line feed
pub plain_line : (n : ℕ) (bytes : List ℕ) → ArePlain n bytes → line_rest (take n bytes) ≡ n
plain_line zero bytes all = refl
plain_line (suc n) [] all = absurd all.0
plain_line (suc n) (a ∷ []) all = absurd all.0
plain_line (suc n) (a ∷ b ∷ bs) all = ap (λ t. cond t 0 (suc (line_rest (take n (b ∷ bs))))) (apart a 10 all.0.1) ∙ ap suc (plain_line n (b ∷ bs) all.1)

module _ (cleans : Bool) (line : ℕ) where
  -- after them the cursor is as before
  pub place_past : (m n : ℕ) (bytes : List ℕ) → m ≤ n → ArePlain n bytes → IsPlace cleans line bytes → IsPlace cleans line (drop m bytes)
  place_past zero n bytes less all place = place
  place_past (suc m) zero bytes less all place = absurd (omega (arith, less))
  place_past (suc m) (suc n) [] less all place = absurd all.0
  place_past (suc m) (suc n) (a ∷ bs) less all place = place_past m n bs (omega (arith, less)) all.1 (plain-place cleans line (a ∷ bs) place all.0)

  -- and what is left is what came after them
  pub left_past : (m n : ℕ) (bytes : List ℕ) → m ≤ n → ArePlain n bytes → IsPlace cleans line bytes → left_of cleans line (drop m bytes) ≡ drop m (left_of cleans line bytes)
  left_past zero n bytes less all place = refl
  left_past (suc m) zero bytes less all place = absurd (omega (arith, less))
  left_past (suc m) (suc n) [] less all place = absurd all.0
  left_past (suc m) (suc n) (a ∷ bs) less all place =
      left_past m n bs (omega (arith, less)) all.1 (plain-place cleans line (a ∷ bs) place all.0) ∙ ap (drop (suc m)) (sym (plain-head cleans line a bs place all.0))

  -- each of them is what it spells
  pub text_past : (m n : ℕ) (bytes : List ℕ) → m ≤ n → ArePlain n bytes → IsPlace cleans line bytes → take m bytes ≡ bytes_of (take m (left_of cleans line bytes))
  text_past zero n bytes less all place = refl
  text_past (suc m) zero bytes less all place = absurd (omega (arith, less))
  text_past (suc m) (suc n) [] less all place = absurd all.0
  text_past (suc m) (suc n) (a ∷ bs) less all place =
      ap (λ l. a ∷ l) (text_past m n bs (omega (arith, less)) all.1 (plain-place cleans line (a ∷ bs) place all.0))
      ∙ ap (λ l. bytes_of (take (suc m) l)) (sym (plain-head cleans line a bs place all.0))
