-- Hexadecimal digits, and a report that grows.
use Rattle.std.proofs.Common.{◌≡◌, ◌≢◌, ℕ, zero, suc, ◌+◌, ◌-◌, ◌/◌, ◌%◌, ◌<◌, ◌≤◌, Bool, true, false, eqb, cond, List, [], ◌∷◌, ◌++◌, length, drop, set, refl, ap, subst, ◌∙◌, arith, eq-eqb, length-append}
use Rattle.std.specs.Fmt.{digits, digits_onto, digit_glyph}
use Rattle.std.proofs.lemmas.List.{drop-set}
use borrow.Author.Tests.{apart_eqb}
use Rattle.mac_base.specs.ReportText.{Tells}

pub digits-onto : (n : ℕ) → digits_onto 64 16 false n [] ≡ digits 16 false n
unfolding digits
digits-onto n = refl

onto_suc : (k n : ℕ) (acc : List ℕ) (t : Bool) → eqb (n / 16) 0 ≡ t → digits_onto (suc k) 16 false n acc ≡ cond t (digit_glyph false (n % 16) ∷ acc) (digits_onto k 16 false (n / 16) (digit_glyph false (n % 16) ∷ acc))
onto_suc k n acc t e = ap (λ b. cond b (digit_glyph false (n % 16) ∷ acc) (digits_onto k 16 false (n / 16) (digit_glyph false (n % 16) ∷ acc))) e

pub onto_last : (i n : ℕ) (acc : List ℕ) → 0 < i → n / 16 ≡ 0 → digits_onto i 16 false n acc ≡ digit_glyph false (n % 16) ∷ acc
onto_last zero n acc some e = absurd (omega arith)
onto_last (suc k) n acc some e = onto_suc k n acc true (eq-eqb (n / 16) 0 e)

pub onto_step : (i n : ℕ) (acc : List ℕ) → 0 < i → n / 16 ≢ 0 → digits_onto i 16 false n acc ≡ digits_onto (i - 1) 16 false (n / 16) (digit_glyph false (n % 16) ∷ acc)
onto_step zero n acc some e = absurd (omega arith)
onto_step (suc k) n acc some e =
    let less : k ≡ suc k - 1 = omega arith in
    onto_suc k n acc false (apart_eqb (n / 16) 0 e) ∙ ap (λ j. digits_onto j 16 false (n / 16) (digit_glyph false (n % 16) ∷ acc)) less

pub one_more_digit : (room : List ℕ) (i x g : ℕ) → 0 < i → i ≤ length room → x ≡ g → drop (i - 1) (set room (i - 1) x) ≡ g ∷ drop i room
one_more_digit room i x g some within is =
    let inside : i - 1 < length room = omega arith in
    let next : i - 1 + 1 ≡ i = omega arith in
    drop-set room (i - 1) x inside ∙ (λ t. is t ∷ drop (next t) room)

-- what is appended to a report that is not too long
pub tells_more : (old text whole more : List ℕ) → Tells false old whole → text ≡ old ++ more → (b : Bool) (new : List ℕ) → Tells b new text → Tells b new (whole ++ more)
tells_more old text whole more tells grows b new is = subst (λ (xs : List ℕ). Tells b new xs) (grows ∙ ap (λ xs. xs ++ more) tells.0) is

-- and to one that is
pub tells_no_more : (old new whole more : List ℕ) → Tells true old whole → Tells true new (whole ++ more)
tells_no_more old new whole more tells = omega (arith, length-append whole more, tells)
