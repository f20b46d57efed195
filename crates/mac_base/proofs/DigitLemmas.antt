-- Numbers in digits of a base.
use Rattle.std.proofs.Common.{◌≡◌, ℕ, ◌+◌, ◌*◌, ◌<◌, ◌≤◌, ◌^◌, Bool, true, false, ◌&&◌, ltb, List, [], ◌∷◌, get_or, drop, length, Some, None, refl, ap, ◌∙◌, sym, arith, if◌then◌else◌}
use Rattle.std.specs.List.{list_all}
use Rattle.std.proofs.lemmas.List.{at_drop_more}
use borrow.Author.Tests.{ltb-true, lt-ltb}
use Rattle.mac_base.specs.Digits.{digit_value, is_digit_of, spelled_after, spelled_in, number_in}
use Rattle.mac_base.proofs.TestLemmas.{and_first}

pub grows : (n base d : ℕ) → 0 < base → n ≤ n * base + d
grows n base d some = grind arith

pub spelled_grows : (base n : ℕ) (ds : List ℕ) → 0 < base → n ≤ spelled_after base n ds
spelled_grows base n [] some = omega arith
spelled_grows base n (d ∷ ds) some = omega (arith, grows n base (digit_value d) some, spelled_grows base (n * base + digit_value d) ds some)

none_by : (a b : Bool) (n : ℕ) → (a ≡ true → b ≡ true → ⊥) → (if a && b then Some n else None) ≡ None
none_by true true n never = absurd (never refl refl)
none_by true false n never = refl
none_by false b n never = refl

-- a byte that is no digit, or a digit that makes the number too large
pub number_in-none : (base n i : ℕ) (digits : List ℕ) → 0 < base → i < length digits
    → list_all (is_digit_of base) (drop i digits) ≡ list_all (is_digit_of base) digits → spelled_after base n (drop i digits) ≡ spelled_in base digits
    → (is_digit_of base (get_or digits i 0) ≡ true → n * base + digit_value (get_or digits i 0) < 2 ^ 64 → ⊥) → number_in base digits ≡ None
number_in-none base n i digits some within are spelled never =
    let d = get_or digits i 0 in
    let parts : (is_digit_of base d && list_all (is_digit_of base) (drop (i + 1) digits)) ≡ list_all (is_digit_of base) digits = sym (at_drop_more (list_all (is_digit_of base)) digits i 0 within) ∙ are in
    let step : spelled_after base (n * base + digit_value d) (drop (i + 1) digits) ≡ spelled_in base digits = sym (at_drop_more (spelled_after base n) digits i 0 within) ∙ spelled in
    let least : n * base + digit_value d ≤ spelled_in base digits = omega (arith, step, spelled_grows base (n * base + digit_value d) (drop (i + 1) digits) some) in
    none_by (list_all (is_digit_of base) digits) (ltb (spelled_in base digits) (2 ^ 64)) (spelled_in base digits) (λ all small.
    never (and_first (is_digit_of base d) (list_all (is_digit_of base) (drop (i + 1) digits)) (parts ∙ all)) (omega (arith, least, ltb-true (spelled_in base digits) (2 ^ 64) small)))

pub number_in-some : (base n : ℕ) (digits : List ℕ) → true ≡ list_all (is_digit_of base) digits → n ≡ spelled_in base digits → n < 2 ^ 64 → Some n ≡ number_in base digits
number_in-some base n digits are is small =
    let test : ltb (spelled_in base digits) (2 ^ 64) ≡ true = lt-ltb (spelled_in base digits) (2 ^ 64) (omega (arith, is, small)) in
    rw (sym are, test) (ap (λ m. Some m) is)
