-- The number after `#line` as it is read from left to right.
use Rattle.std.proofs.Common.{◌≡◌, ℕ, ◌+◌, ◌-◌, ◌*◌, ◌≤◌, ◌<◌, Bool, true, false, ◌&&◌, nat_le, List, [], ◌∷◌, refl, ap, sym, ◌∙◌, subst, arith, length, drop, get_or, suc, cond, Ok, Err}
use Rattle.std.specs.List.{list_all}
use Rattle.std.proofs.lemmas.Bool.{lt-leb}
use Rattle.std.proofs.Math.Seq.{drop-cons}
use Rattle.pp_tokens.specs.Kinds.{is_digit}
use Rattle.pp_tokens.specs.declared.token.Token.{Token}
use Rattle.pp_unit.specs.declared.fault.PpKind.TheVariants.{BadLine}
use Rattle.pp_unit.specs.LineNumbers.{decimal_from, line_limit, is_line_number, is_line, line_checked}

-- whether the bytes go on with digits to a number that is neither 0 nor too large
abbrev pub number_from : ℕ → List ℕ → Bool
number_from number bytes = list_all is_digit bytes && nat_le 1 (decimal_from number bytes) && nat_le (decimal_from number bytes) line_limit

-- more digits make no smaller number
pub grows : (number : ℕ) (bytes : List ℕ) → number ≤ decimal_from number bytes
grows number [] = omega arith
grows number (byte ∷ bytes) = let more : 10 * number + (byte - 48) ≤ decimal_from (10 * number + (byte - 48)) bytes = grows (10 * number + (byte - 48)) bytes in omega arith

third_false : (a b c : Bool) → c ≡ false → (a && b && c) ≡ false
third_false true true c is = is
third_false true false c is = refl
third_false false true c is = refl
third_false false false c is = refl

-- a number that is too large stays so
pub number_stops : (number : ℕ) (bytes : List ℕ) → line_limit < number → number_from number bytes ≡ false
number_stops number bytes over =
    let large : line_limit < decimal_from number bytes = omega (arith, grows number bytes) in
    third_false (list_all is_digit bytes) (nat_le 1 (decimal_from number bytes)) (nat_le (decimal_from number bytes) line_limit) (lt-leb (decimal_from number bytes) line_limit large)

-- a digit that makes the number too large
pub too_large : (text : List ℕ) (i number digit : ℕ) → i < length text → number_from number (drop i text) ≡ is_line_number text → digit ≡ get_or text i 0 - 48 →
    line_limit < 10 * number + digit → false ≡ is_line_number text
too_large text i number digit short rest is over =
    let after : List ℕ = drop (suc i) text in
    let byte : ℕ = get_or text i 0 in
    let more : line_limit < 10 * number + (byte - 48) = subst (λ d. line_limit < 10 * number + d) is over in
    let large : line_limit < decimal_from (10 * number + (byte - 48)) after = omega (arith, grows (10 * number + (byte - 48)) after) in
    sym (third_false (list_all is_digit (byte ∷ after)) (nat_le 1 (decimal_from number (byte ∷ after))) (nat_le (decimal_from number (byte ∷ after)) line_limit) (lt-leb _ line_limit large))
    ∙ subst (λ (bytes : List ℕ). number_from number bytes ≡ is_line_number text) (drop-cons text i 0 short) rest

checked_by : {A : Type 0} (x : A) (b : Bool) (tokens : List Token) → b ≡ is_line tokens → line_checked x tokens ≡ cond b (Ok x) (Err BadLine)
checked_by x b tokens is = ap (λ t. cond t (Ok x) (Err BadLine)) (sym is)

-- expanded operands that have one of the forms, and others
pub good_line : {A : Type 0} (x : A) (tokens shown : List Token) → shown ≡ tokens → true ≡ is_line shown → line_checked x tokens ≡ Ok x
good_line x tokens shown same is = checked_by x true tokens (is ∙ ap is_line same)

pub bad_line : {A : Type 0} (x : A) (tokens shown : List Token) → shown ≡ tokens → false ≡ is_line shown → line_checked x tokens ≡ Err BadLine
bad_line x tokens shown same is = checked_by x false tokens (is ∙ ap is_line same)
