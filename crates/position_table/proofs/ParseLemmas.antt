-- The numbers of fields, one after another.
use Rattle.std.proofs.Common.{◌≡◌, ℕ, zero, suc, ◌<◌, List, [], ◌∷◌, ◌++◌, length, get_or, Option, Some, None, refl, ap, sym, ◌∙◌, arith}
use Rattle.std.specs.Option.{option_map, option_and_then}
use Rattle.position_table.specs.Positions.{number_of, numbers_of}

number_first : (first : Option ℕ) (before after : Option (List ℕ)) (numbers : List ℕ) (number : ℕ) → ((ns : List ℕ) → before ≡ Some ns → after ≡ Some (ns ++ number ∷ [])) →
    option_and_then (λ n. option_map (λ ns. n ∷ ns) before) first ≡ Some numbers → option_and_then (λ n. option_map (λ ns. n ∷ ns) after) first ≡ Some (numbers ++ number ∷ [])
number_first None before after numbers number more are = cc
number_first (Some n) None after numbers number more are = cc
number_first (Some n) (Some ns) after numbers number more are =
    let here : n ∷ ns ≡ numbers = cc in
    ap (option_map (λ (ns : List ℕ). n ∷ ns)) (more ns refl) ∙ ap (λ (ns : List ℕ). Some (ns ++ number ∷ [])) here

pub numbers_push : (fields : List (List ℕ)) (field : List ℕ) (numbers : List ℕ) (number : ℕ) → numbers_of fields ≡ Some numbers → Some number ≡ number_of field → numbers_of (fields ++ field ∷ []) ≡ Some (numbers ++ number ∷ [])
numbers_push [] field numbers number are is =
    let none : [] ≡ numbers = cc in
    ap (option_and_then (λ (n : ℕ). Some (n ∷ []))) (sym is) ∙ ap (λ (ns : List ℕ). Some (ns ++ number ∷ [])) none
numbers_push (first ∷ fields) field numbers number are is =
    number_first (number_of first) (numbers_of fields) (numbers_of (fields ++ field ∷ [])) numbers number (λ ns before. numbers_push fields field ns number before is) are

none_later : (first : Option ℕ) (later : Option (List ℕ)) → None ≡ later → None ≡ option_and_then (λ n. option_map (λ ns. n ∷ ns) later) first
none_later None later is = refl
none_later (Some n) later is = ap (option_map (λ (ns : List ℕ). n ∷ ns)) is

-- a field that is no number
pub numbers_bad : (fields : List (List ℕ)) (n : ℕ) (field : List ℕ) → n < length fields → field ≡ get_or fields n field → None ≡ number_of field → None ≡ numbers_of fields
numbers_bad [] n field within is bad = absurd (omega arith)
numbers_bad (first ∷ fields) zero field within is bad = ap (option_and_then (λ n. option_map (λ (ns : List ℕ). n ∷ ns) (numbers_of fields))) (bad ∙ ap number_of is)
numbers_bad (first ∷ fields) (suc n) field within is bad = none_later (number_of first) (numbers_of fields) (numbers_bad fields n field (omega arith) is bad)
