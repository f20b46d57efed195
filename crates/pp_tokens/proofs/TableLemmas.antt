-- The table of punctuators, filled up with zeros, is searched as the table itself.
use Rattle.std.proofs.Common.{◌≡◌, ℕ, zero, suc, ◌+◌, ◌<◌, Bool, true, false, not, ◌&&◌, cond, eqb, List, [], ◌∷◌, length, get_or, drop, Option, Some, refl, sym, ◌∙◌, ap}
use Rattle.std.proofs.lemmas.List.{drop_more}
use Rattle.std.proofs.lemmas.Bool.{and_parts, not-true}
use Rattle.std.specs.List.{find, list_all}
use Rattle.std.specs.Option.{option_map}
use Rattle.pp_tokens.specs.declared.punctuators.TheConstants.{PUNCTUATORS}
use Rattle.pp_tokens.specs.Kinds.{begins}
use Rattle.pp_tokens.specs.Scan.{byte_or_zero, padded, fits, unpadded_length, search_order, punctuator_length}

pub find-here : {X : Type 0} (test : X → Bool) (xs : List X) (i : ℕ) (d : X) → i < length xs → test (get_or xs i d) ≡ true → find test (drop i xs) ≡ Some (get_or xs i d)
find-here test xs i d within passes = rw (drop_more xs i d within, passes) refl

pub find-later : {X : Type 0} (test : X → Bool) (xs : List X) (i : ℕ) (d : X) → i < length xs → test (get_or xs i d) ≡ false → find test (drop i xs) ≡ find test (drop (i + 1) xs)
find-later test xs i d within fails = rw (drop_more xs i d within, fails) refl

-- a text of at most n bytes, none of them 0
abbrev is_short : ℕ → List ℕ → Bool
is_short n [] = true
is_short zero (b ∷ bs) = false
is_short (suc n) (b ∷ bs) = not (eqb b 0) && is_short n bs

fits_padded : (n : ℕ) (text bytes : List ℕ) → is_short n text ≡ true → fits (padded n text) (padded n bytes) ≡ begins text bytes
fits_padded zero [] bytes short = refl
fits_padded (suc n) [] bytes short = refl
fits_padded zero (b ∷ bs) bytes short = cc
fits_padded (suc n) (b ∷ bs) [] short =
    let parts = and_parts (not (eqb b 0)) (is_short n bs) short in
    rw (not-true (eqb b 0) parts.0) refl
fits_padded (suc n) (b ∷ bs) (c ∷ cs) short =
    let parts = and_parts (not (eqb b 0)) (is_short n bs) short in
    rw (not-true (eqb b 0) parts.0, fits_padded n bs cs parts.1) refl

length_padded : (n : ℕ) (text : List ℕ) → is_short n text ≡ true → unpadded_length (padded n text) ≡ length text
length_padded zero [] short = refl
length_padded (suc n) [] short = refl
length_padded zero (b ∷ bs) short = cc
length_padded (suc n) (b ∷ bs) short =
    let parts = and_parts (not (eqb b 0)) (is_short n bs) short in
    rw (not-true (eqb b 0) parts.0, length_padded n bs parts.1) refl

all_padded : List (List ℕ) → List (List ℕ)
all_padded [] = []
all_padded (t ∷ ts) = padded 4 t ∷ all_padded ts

find_cases : (t : Bool) (p : List ℕ) (q : List ℕ) (o r : Option (List ℕ)) → unpadded_length p ≡ length q → option_map unpadded_length o ≡ option_map length r → option_map unpadded_length (cond t (Some p) o) ≡ option_map length (cond t (Some q) r)
find_cases true p q o r one more = ap Some one
find_cases false p q o r one more = more

find_padded : (table : List (List ℕ)) (bytes : List ℕ) → list_all (is_short 4) table ≡ true →
    option_map unpadded_length (find (λ p. fits p (padded 4 bytes)) (all_padded table)) ≡ option_map length (find (λ p. begins p bytes) table)
unfolding all_padded
find_padded [] bytes short = refl
find_padded (t ∷ ts) bytes short =
    let parts = and_parts (is_short 4 t) (list_all (is_short 4) ts) short in
    rw (fits_padded 4 t bytes parts.0) (find_cases (begins t bytes) (padded 4 t) t _ _ (length_padded 4 t parts.0) (find_padded ts bytes parts.1))

pub padded_four : (bytes : List ℕ) → padded 4 bytes ≡ byte_or_zero bytes ∷ byte_or_zero (drop 1 bytes) ∷ byte_or_zero (drop 2 bytes) ∷ byte_or_zero (drop 3 bytes) ∷ []
padded_four [] = refl
padded_four (a ∷ []) = refl
padded_four (a ∷ b ∷ []) = refl
padded_four (a ∷ b ∷ c ∷ []) = refl
padded_four (a ∷ b ∷ c ∷ d ∷ bs) = refl

same_table : all_padded search_order ≡ PUNCTUATORS
unfolding all_padded
same_table = refl

-- the window is the front of the bytes, and the result that of the search
pub table_is_searched : (bytes window : List ℕ) (found : Option ℕ) → window ≡ padded 4 bytes → found ≡ option_map unpadded_length (find (λ p. fits p window) PUNCTUATORS) → found ≡ punctuator_length bytes
table_is_searched bytes window found front is =
    is
    ∙ ap (λ w. option_map unpadded_length (find (λ p. fits p w) PUNCTUATORS)) front
    ∙ ap (λ t. option_map unpadded_length (find (λ p. fits p (padded 4 bytes)) t)) (sym same_table)
    ∙ find_padded search_order bytes refl
