-- Strings and their NULs in a table of strings.
use Rattle.std.proofs.Common.{◌≡◌, ℕ, Bool, true, false, not, ◌&&◌, eqb, cond, List, [], ◌∷◌, length, take, drop, Option, Some, None, refl, ap, sym, ◌∙◌}
use Rattle.std.specs.List.{list_all, starts_with}
use Rattle.std.specs.Option.{option_map}
use Rattle.std.specs.Cmp.Lexicographic.{pointwise}
use Rattle.std.proofs.lemmas.Bool.{eqb-true, and_parts, not-true}
use Rattle.mac_base.specs.Fields.{before_nul}
use Rattle.section_views.specs.Family.{is_text}
use Rattle.mac_base.proofs.TestLemmas.{eqb_swapped}

and_false : (t : Bool) → false ≡ (t && false)
and_false true = refl
and_false false = refl

and_assoc : (t u v : Bool) → (t && (u && v)) ≡ ((t && u) && v)
and_assoc true u v = refl
and_assoc false u v = refl

text_more : (q b : ℕ) (qs : List ℕ) (o : Option (List ℕ)) → is_text (q ∷ qs) (option_map (λ (text : List ℕ). b ∷ text) o) ≡ (eqb q b && is_text qs o)
text_more q b qs None = and_false (eqb q b)
text_more q b qs (Some text) = refl

empty_text : (b : ℕ) (o : Option (List ℕ)) → is_text [] (option_map (λ (text : List ℕ). b ∷ text) o) ≡ false
empty_text b None = refl
empty_text b (Some text) = refl

no_text : (t : Bool) (b : ℕ) (o : Option (List ℕ)) → is_text [] (cond t (Some []) (option_map (λ (text : List ℕ). b ∷ text) o)) ≡ (t && true)
no_text true b o = refl
no_text false b o = empty_text b o

other_text : (q b : ℕ) (qs : List ℕ) (t u v : Bool) (o : Option (List ℕ)) → eqb b 0 ≡ t → not (eqb q 0) ≡ true → is_text qs o ≡ (u && v) → is_text (q ∷ qs) (cond t (Some []) (option_map (λ (text : List ℕ). b ∷ text) o)) ≡ ((eqb b q && u) && v)
other_text q b qs true u v o nul no_nul same =
    let zero_byte : b ≡ 0 = eqb-true b 0 nul in
    let apart : eqb q b ≡ false = ap (eqb q) zero_byte ∙ not-true (eqb q 0) no_nul in
    let turned : eqb b q ≡ false = eqb_swapped b q ∙ apart in
    rw turned refl
other_text q b qs false u v o nul no_nul same =
    text_more q b qs o ∙ ap (λ t. eqb q b && t) same ∙ and_assoc (eqb q b) u v ∙ ap (λ t. (t && u) && v) (eqb_swapped q b)

-- a text without a NUL is the string in front exactly where its bytes and a NUL are there
pub is_text-front : (text bytes : List ℕ) → list_all (λ b. not (eqb b 0)) text ≡ true → is_text text (before_nul bytes) ≡ (pointwise eqb (take (length text) bytes) text && starts_with eqb (drop (length text) bytes) (0 ∷ []))
is_text-front [] [] no_nul = refl
is_text-front [] (b ∷ bs) no_nul = no_text (eqb b 0) b (before_nul bs) ∙ ap (λ t. t && true) (eqb_swapped b 0)
is_text-front (q ∷ qs) [] no_nul = refl
is_text-front (q ∷ qs) (b ∷ bs) no_nul =
    let parts = and_parts (not (eqb q 0)) (list_all (λ b. not (eqb b 0)) qs) no_nul in
    other_text q b qs (eqb b 0) (pointwise eqb (take (length qs) bs) qs) (starts_with eqb (drop (length qs) bs) (0 ∷ [])) (before_nul bs) refl parts.0 (is_text-front qs bs parts.1)

pub is_text-behind : (text bytes rest : List ℕ) → list_all (λ b. not (eqb b 0)) text ≡ true → pointwise eqb (take (length text) bytes) text ≡ true → rest ≡ drop (length text) bytes → starts_with eqb rest (0 ∷ []) ≡ is_text text (before_nul bytes)
is_text-behind text bytes rest no_nul stands behind = rw behind (sym (is_text-front text bytes no_nul ∙ ap (λ t. t && starts_with eqb (drop (length text) bytes) (0 ∷ [])) stands))

pub is_text-apart : (text bytes : List ℕ) → list_all (λ b. not (eqb b 0)) text ≡ true → pointwise eqb (take (length text) bytes) text ≡ false → false ≡ is_text text (before_nul bytes)
is_text-apart text bytes no_nul apart = sym (is_text-front text bytes no_nul ∙ ap (λ t. t && starts_with eqb (drop (length text) bytes) (0 ∷ [])) apart)
