-- Names whose texts are one after the other.
use Rattle.std.proofs.Common.{◌≡◌, ℕ, ◌+◌, ◌≤◌, List, [], ◌∷◌, ◌++◌, take, drop, length, sym, ap, ◌∙◌, arith, length-drop}
use Rattle.std.specs.Prelude.{sum}
use Rattle.std.proofs.Math.Seq.{take-length}
use Rattle.std.proofs.lemmas.List.{take-append-le, drop-append-le, nil_from_length}
use Rattle.std.proofs.lemmas.List.Sums.{sum_by-cons}
use Rattle.macro_expand.specs.Listed.{names_in}

-- a name more at the end, where the lengths are those of the whole text
pub name_behind : (lengths text name : List ℕ) → sum lengths ≡ length text → names_in (lengths ++ length name ∷ []) (text ++ name) ≡ names_in lengths text ++ name ∷ []
name_behind [] text name e =
    ap (λ t. take (length name) (t ++ name) ∷ []) (nil_from_length text (sym e)) ∙ ap (λ n. n ∷ []) (take-length name)
name_behind (n ∷ ns) text name e =
    let whole : sum (n ∷ ns) ≡ n + sum ns = sum_by-cons (λ x. x) n ns in
    let within : n ≤ length text = omega (arith, e, whole) in
    let rest : sum ns ≡ length (drop n text) = omega (arith, e, whole, length-drop n text) in
    ap (λ x. x ∷ names_in (ns ++ length name ∷ []) (drop n (text ++ name))) (take-append-le n text name within)
    ∙ ap (λ x. take n text ∷ x) (ap (names_in (ns ++ length name ∷ [])) (drop-append-le n text name within) ∙ name_behind ns (drop n text) name rest)
