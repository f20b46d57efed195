-- The innermost section is the last of the list.
use Rattle.std.proofs.Common.{◌≡◌, ◌-◌, List, [], ◌∷◌, ◌++◌, length, reverse, refl, sym, ap, ◌∙◌, subst, arith, length-append}
use Rattle.std.proofs.Math.ListN.{set}
use Rattle.std.proofs.Math.Seq.{set-append_seam}
use Rattle.std.proofs.lemmas.List.{reverse-append, reverse-reverse}
use Rattle.pp_directives.specs.declared.conditional.open_section.OpenSection.{OpenSection}
use Rattle.pp_directives.specs.Conditions.{with_first}

-- a store at the last index
set_last : (front : List OpenSection) (o x : OpenSection) → set (front ++ o ∷ []) (length (front ++ o ∷ []) - 1) x ≡ front ++ x ∷ []
set_last front o x =
    let e : length (front ++ o ∷ []) - 1 ≡ length front = omega (arith, length-append front (o ∷ [])) in
    ap (λ n. set (front ++ o ∷ []) n x) e ∙ set-append_seam front o [] x

-- the same, where the list is given from its end
backwards : (x : OpenSection) (ys : List OpenSection) → reverse (set (reverse ys) (length (reverse ys) - 1) x) ≡ with_first x ys
backwards x [] = refl
backwards x (y ∷ ys) =
    let e : reverse (y ∷ ys) ≡ reverse ys ++ y ∷ [] = reverse-append (y ∷ []) ys in
    subst (λ zs. reverse (set zs (length zs - 1) x) ≡ x ∷ ys) (sym e)
    (ap reverse (set_last (reverse ys) y x) ∙ reverse-append (reverse ys) (x ∷ []) ∙ ap (λ zs. x ∷ zs) (reverse-reverse ys))

pub replaced : (x : OpenSection) (xs : List OpenSection) → reverse (set xs (length xs - 1) x) ≡ with_first x (reverse xs)
replaced x xs = subst (λ zs. reverse (set zs (length zs - 1) x) ≡ with_first x (reverse xs)) (reverse-reverse xs) (backwards x (reverse xs))

pub replaced_none : (x : OpenSection) (xs : List OpenSection) → length xs ≡ 0 → reverse xs ≡ with_first x (reverse xs)
replaced_none x [] h = refl
replaced_none x (y ∷ ys) h = absurd (omega arith)
