-- A NUL follows exactly the places up to the last NUL of a table of strings.
use Rattle.std.proofs.Common.{◌≡◌, ℕ, zero, suc, ◌+◌, ◌-◌, ◌<◌, ◌≤◌, Bool, true, false, eqb, ltb, leb, cond, List, [], ◌∷◌, length, get_or, drop, Option, Some, None, is_some, refl, ap, ◌∙◌, sym, arith, length-drop}
use Rattle.std.specs.Option.{option_map, is_none}
use Rattle.std.proofs.lemmas.List.{get_or-drop}
use Rattle.std.proofs.lemmas.Bool.{false_from_ne_true}
use Rattle.std.proofs.lemmas.Bool.{le-leb, lt-leb}
use borrow.Author.Tests.{ltb-true, ltb-false, le-ltb}
use Rattle.mac_base.specs.Fields.{before_nul}
use Rattle.mac_base.specs.Strings.{IsStringsEnd, AreOpenFrom}
use Rattle.mac_base.proofs.FieldLemmas.{before_nul_none}

one_more : (t : Bool) (b : ℕ) (more : Option (List ℕ)) → is_some more ≡ true → is_some (cond t (Some []) (option_map (λ text. b ∷ text) more)) ≡ true
one_more true b more is = refl
one_more false b None is = is
one_more false b (Some text) is = refl

-- where a NUL comes there is a string
nul_follows : (xs : List ℕ) (k : ℕ) → k < length xs → eqb (get_or xs k 0) 0 ≡ true → is_some (before_nul xs) ≡ true
nul_follows [] k within nul = absurd (omega arith)
nul_follows (b ∷ bs) zero within nul = rw nul refl
nul_follows (b ∷ bs) (suc k) within nul = one_more (eqb b 0) b (before_nul bs) (nul_follows bs k (omega arith) nul)

pub end_is_none : (section : List ℕ) → ((k : ℕ) → 0 ≤ k → k < length section → eqb (get_or section k 0) 0 ≡ true → ⊥) → IsStringsEnd section 0
end_is_none section none off =
    let later : (j : ℕ) → j < length (drop off section) → eqb (get_or (drop off section) j 0) 0 ≡ false =
    λ j within. ap (λ b. eqb b 0) (get_or-drop off section j 0) ∙ false_from_ne_true _ (none (off + j) (omega arith) (omega (arith, length-drop off section))) in
    ap is_some (before_nul_none (drop off section) later) ∙ sym (le-ltb off 0 (omega arith))

-- a place up to the last NUL, and one after it
string_there : (section : List ℕ) (last off : ℕ) → last < length section → eqb (get_or section last 0) 0 ≡ true → off < last + 1 → is_some (before_nul (drop off section)) ≡ true
string_there section last off within nul before =
    let place : off + (last - off) ≡ last = omega arith in
    nul_follows (drop off section) (last - off) (omega (arith, length-drop off section))
    (ap (λ b. eqb b 0) (get_or-drop off section (last - off) 0 ∙ ap (λ k. get_or section k 0) place) ∙ nul)

none_behind : (section : List ℕ) (last off : ℕ) → ((k : ℕ) → last + 1 ≤ k → k < length section → eqb (get_or section k 0) 0 ≡ true → ⊥) → last + 1 ≤ off → is_some (before_nul (drop off section)) ≡ false
none_behind section last off after behind =
    let later : (j : ℕ) → j < length (drop off section) → eqb (get_or (drop off section) j 0) 0 ≡ false =
    λ j within. ap (λ b. eqb b 0) (get_or-drop off section j 0) ∙ false_from_ne_true _ (after (off + j) (omega arith) (omega (arith, length-drop off section))) in
    ap is_some (before_nul_none (drop off section) later)

by_test : (a b : ℕ) (t : Bool) → (a < b → t ≡ true) → (b ≤ a → t ≡ false) → (s : Bool) → ltb a b ≡ s → t ≡ ltb a b
by_test a b t below above true is = below (ltb-true a b is) ∙ sym is
by_test a b t below above false is = above (ltb-false a b is) ∙ sym is

pub end_is_last : (section : List ℕ) (last : ℕ) → last < length section → eqb (get_or section last 0) 0 ≡ true → ((k : ℕ) → last + 1 ≤ k → k < length section → eqb (get_or section k 0) 0 ≡ true → ⊥) → IsStringsEnd section (last + 1)
end_is_last section last within nul after off =
    by_test off (last + 1) (is_some (before_nul (drop off section))) (string_there section last off within nul) (none_behind section last off after) (ltb off (last + 1)) refl

none_by : (a b : ℕ) (s : Bool) (o : Option (List ℕ)) → ltb a b ≡ s → is_some o ≡ s → is_none o ≡ leb b a
none_by a b true None is some = cc
none_by a b true (Some text) is some = sym (lt-leb b a (ltb-true a b is))
none_by a b false None is some = sym (le-leb b a (ltb-false a b is))
none_by a b false (Some text) is some = cc

pub open_from : (section : List ℕ) (end : ℕ) → IsStringsEnd section end → AreOpenFrom section end
open_from section end is at = none_by at end (ltb at end) (before_nul (drop at section)) refl (is at)
