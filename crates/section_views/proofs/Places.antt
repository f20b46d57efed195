-- The places of names in the family.
use Rattle.std.proofs.Common.{◌≡◌, ℕ, zero, suc, ◌<◌, Bool, true, false, not, ◌&&◌, List, [], ◌∷◌, length, get_or, Option, Some, None, refl, ap, sym, ◌∙◌, arith}
use Rattle.std.specs.List.{list_any, position_from}
use Rattle.std.specs.Option.{is_some}
use Rattle.std.specs.Str.{bytes_eq}
use Rattle.std.proofs.lemmas.List.Folds.{list_any_at}
use Rattle.std.proofs.lemmas.Slice.Eq.{bytes_eq-Decides}
use Rattle.section_views.specs.Family.{family_names, is_text}
use Rattle.section_views.specs.Members.{name_at, IsPlace}

pub no_any : {X : Type 0} (p : X → Bool) (xs : List X) (d : X) → ((k : ℕ) → k < length xs → p (get_or xs k d) ≡ false) → list_any p xs ≡ false
no_any p [] d none = refl
no_any p (x ∷ xs) d none = rw (none 0 (omega arith)) (no_any p xs d (λ k within. none (suc k) (omega arith)))

-- there is a place exactly where the test holds for a name
pub is_some_place : (test : List ℕ → Bool) (place : Option ℕ) → IsPlace test place → is_some place ≡ list_any test family_names
is_some_place test None none = sym (no_any test family_names [] none)
is_some_place test (Some k) here = sym (list_any_at test family_names k [] here.0 here.1)

-- a further test that holds
pub guarded_place : (t : Bool) (test : List ℕ → Bool) (place : Option ℕ) → t ≡ true → IsPlace test place → IsPlace (λ name. t && test name) place
guarded_place t test None holds none = λ k within. rw holds (none k within)
guarded_place t test (Some k) holds here = (here.0, rw holds here.1)

pub first_alone : (t u : Bool) → true ≡ t → false ≡ u → (t && not u) ≡ true
first_alone true u holds fails = rw (sym fails) refl
first_alone false u holds fails = cc

place_known : (k : ℕ) → k < 7 → position_from (bytes_eq (name_at k)) 0 family_names ≡ Some k
place_known zero within = refl
place_known (suc zero) within = refl
place_known (suc (suc zero)) within = refl
place_known (suc (suc (suc zero))) within = refl
place_known (suc (suc (suc (suc zero)))) within = refl
place_known (suc (suc (suc (suc (suc zero))))) within = refl
place_known (suc (suc (suc (suc (suc (suc zero)))))) within = refl
place_known (suc (suc (suc (suc (suc (suc (suc k))))))) within = absurd (omega arith)

same_place : (j k : ℕ) → Some j ≡ Some k → j ≡ k
same_place j k same = cc

-- no two places have one name
pub names_apart : (j k : ℕ) → j < 7 → k < 7 → name_at j ≡ name_at k → j ≡ k
names_apart j k low high same = same_place j k (sym (place_known j low) ∙ ap (λ name. position_from (bytes_eq name) 0 family_names) same ∙ place_known k high)

-- a text is one name at most
pub one_text : (a b : List ℕ) (text : Option (List ℕ)) → is_text a text ≡ true → is_text b text ≡ true → a ≡ b
one_text a b None first second = cc
one_text a b (Some text) first second = (bytes_eq-Decides a text).0 first ∙ sym ((bytes_eq-Decides b text).0 second)
