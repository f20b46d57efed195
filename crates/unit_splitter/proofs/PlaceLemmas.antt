-- Where the first element of a list is that passes a test, for one test and another, and with one element more.
use Rattle.std.proofs.Common.{◌≡◌, ℕ, zero, suc, ◌+◌, ◌≤◌, nat_lt, Bool, true, false, cond, not, ◌||◌, List, [], ◌∷◌, ◌++◌, length, map, Option, Some, None, refl, ap, sym, ◌∙◌, arith}
use Rattle.std.specs.Prelude.{position, slice_get, is_some}
use Rattle.std.specs.List.{position_or_len, list_any}
use Rattle.std.specs.Option.{option_map}
use Rattle.std.proofs.Math.Dec.{eqb}
use Rattle.std.proofs.lemmas.Bool.Decides.{nat_tests}
use Rattle.std.proofs.lemmas.List.{length-append}
use Rattle.std.proofs.lemmas.List.Folds.{position_or_len_push}
use Rattle.std.proofs.lemmas.List.Sums.{prefix_len-le-length}
use Rattle.unit_splitter.specs.Growing.{passes, place_or}

place_or_none : (place : Option ℕ) → place_or place None ≡ place
place_or_none None = refl
place_or_none (Some place) = refl

place_by : (t : Bool) (n : ℕ) (other : Option ℕ) → place_or (cond t (Some n) None) other ≡ cond t (Some n) other
place_by true n other = refl
place_by false n other = refl

pushed_by : (b : Bool) (n long : ℕ) → n ≤ long
    → cond (nat_lt (cond (eqb n long) (long + cond b 0 1) n) (long + 1)) (Some (cond (eqb n long) (long + cond b 0 1) n)) None ≡ cond (nat_lt n long) (Some n) (cond b (Some long) None)
pushed_by true n long most = grind (arith, nat_tests)
pushed_by false n long most = grind (arith, nat_tests)

-- where the list has one element more
pub position_push : {X : Type 0} (p : X → Bool) (xs : List X) (y : X) → position p (xs ++ y ∷ []) ≡ place_or (position p xs) (cond (p y) (Some (length xs)) None)
position_push p xs y =
    let long : length (xs ++ y ∷ []) ≡ length xs + 1 = length-append xs (y ∷ []) in
    rw (position_or_len_push p xs y, long) (pushed_by (p y) (position_or_len p xs) (length xs) (prefix_len-le-length (λ x. not (p x)) xs))
    ∙ sym (place_by (nat_lt (position_or_len p xs) (length xs)) (position_or_len p xs) (cond (p y) (Some (length xs)) None))

map_by : (t : Bool) (n : ℕ) → option_map suc (cond t (Some n) None) ≡ cond t (Some (suc n)) None
map_by true n = refl
map_by false n = refl

later_by : (k long : ℕ) → cond (nat_lt (1 + k) (suc long)) (Some (1 + k)) None ≡ cond (nat_lt k long) (Some (suc k)) None
later_by k long = grind (arith, nat_tests)

here_by : (long : ℕ) → cond {A = Option ℕ} (nat_lt 0 (suc long)) (Some 0) None ≡ Some 0
here_by long = grind (arith, nat_tests)

cons_by : (b : Bool) (k long : ℕ) → cond (nat_lt (cond (not b) (1 + k) 0) (suc long)) (Some (cond (not b) (1 + k) 0)) None ≡ cond b (Some 0) (option_map suc (cond (nat_lt k long) (Some k) None))
cons_by true k long = here_by long
cons_by false k long = later_by k long ∙ sym (map_by (nat_lt k long) k)

-- where the list has one element more in front
pub position_cons : {X : Type 0} (p : X → Bool) (x : X) (xs : List X) → position p (x ∷ xs) ≡ cond (p x) (Some 0) (option_map suc (position p xs))
position_cons p x xs = cons_by (p x) (position_or_len p xs) (length xs)

none_by : (a b : Bool) (o other : Option ℕ) → (b ≡ true → a ≡ true) → (o ≡ None → other ≡ None) → cond a (Some 0) (option_map suc o) ≡ None → cond b (Some 0) (option_map suc other) ≡ None
none_by true b o other to next none = cc
none_by false true o other to next none = let is : false ≡ true = to refl in cc
none_by false false (Some n) other to next none = cc
none_by false false None other to next none = ap (option_map suc) (next refl)

-- none passes a test that allows less
pub none_before : {X : Type 0} (p q : X → Bool) (xs : List X) → ((x : X) → q x ≡ true → p x ≡ true) → position p xs ≡ None → position q xs ≡ None
none_before p q [] to none = refl
none_before p q (x ∷ xs) to none =
    position_cons q x xs
    ∙ none_by (p x) (q x) (position p xs) (position q xs) (to x) (none_before p q xs to) (sym (position_cons p x xs) ∙ none)

first_by : {X : Type 0} (q : X → Bool) (x : X) (xs : List X) (a b : Bool) (o other : Option ℕ) (n : ℕ) → q x ≡ b → (b ≡ true → a ≡ true) → ((k : ℕ) → o ≡ Some k → passes q (slice_get xs k) ≡ true → other ≡ Some k)
    → cond a (Some 0) (option_map suc o) ≡ Some n → passes q (slice_get (x ∷ xs) n) ≡ true → cond b (Some 0) (option_map suc other) ≡ Some n
first_by q x xs true true o other n tested to next there passed = there
first_by q x xs true false o other zero tested to next there passed = let is : false ≡ true = sym tested ∙ passed in cc
first_by q x xs true false o other (suc k) tested to next there passed = cc
first_by q x xs false true o other n tested to next there passed = let is : false ≡ true = to refl in cc
first_by q x xs false false None other n tested to next there passed = cc
first_by q x xs false false (Some k) other zero tested to next there passed = cc
first_by q x xs false false (Some k) other (suc j) tested to next there passed =
    let at : Some k ≡ Some j = cc in ap (option_map suc) (next j at passed)

-- the first that passes a test is the first that passes one which allows less, where it passes that
pub first_before : {X : Type 0} (p q : X → Bool) (xs : List X) (n : ℕ) → ((x : X) → q x ≡ true → p x ≡ true) → position p xs ≡ Some n → passes q (slice_get xs n) ≡ true → position q xs ≡ Some n
first_before p q [] n to there passed = cc
first_before p q (x ∷ xs) n to there passed =
    position_cons q x xs
    ∙ first_by q x xs (p x) (q x) (position p xs) (position q xs) n refl (to x) (λ k at is. first_before p q xs k to at is) (sym (position_cons p x xs) ∙ there) passed

-- a number that is added where there is none
noted_by : (o : Option ℕ) (b : Bool) (n : ℕ) → (b ≡ true → is_some o ≡ true) → o ≡ place_or o (cond b (Some n) None)
noted_by (Some place) b n had = refl
noted_by None true n had = let is : false ≡ true = had refl in cc
noted_by None false n had = refl

pub noted_old : (o : Option ℕ) (b : Bool) (n : ℕ) → (b ≡ true → is_some o ≡ true) → o ≡ place_or o (cond b (Some n) None)
noted_old = noted_by

pub noted_new : (o : Option ℕ) (b : Bool) (n : ℕ) → (b ≡ true → is_some o ≡ false) → cond b (Some n) o ≡ place_or o (cond b (Some n) None)
noted_new (Some place) true n none = let is : true ≡ false = none refl in cc
noted_new None true n none = refl
noted_new o false n none = sym (place_or_none o)

any_by : (b : Bool) (o : Option ℕ) → (b || is_some o) ≡ is_some (cond b (Some 0) (option_map suc o))
any_by true o = refl
any_by false None = refl
any_by false (Some n) = refl

-- there is a first where any passes
pub any_placed : {X Y : Type 0} (f : X → Y) (p : Y → Bool) (xs : List X) → list_any p (map f xs) ≡ is_some (position (λ x. p (f x)) xs)
any_placed f p [] = refl
any_placed f p (x ∷ xs) = ap (λ b. p (f x) || b) (any_placed f p xs) ∙ any_by (p (f x)) (position (λ x. p (f x)) xs) ∙ ap (λ (o : Option ℕ). is_some o) (sym (position_cons (λ x. p (f x)) x xs))
