-- Items that are read one after another are spelled one after another.
use Rattle.std.proofs.Common.{◌≡◌, ℕ, zero, suc, List, [], ◌∷◌, ◌++◌, length, map, Result, Ok, Err, refl, ap, subst, ◌∙◌, sym}
use Rattle.mac_base.specs.declared.cursor.CursorFault.{CursorFault}
use Rattle.mac_base.specs.Input.{Input, ahead}
use Rattle.mac_base.specs.Spelling.{Between}
use Rattle.mac_base.proofs.Choices.{bind_ok, same_ok}
use Rattle.mac_base.proofs.InputLemmas.{between_none, between_both, between_cut}
use Rattle.line_names.specs.declared.fault.LineFault.{LineFault}
use Rattle.line_names.specs.Faults.{field}
use Rattle.line_names.specs.Files.{repeat_at}
use Rattle.line_names.specs.Spelling.{AreEach}

pub field_ok : {A : Type 0} (r : Result A CursorFault) (x : A) → field r ≡ Ok x → r ≡ Ok x
field_ok (Ok y) x is = cc
field_ok (Err e) x is = cc

pub between_same : (p q : Input) → p ≡ q → Between p q []
between_same p q is = subst (λ (z : Input). Between p z []) is (between_none p)

pub same_between : (p q : Input) → Between p q [] → p ≡ q
same_between p q between = (between_none p).place ∙ sym between.place

-- a place at which no bytes follow
pub none_between : (p q : Input) (bytes : List ℕ) → Between p q bytes → bytes ≡ [] → p ≡ q
none_between p q bytes between none = same_between p q (subst (λ (xs : List ℕ). Between p q xs) none between)

-- what a read took: its bytes spell an item, whose view is the value
pub record Took {A B : Type 0} (IsOne : List ℕ → B → Type 0) (view : B → A) (p q : Input) (value : A) : Type 0 where
  pub item : B
  pub bytes : List ℕ
  pub between : Between p q bytes
  pub is_one : IsOne bytes item
  pub is_value : view item ≡ value

-- the same of so many reads
pub record TookEach {A B : Type 0} (IsOne : List ℕ → B → Type 0) (view : B → A) (n : ℕ) (p q : Input) (values : List A) : Type 0 where
  pub items : List B
  pub bytes : List ℕ
  pub between : Between p q bytes
  pub are_each : AreEach IsOne bytes items
  pub are_values : map view items ≡ values
  pub long : length items ≡ n

pub repeat_takes : {A B : Type 0} (IsOne : List ℕ → B → Type 0) (view : B → A) (read : Input → Result (A × Input) LineFault) → ((p q : Input) (value : A) → read p ≡ Ok (value, q) → Took IsOne view p q value) → (n : ℕ) (p q : Input) (values : List A) → repeat_at read n p ≡ Ok (values, q) → TookEach IsOne view n p q values
repeat_takes {A} {B} IsOne view read one zero p q values is =
    let same = same_ok {E = LineFault} ([], p) (values, q) is in
    record {
      items = [];
      bytes = [];
      between = between_same p q (ap (λ (x : List A × Input). x.1) same);
      are_each = refl;
      are_values = ap (λ (x : List A × Input). x.0) same;
      long = refl;
    }
repeat_takes {A} {B} IsOne view read one (suc n) p q values is =
    let first = bind_ok (read p) _ (values, q) is in
    let more = bind_ok (repeat_at read n first.0.1) _ (values, q) first.2 in
    let same = same_ok {E = LineFault} (first.0.0 ∷ more.0.0, more.0.1) (values, q) more.2 in
    let x = one p first.0.1 first.0.0 first.1 in
    let xs = repeat_takes IsOne view read one n first.0.1 more.0.1 more.0.0 more.1 in
    let end : more.0.1 ≡ q = ap (λ (y : List A × Input). y.1) same in
    record {
      items = x.item ∷ xs.items;
      bytes = x.bytes ++ xs.bytes;
      between = subst (λ (z : Input). Between p z (x.bytes ++ xs.bytes)) end (between_both p first.0.1 more.0.1 x.bytes xs.bytes x.between xs.between);
      are_each = (x.bytes, xs.bytes, refl {a = x.bytes ++ xs.bytes}, x.is_one, xs.are_each);
      are_values = ap (λ v. v ∷ map view xs.items) x.is_value ∙ ap (λ (vs : List A). first.0.0 ∷ vs) xs.are_values ∙ ap (λ (y : List A × Input). y.0) same;
      long = ap suc xs.long;
    }

pub repeat_again : {A B : Type 0} (IsOne : List ℕ → B → Type 0) (view : B → A) (read : Input → Result (A × Input) LineFault) → ((p q : Input) (bytes : List ℕ) (item : B) → Between p q bytes → IsOne bytes item → read p ≡ Ok (view item, q)) → (items : List B) (p q : Input) (bytes : List ℕ) → Between p q bytes → AreEach IsOne bytes items → repeat_at read (length items) p ≡ Ok (map view items, q)
repeat_again IsOne view read one [] p q bytes between are = ap (λ (z : Input). Ok ([], z)) (none_between p q bytes between are)
repeat_again IsOne view read one (x ∷ xs) p q bytes between are =
    let cut = between_cut p q are.0 are.1 (subst (λ (ys : List ℕ). Between p q ys) are.2 between) in
    let m = ahead p (length are.0) in
    rw (one p m are.0 x cut.0 are.3, repeat_again IsOne view read one xs m q are.1 cut.1 are.4) refl

-- items that are spelled in one way are spelled in another
pub each_as : {A : Type 0} (IsOne IsOther : List ℕ → A → Type 0) → ((bytes : List ℕ) (x : A) → IsOne bytes x → IsOther bytes x) → (xs : List A) (bytes : List ℕ) → AreEach IsOne bytes xs → AreEach IsOther bytes xs
each_as IsOne IsOther turn [] bytes are = are
each_as IsOne IsOther turn (x ∷ xs) bytes are = (are.0, are.1, are.2, turn are.0 x are.3, each_as IsOne IsOther turn xs are.1 are.4)
