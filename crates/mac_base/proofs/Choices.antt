-- Which way a choice went, from what it came to.
use Rattle.std.proofs.Common.{◌≡◌, Bool, true, false, cond, Option, Some, None, Result, Ok, Err, inl, inr, ◌⊎◌, refl}
use Rattle.std.specs.Option.{option_map, is_some}
use Rattle.mac_base.specs.Input.{◌>>=◌}

pub same_some : {A : Type 0} (x y : A) → Some x ≡ Some y → x ≡ y
same_some x y is = cc

pub same_ok : {A E : Type 0} (x y : A) → ◌≡◌ {A = Result A E} (Ok x) (Ok y) → x ≡ y
same_ok x y is = cc

pub none_is_no_some : {A : Type 0} (x : A) → None ≡ Some x → ⊥
none_is_no_some x is = cc

pub ok_is_no_err : {A E : Type 0} (r : Result A E) (x : A) (e : E) → r ≡ Ok x → r ≡ Err e → ⊥
ok_is_no_err r x e is other = cc

pub none_there : {A : Type 0} (o : Option A) → is_some o ≡ false → o ≡ None
none_there None none = refl
none_there (Some x) none = cc

pub stable_none : {A : Type 0} (o : Option A) → ((o ≡ None → ⊥) → ⊥) → o ≡ None
stable_none None never = refl
stable_none (Some x) never = absurd (never (λ is. cc))

pub no_both : {A : Type 0} (o : Option A) (x : A) → o ≡ None → o ≡ Some x → ⊥
no_both o x none is = cc

pub chosen : {A : Type 0} (t : Bool) (x y z : A) → cond t x y ≡ z → ((t ≡ true) × (x ≡ z)) ⊎ ((t ≡ false) × (y ≡ z))
chosen true x y z is = inl (refl, is)
chosen false x y z is = inr (refl, is)

-- a test that had to hold
pub guarded : {A E : Type 0} (t : Bool) (r : Result A E) (y : A) (e : E) → cond t r (Err e) ≡ Ok y → (t ≡ true) × (r ≡ Ok y)
guarded true r y e is = (refl, is)
guarded false r y e is = cc

-- a test that had to fail
pub guarded_not : {A E : Type 0} (t : Bool) (r : Result A E) (y : A) (e : E) → cond t (Err e) r ≡ Ok y → (t ≡ false) × (r ≡ Ok y)
guarded_not true r y e is = cc
guarded_not false r y e is = (refl, is)

pub some_map : {A B : Type 0} (f : A → B) (o : Option A) (y : B) → option_map f o ≡ Some y → (x : A) × (o ≡ Some x) × (f x ≡ y)
some_map f None y is = cc
some_map f (Some x) y is = (x, refl, cc)

pub none_mapped : {A B : Type 0} (f : A → B) (o : Option A) → option_map f o ≡ None → o ≡ None
none_mapped f None none = refl
none_mapped f (Some x) none = cc

pub bind_ok : {A B E : Type 0} (r : Result A E) (f : A → Result B E) (y : B) → (r >>= f) ≡ Ok y → (x : A) × (r ≡ Ok x) × (f x ≡ Ok y)
bind_ok (Ok x) f y is = (x, refl, is)
bind_ok (Err e) f y is = cc
