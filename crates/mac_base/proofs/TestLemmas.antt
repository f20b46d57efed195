-- Tests: what `&&`, `||` and a choice come to, beside what the standard library says of them.
use Rattle.std.proofs.Common.{◌≡◌, ℕ, suc, Bool, true, false, ◌&&◌, ◌||◌, cond, refl, sym, arith}
use Rattle.std.proofs.lemmas.Bool.{ne_eqb, eq-eqb, eqb-true}
use Rattle.std.specs.declared.cmp.Ordering.{Ordering}
use Rattle.std.specs.declared.cmp.Ordering.TheVariants.{Less, Equal, Greater}
use Rattle.std.specs.Ordering.{is_eq}
use Rattle.std.specs.Prelude.{nat_eq}
use lib.Dec.{eqb}

pub and_first : (x y : Bool) → (x && y) ≡ true → x ≡ true
and_first true y is = refl
and_first false y is = is

pub and_second : (x y : Bool) → (x && y) ≡ true → y ≡ true
and_second true y is = is
and_second false y is = cc

-- the second of two tests that don't both hold, where the first does
pub and_rest : (x y : Bool) → x ≡ true → (x && y) ≡ false → y ≡ false
and_rest true y holds fails = fails
and_rest false y holds fails = cc

pub and_false : (x : Bool) → (x && false) ≡ false
and_false true = refl
and_false false = refl

pub or_first : (x y : Bool) → (x || y) ≡ false → x ≡ false
or_first true y is = is
or_first false y is = refl

pub or_second : (x y : Bool) → (x || y) ≡ false → y ≡ false
or_second true y is = cc
or_second false y is = is

pub or_false : (x : Bool) → (x || false) ≡ x
or_false true = refl
or_false false = refl

pub or_true : (x : Bool) → (x || true) ≡ true
or_true true = refl
or_true false = refl

-- tests that hold together are one
pub same_tests : (x y : Bool) → (x ≡ true → y ≡ true) → (y ≡ true → x ≡ true) → x ≡ y
same_tests true y there back = sym (there refl)
same_tests false true there back = back refl
same_tests false false there back = refl

pub eqb_swapped : (a b : ℕ) → eqb a b ≡ eqb b a
eqb_swapped a b = same_tests (eqb a b) (eqb b a) (λ is. eq-eqb b a (sym (eqb-true a b is))) (λ is. eq-eqb a b (sym (eqb-true b a is)))

pub zero_apart : (n : ℕ) → nat_eq (suc n) 0 ≡ false
zero_apart n = ne_eqb (suc n) 0 (λ is. absurd (omega arith))

pub is_equal : (o : Ordering) → is_eq o ≡ true → o ≡ Equal
is_equal Less is = cc
is_equal Equal is = refl
is_equal Greater is = cc

-- the same test once more in the arm where it failed
pub cond_again : {A : Type 0} (a b : Bool) (x y z : A) → a ≡ b → cond a x z ≡ cond b x (cond a y z)
cond_again true true x y z is = refl
cond_again false false x y z is = refl
cond_again true false x y z is = cc
cond_again false true x y z is = cc

-- two tests that never both hold, in either order
pub cond_swapped : {A : Type 0} (a b : Bool) (x y z : A) → (a ≡ true → b ≡ true → ⊥) → cond a x (cond b y z) ≡ cond b y (cond a x z)
cond_swapped true true x y z apart = absurd (apart refl refl)
cond_swapped true false x y z apart = refl
cond_swapped false b x y z apart = refl
