-- Sets of names by their lists.
use Rattle.std.proofs.Common.{◌≡◌, ℕ, Bool, true, false, cond, ◌||◌, ◌&&◌, List, [], ◌∷◌, ◌++◌, refl, sym, ap, ◌∙◌, bytes_eq}
use Rattle.std.proofs.Math.Path.{fun_ext}
use Rattle.std.proofs.lemmas.Slice.Eq.{bytes_eq-Decides}
use Rattle.macro_expand.specs.Marked.{Names, with_name, union, intersection}
use Rattle.macro_expand.specs.States.{members, covers_names, missing_names, common_names, AreAmong}
use Rattle.mac_base.proofs.TestLemmas.{and_first, and_second}

-- a set gives the same for equal names
at_equal : (f : Names) (x n : List ℕ) (b : Bool) → f x ≡ b → bytes_eq x n ≡ true → f n ≡ b
at_equal f x n b h e = ap f (sym ((bytes_eq-Decides x n).0 e)) ∙ h

-- what is covered is a member
pub covered : (f : Names) (b : List (List ℕ)) → covers_names f b ≡ true → AreAmong (members b) f
covered f [] c n h = cc
covered f (x ∷ xs) c n h = go (bytes_eq x n) refl h (λ k. covered f xs (and_second (f x) (covers_names f xs) c) n k)
  where
    go : (t : Bool) → bytes_eq x n ≡ t → (t || members xs n) ≡ true → (members xs n ≡ true → f n ≡ true) → f n ≡ true
    go true k h r = at_equal f x n true (and_first (f x) (covers_names f xs) c) k
    go false k h r = r h

-- a set that has all of another is their union
union_covered : (f g : Names) → AreAmong g f → f ≡ union f g
union_covered f g c = fun_ext (λ n. go n (f n) (g n) (c n))
  where
    go : (n : List ℕ) (p q : Bool) → (q ≡ true → p ≡ true) → p ≡ (p || q)
    go n true q h = refl
    go n false true h = h refl
    go n false false h = refl

-- a set all of which is in another is their intersection
intersection_covered : (f g : Names) → AreAmong f g → f ≡ intersection f g
intersection_covered f g c = fun_ext (λ n. go n (f n) (g n) (c n))
  where
    go : (n : List ℕ) (p q : Bool) → (p ≡ true → q ≡ true) → p ≡ (p && q)
    go n true q h = sym (h refl)
    go n false q h = refl

members-append : (a b : List (List ℕ)) (n : List ℕ) → members (a ++ b) n ≡ (members a n || members b n)
members-append [] b n = refl
members-append (x ∷ xs) b n = or_more (bytes_eq x n) (members xs n) (members b n) (members (xs ++ b) n) (members-append xs b n)
  where
    or_more : (t p q r : Bool) → r ≡ (p || q) → (t || r) ≡ ((t || p) || q)
    or_more true p q r e = refl
    or_more false p q r e = e

-- a name at the end is a name more
pub name_more : (f : Names) (a : List (List ℕ)) (x : List ℕ) → members a ≡ f → members (a ++ x ∷ []) ≡ with_name x f
name_more f a x e = fun_ext (λ n. members-append a (x ∷ []) n ∙ turn (members a n) (bytes_eq x n)) ∙ ap (with_name x) e
  where
    turn : (p t : Bool) → (p || (t || false)) ≡ (t || p)
    turn true true = refl
    turn true false = refl
    turn false true = refl
    turn false false = refl

missing_here : (f : Names) (b : List (List ℕ)) (n : List ℕ) → (f n || members (missing_names f b) n) ≡ (f n || members b n)
missing_here f [] n = refl
missing_here f (x ∷ xs) n = go (f x) refl (bytes_eq x n) refl (missing_here f xs n)
  where
    keep : (t p q r : Bool) → (p || q) ≡ (p || r) → (p || (t || q)) ≡ (p || (t || r))
    keep true p q r e = refl
    keep false p q r e = e

    has : (p q : Bool) → p ≡ true → (p || q) ≡ true
    has true q e = refl
    has false q e = cc

    go : (k : Bool) → f x ≡ k → (t : Bool) → bytes_eq x n ≡ t → (f n || members (missing_names f xs) n) ≡ (f n || members xs n) → (f n || members (cond k (missing_names f xs) (x ∷ missing_names f xs)) n) ≡ (f n || (t || members xs n))
    go true e true h r = let y = at_equal f x n true e h in has (f n) (members (missing_names f xs) n) y ∙ sym (has (f n) true y)
    go true e false h r = r
    go false e t h r = ap (λ v. f n || (v || members (missing_names f xs) n)) h ∙ keep t (f n) (members (missing_names f xs) n) (members xs n) r

common_here : (a : List (List ℕ)) (g : Names) (n : List ℕ) → members (common_names a g) n ≡ (members a n && g n)
common_here [] g n = refl
common_here (x ∷ xs) g n = go (g x) refl (bytes_eq x n) refl (common_here xs g n)
  where
    none : (p q r : Bool) → r ≡ (p && q) → q ≡ false → r ≡ q
    none true q r e h = e
    none false q r e h = e ∙ sym h

    has : (p q : Bool) → q ≡ true → (true || p) ≡ q
    has p q h = sym h

    go : (k : Bool) → g x ≡ k → (t : Bool) → bytes_eq x n ≡ t → members (common_names xs g) n ≡ (members xs n && g n) → members (cond k (x ∷ common_names xs g) (common_names xs g)) n ≡ ((t || members xs n) && g n)
    go true e true f r = ap (λ v. v || members (common_names xs g) n) f ∙ has (members (common_names xs g) n) (g n) (at_equal g x n true e f)
    go true e false f r = ap (λ v. v || members (common_names xs g) n) f ∙ r
    go false e true f r = none (members xs n) (g n) (members (common_names xs g) n) r (at_equal g x n false e f)
    go false e false f r = r

module _ (set a b : Names) where
  pub union_same : AreAmong b a → set ≡ a → set ≡ union a b
  union_same c e = e ∙ union_covered a b c

  pub union_new : (names others all : List (List ℕ)) → members names ≡ a → members others ≡ b → all ≡ names ++ missing_names a others → set ≡ members all → set ≡ union a b
  union_new names others all n o k e =
      e ∙ ap members k ∙ fun_ext (λ x. members-append names (missing_names a others) x ∙ ap (λ (f : Names). f x || members (missing_names a others) x) n ∙ missing_here a others x) ∙ ap (union a) o

  pub intersection_same : AreAmong a b → set ≡ a → set ≡ intersection a b
  intersection_same c e = e ∙ intersection_covered a b c

  pub intersection_new : (names all : List (List ℕ)) → members names ≡ a → all ≡ common_names names b → set ≡ members all → set ≡ intersection a b
  intersection_new names all n k e = e ∙ ap members k ∙ fun_ext (λ x. common_here names b x) ∙ ap (λ (f : Names). intersection f b) n
