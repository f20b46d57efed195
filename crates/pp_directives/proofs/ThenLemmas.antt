-- One thing after another, which a fault ends.
use Rattle.std.proofs.Common.{◌≡◌, ◌↔◌, Result, Ok, Err, refl, sym, ap, subst}
use Rattle.mac_base.proofs.Choices.{same_ok}
use Rattle.pp_directives.specs.Following.{Then, Stops, Goes}

-- two facts on each result, each of which gives the other
abbrev pub Same : {R : Type 0} → (P Q : R → Type 0) → Type 0
Same {R} P Q = (r : R) → P r ↔ Q r

pub same_self : {R : Type 0} (P : R → Type 0) → Same P P
same_self P r = (λ p. p, λ p. p)

pub same_back : {R : Type 0} {P Q : R → Type 0} → Same P Q → Same Q P
same_back s r = ((s r).1, (s r).0)

infixr 30 ◌⨾◌
pub ◌⨾◌ : {R : Type 0} {P Q O : R → Type 0} → Same P Q → Same Q O → Same P O
◌⨾◌ s t r = (λ p. (t r).0 ((s r).0 p), λ o. (s r).1 ((t r).1 o))

pub same_err : {A E : Type 0} (x y : E) → ◌≡◌ {A = Result A E} (Err x) (Err y) → x ≡ y
same_err x y is = cc

module _ {S T F : Type 0} where
  -- a first that is the same, and a next that is so after it
  then_on : (P Q : Result S F → Type 0) (N M : S → Result T F → Type 0) → ((r : Result S F) → P r → Q r) →
      ((s : S) → P (Ok s) → (r : Result T F) → N s r → M s r) → (r : Result T F) → Then P N r → Then Q M r
  then_on P Q N M first next _ (Stops {fault = f} stop) = Stops (first (Err f) stop)
  then_on P Q N M first next _ (Goes {s = s} {r = r} go more) = Goes (first (Ok s) go) (next s go r more)

  -- what follows matters only where it is come to
  pub then_after : (P : Result S F → Type 0) (N M : S → Result T F → Type 0) → ((s : S) → P (Ok s) → Same (N s) (M s)) → Same (Then P N) (Then P M)
  then_after P N M next r = (
    then_on P P N M (λ q p. p) (λ s go q. (next s go q).0) r,
    then_on P P M N (λ q p. p) (λ s go q. (next s go q).1) r,
  )

  -- after a first that is known
  known : (x : S) (N : S → Result T F → Type 0) (r : Result T F) → Then (λ q. q ≡ Ok x) N r → N x r
  known x N _ (Stops stop) = cc
  known x N _ (Goes {s = s} {r = r} go more) = subst (λ y. N y r) (same_ok {E = F} s x go) more

  pub then_known : (x : S) (N : S → Result T F → Type 0) → Same (Then (λ q. q ≡ Ok x) N) (N x)
  then_known x N r = (known x N r, λ n. Goes refl n)

  stopped : (f : F) (N : S → Result T F → Type 0) (r : Result T F) → Then (λ q. q ≡ Err f) N r → r ≡ Err f
  stopped f N _ (Stops stop) = cc
  stopped f N _ (Goes go more) = cc

  starts : (f : F) (N : S → Result T F → Type 0) (r : Result T F) → r ≡ Err f → Then (λ q. q ≡ Err f) N r
  starts f N (Ok x) is = cc
  starts f N (Err e) is = Stops (ap (λ x. Err x) (same_err {A = T} e f is))

  pub then_stopped : (f : F) (N : S → Result T F → Type 0) → Same (Then (λ q. q ≡ Err f) N) (λ r. r ≡ Err f)
  then_stopped f N r = (stopped f N r, starts f N r)

module _ {S F : Type 0} where
  last : (P : Result S F → Type 0) (r : Result S F) → Then P (λ t q. q ≡ Ok t) r → P r
  last P _ (Stops stop) = stop
  last P _ (Goes {s = s} {r = r} go more) = subst P (sym more) go

  ends : (P : Result S F → Type 0) (r : Result S F) → P r → Then P (λ t q. q ≡ Ok t) r
  ends P (Ok x) p = Goes p refl
  ends P (Err e) p = Stops p

  -- after a last
  pub then_last : (P : Result S F → Type 0) → Same (Then P (λ t q. q ≡ Ok t)) P
  then_last P r = (last P r, ends P r)

module _ {S T U F : Type 0} (P : Result S F → Type 0) (N : S → Result T F → Type 0) (M : T → Result U F → Type 0) where
  -- what follows two
  abbrev After : Result T F → Type 0
  After (Ok t) = (r : Result U F) → M t r → Then P (λ s. Then (N s) M) r
  After (Err f) = Then P (λ s. Then (N s) M) (Err f)

  after_next : (s : S) (r : Result T F) → P (Ok s) → N s r → After r
  after_next s (Ok t) go more = λ r m. Goes go (Goes more m)
  after_next s (Err f) go more = Goes go (Stops more)

  after_two : (r : Result T F) → Then P N r → After r
  after_two _ (Stops stop) = Stops stop
  after_two _ (Goes {s = s} {r = r} go more) = after_next s r go more

  together : (r : Result U F) → Then (Then P N) M r → Then P (λ s. Then (N s) M) r
  together _ (Stops {fault = f} stop) = after_two (Err f) stop
  together _ (Goes {s = t} {r = r} go more) = after_two (Ok t) go r more

  two_first : (s : S) → P (Ok s) → (r : Result U F) → Then (N s) M r → Then (Then P N) M r
  two_first s go _ (Stops stop) = Stops (Goes go stop)
  two_first s go _ (Goes n m) = Goes (Goes go n) m

  apart : (r : Result U F) → Then P (λ s. Then (N s) M) r → Then (Then P N) M r
  apart _ (Stops stop) = Stops (Stops stop)
  apart _ (Goes {s = s} {r = r} go more) = two_first s go r more

  -- three in a row
  pub then_three : Same (Then (Then P N) M) (Then P (λ s. Then (N s) M))
  then_three r = (together r, apart r)
