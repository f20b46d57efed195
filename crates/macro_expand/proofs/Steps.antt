-- The expansion of a list is its own step, and work never falls.
use Rattle.std.proofs.Common.{◌≡◌, ℕ, zero, suc, ◌+◌, ◌-◌, ◌<◌, ◌≤◌, Bool, true, false, List, [], ◌∷◌, ◌++◌, length, Result, Ok, Err, refl, ap, ◌∙◌, subst, arith, length-append, nat_le, if◌then◌else◌}
use Rattle.std.proofs.lemmas.Bool.{cond_both, leb-true}
use Rattle.mac_base.specs.Input.{◌>>=◌}
use Rattle.macro_expand.specs.declared.here.Here.{Here}
use Rattle.macro_expand.specs.declared.fault.ExpandFault.{ExpandFault}
use Rattle.macro_expand.specs.declared.fault.ExpandFault.TheVariants.{TooLong}
use Rattle.macro_expand.specs.Marked.{Marked}
use Rattle.macro_expand.specs.Macros.{Macros}
use Rattle.macro_expand.specs.Calls.{Waiting}
use Rattle.macro_expand.specs.Heads.{Head, Finished, Stays, Replaced, Fails, head_of}
use Rattle.macro_expand.specs.Expansion.{limit, Answer, after, within, each, step_from, expand, steps, expansion}
use Rattle.macro_expand.specs.Taking.{weight}
use Rattle.macro_expand.proofs.Sizes.{IsSized, head_sized}

-- Results.

bind_agrees : {A B : Type 0} (r s : Result A ExpandFault) (F G : A → Result B ExpandFault) → r ≡ s → ((x : A) → r ≡ Ok x → F x ≡ G x) → (r >>= F) ≡ (s >>= G)
bind_agrees (Ok x) s F G e h = h x refl ∙ ap (λ v. v >>= G) e
bind_agrees (Err d) s F G e h = ap (λ v. v >>= G) e

-- Work never falls.

abbrev pub Grows : {A : Type 0} → ℕ → Result (A × ℕ) ExpandFault → Type 0
Grows work (Ok r) = work ≤ r.1
Grows work (Err e) = Unit {0}

grows_bind : {A B : Type 0} (work : ℕ) (r : Result (A × ℕ) ExpandFault) (F : A × ℕ → Result (B × ℕ) ExpandFault) → Grows work r → ((x : A × ℕ) → work ≤ x.1 → Grows work (F x)) → Grows work (r >>= F)
grows_bind work (Ok x) F g h = h x g
grows_bind work (Err e) F g h = tt

grows_then : {A B : Type 0} (work : ℕ) (r : Result A ExpandFault) (F : A → Result (B × ℕ) ExpandFault) → ((x : A) → Grows work (F x)) → Grows work (r >>= F)
grows_then work (Ok x) F h = h x
grows_then work (Err e) F h = tt

pub grows_less : {A : Type 0} (v w : ℕ) (r : Result (A × ℕ) ExpandFault) → v ≤ w → Grows w r → Grows v r
grows_less v w (Ok r) h g = omega arith
grows_less v w (Err e) h g = tt

after_grows : (ms : List Marked) (work : ℕ) (r : Answer) → Grows work r → Grows work (after ms r)
after_grows ms work (Ok r) g = g
after_grows ms work (Err e) g = tt

within_grows : (v work : ℕ) (go : ℕ → Answer) → v ≤ work → Grows work (go work) → Grows v (within work go)
within_grows v work go h g =
    elim (nat_le work limit) as (λ b. Grows v (elim b as (λ _. Answer) [ true ↦ go work | false ↦ Err TooLong ])) [
      | true ↦ grows_less v work (go work) h g
      | false ↦ tt
    ]

pub wanted_grows : (go : List Marked → ℕ → Answer) → ((list : List Marked) (work : ℕ) → Grows work (go list work)) → (a : Waiting) (work : ℕ) → Grows work (if a.wanted then go a.plain work else Ok ([], work))
wanted_grows go h a work = cond_both a.wanted _ _ (Grows work) (λ e. h a.plain work) (λ e. omega arith)

pub each_grows : (go : List Marked → ℕ → Answer) → ((list : List Marked) (work : ℕ) → Grows work (go list work)) → (args : List Waiting) (work : ℕ) → Grows work (each go args work)
each_grows go h [] work = omega arith
each_grows go h (a ∷ more) work =
    grows_bind work _ _ (wanted_grows go h a work)
    (λ x g. grows_bind work _ _ (grows_less work x.1 (each go more x.1) g (each_grows go h more x.1)) (λ y k. k))

step_grows : (go : List Marked → ℕ → Answer) → ((list : List Marked) (work : ℕ) → Grows work (go list work)) → (head : Head) (work : ℕ) → Grows work (step_from go head work)
step_grows go h Finished work = omega arith
step_grows go h (Stays m rest) work = after_grows (m ∷ []) work (go rest work) (h rest work)
step_grows go h (Fails fault) work = tt
step_grows go h (Replaced c) work =
    grows_bind work _ _ (each_grows go h c.args work)
    (λ x g. grows_then work _ _ (λ list. within_grows work (x.1 + length list) (go (list ++ c.rest)) (omega (arith, g)) (h (list ++ c.rest) (x.1 + length list))))

pub expand_grows : (macros : Macros) (here : Here) (n : ℕ) (list : List Marked) (work : ℕ) → Grows work (expand n macros here list work)
unfolding expand
expand_grows macros here zero list work = tt
expand_grows macros here (suc n) list work = step_grows (expand n macros here) (expand_grows macros here n) (head_of macros here list) work

-- Two that agree below a size.

abbrev Agree : ℕ → (f g : List Marked → ℕ → Answer) → Type 0
Agree k f g = (list : List Marked) (work : ℕ) → length list + (limit - work) < k → f list work ≡ g list work

pub grown : {A : Type 0} (work : ℕ) (r : Result (A × ℕ) ExpandFault) (x : A × ℕ) → Grows work r → r ≡ Ok x → work ≤ x.1
grown {A = A} work r x h e = subst (λ (v : Result (A × ℕ) ExpandFault). Grows work v) e h

within_agrees : (work : ℕ) (f g : ℕ → Answer) → (work ≤ limit → f work ≡ g work) → within work f ≡ within work g
within_agrees work f g h = go (nat_le work limit) refl
  where
    go : (b : Bool) → nat_le work limit ≡ b → (elim b as (λ _. Answer) [ true ↦ f work | false ↦ Err TooLong ]) ≡ (elim b as (λ _. Answer) [ true ↦ g work | false ↦ Err TooLong ])
    go true e = h (leb-true work limit e)
    go false e = refl

module _ (f g : List Marked → ℕ → Answer) (grows : (list : List Marked) (work : ℕ) → Grows work (f list work)) where
  wanted_agrees : (k : ℕ) → Agree k f g → (a : Waiting) (work : ℕ) → length a.plain + (limit - work) < k → (if a.wanted then f a.plain work else Ok ([], work)) ≡ (if a.wanted then g a.plain work else Ok ([], work))
  wanted_agrees k agree a work h = ap (λ r. if a.wanted then r else Ok ([], work)) (agree a.plain work h)

  each_agrees : (k : ℕ) → Agree k f g → (args : List Waiting) (work : ℕ) → weight args + (limit - work) ≤ k → each f args work ≡ each g args work
  each_agrees k agree [] work h = refl
  each_agrees k agree (a ∷ more) work h =
      bind_agrees _ _ _ _ (wanted_agrees k agree a work (omega arith))
      (λ x e.
      let up : work ≤ x.1 = grown work _ x (wanted_grows f grows a work) e in
      bind_agrees _ _ _ _ (each_agrees k agree more x.1 (omega arith)) (λ y e. refl))

  step_agrees : (k n : ℕ) → Agree k f g → (head : Head) (work : ℕ) → IsSized n head → n + (limit - work) ≤ k → step_from f head work ≡ step_from g head work
  step_agrees k n agree Finished work s h = refl
  step_agrees k n agree (Stays m rest) work s h = ap (after (m ∷ [])) (agree rest work (omega arith))
  step_agrees k n agree (Fails fault) work s h = refl
  step_agrees k n agree (Replaced c) work s h =
      bind_agrees _ _ _ _ (each_agrees k agree c.args work (omega arith))
      (λ x e.
      let up : work ≤ x.1 = grown work _ x (each_grows f grows c.args work) e in
      bind_agrees _ _ _ _ refl
      (λ list e. within_agrees (x.1 + length list) (f (list ++ c.rest)) (g (list ++ c.rest))
      (λ l. agree (list ++ c.rest) (x.1 + length list) (omega (arith, length-append list c.rest)))))

-- Fuel.

module _ (macros : Macros) (here : Here) where
  -- what bounds the steps doesn't change the answer
  enough : (n m : ℕ) (list : List Marked) (work : ℕ) → length list + (limit - work) < n → length list + (limit - work) < m → expand n macros here list work ≡ expand m macros here list work
  unfolding expand
  enough zero m list work h k = absurd (omega arith)
  enough (suc n) zero list work h k = absurd (omega arith)
  enough (suc n) (suc m) list work h k =
      step_agrees (expand n macros here) (expand m macros here) (expand_grows macros here n) (length list + (limit - work)) (length list)
      (λ l w i. enough n m l w (omega arith) (omega arith)) (head_of macros here list) work (head_sized macros here list) (omega arith)

  -- the expansion of a list is the step from its head
  pub expansion_step : (list : List Marked) (work : ℕ) → expansion macros here list work ≡ step_from (expansion macros here) (head_of macros here list) work
  unfolding expand
  expansion_step list work =
      let k : ℕ = length list + (limit - work) in
      step_agrees (expand k macros here) (expansion macros here) (expand_grows macros here k) k (length list)
      (λ l w i. enough k (steps l w) l w (omega arith) (omega arith)) (head_of macros here list) work (head_sized macros here list) (omega arith)
