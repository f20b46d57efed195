-- A list has its single level by the rules, and no other.
use Rattle.std.proofs.Common.{◌≡◌, ℕ, zero, suc, ◌+◌, ◌<◌, ◌≤◌, Bool, true, false, List, [], ◌∷◌, length, Result, Ok, Err, refl, sym, ap, ◌∙◌, subst, arith, nat_le}
use Rattle.std.proofs.lemmas.Bool.{leb-true, leb-false}
use Rattle.mac_base.specs.Input.{◌>>=◌}
use Rattle.macro_expand.specs.declared.here.Here.{Here}
use Rattle.macro_expand.specs.declared.fault.ExpandFault.{ExpandFault}
use Rattle.macro_expand.specs.declared.fault.ExpandFault.TheVariants.{TooLong}
use Rattle.macro_expand.specs.Marked.{Marked}
use Rattle.macro_expand.specs.Macros.{Macros}
use Rattle.macro_expand.specs.Substituted.{substituted}
use Rattle.macro_expand.specs.Heads.{Call, Head, Finished, Stays, Replaced, Fails, head_of}
use Rattle.macro_expand.specs.Expansion.{limit, Answer, after, within, as_written, once_from, expand_once, single_level}
use Rattle.macro_expand.specs.Rules.{HasHead, ExpandsOnce, OnceEnds, OnceKeeps, OnceRefuses, OnceListFails, OnceTooMuch, OncePuts}
use Rattle.macro_expand.proofs.Sizes.{IsSized, head_sized}
use Rattle.macro_expand.proofs.HeadRules.{head_only, head_ruled}
use Rattle.macro_expand.proofs.OneAnswer.{within_true, within_false}

bind_same : {A B : Type 0} (r : Result A ExpandFault) (F G : A → Result B ExpandFault) → ((x : A) → F x ≡ G x) → (r >>= F) ≡ (r >>= G)
bind_same (Ok x) F G h = h x
bind_same (Err d) F G h = refl

within_same : (work : ℕ) (f g : ℕ → Answer) → f work ≡ g work → within work f ≡ within work g
within_same work f g h = ap (λ (r : Answer). elim (nat_le work limit) as (λ _. Answer) [ true ↦ r | false ↦ Err TooLong ]) h

once_agrees : (n : ℕ) (f g : List Marked → ℕ → Answer) → ((list : List Marked) (work : ℕ) → length list < n → f list work ≡ g list work) → (head : Head) (work : ℕ) → IsSized n head → once_from f head work ≡ once_from g head work
once_agrees n f g h Finished work s = refl
once_agrees n f g h (Stays m rest) work s = ap (after (m ∷ [])) (h rest work s)
once_agrees n f g h (Fails fault) work s = refl
once_agrees n f g h (Replaced c) work s =
    bind_same (substituted c.def c.name c.space c.hides (as_written c.args)) _ _
    (λ list. within_same (work + length list) (λ w. after list (f c.rest w)) (λ w. after list (g c.rest w)) (ap (after list) (h c.rest (work + length list) (omega arith))))

module _ (macros : Macros) (here : Here) where
  enough : (n m : ℕ) (list : List Marked) (work : ℕ) → length list < n → length list < m → expand_once n macros here list work ≡ expand_once m macros here list work
  unfolding expand_once
  enough zero m list work h k = absurd (omega arith)
  enough (suc n) zero list work h k = absurd (omega arith)
  enough (suc n) (suc m) list work h k =
      once_agrees (length list) (expand_once n macros here) (expand_once m macros here) (λ l w i. enough n m l w (omega arith) (omega arith)) (head_of macros here list) work (head_sized macros here list)

  -- a single level is its own step
  pub level_step : (list : List Marked) (work : ℕ) → single_level macros here list work ≡ once_from (single_level macros here) (head_of macros here list) work
  unfolding expand_once
  level_step list work =
      once_agrees (length list) (expand_once (length list) macros here) (single_level macros here) (λ l w i. enough (length list) (suc (length l)) l w i (omega arith)) (head_of macros here list) work (head_sized macros here list)

  level_at : {list : List Marked} {head : Head} (work : ℕ) (answer : Answer) → HasHead macros here list head → once_from (single_level macros here) head work ≡ answer → single_level macros here list work ≡ answer
  level_at {list} work answer e h = level_step list work ∙ ap (λ v. once_from (single_level macros here) v work) (head_only macros here e) ∙ h

  -- what the rules give is the single level
  pub only_level : {list : List Marked} {work : ℕ} {answer : Answer} → ExpandsOnce macros here list work answer → single_level macros here list work ≡ answer
  only_level (OnceEnds {work = work} h) = level_at work _ h refl
  only_level (OnceKeeps {m = m} {work} h e) = level_at work _ h (ap (after (m ∷ [])) (only_level e))
  only_level (OnceRefuses {work = work} h) = level_at work _ h refl
  only_level (OnceListFails {work = work} h s) = level_at work _ h (rw s refl)
  only_level (OnceTooMuch {put = put} {c} {work} h s l) = level_at work _ h (rw s (within_false (work + length put) (λ w. after put (single_level macros here c.rest w)) l))
  only_level (OncePuts {put = put} {c} {work} h s l e) = level_at work _ h (rw s (within_true (work + length put) (λ w. after put (single_level macros here c.rest w)) l ∙ ap (after put) (only_level e)))

  abbrev Complete : ℕ → Type 0
  Complete k = (list : List Marked) (work : ℕ) → length list < k → ExpandsOnce macros here list work (single_level macros here list work)

  puts : {list : List Marked} (c : Call) (work : ℕ) (put : List Marked) → HasHead macros here list (Replaced c) → substituted c.def c.name c.space c.hides (as_written c.args) ≡ Ok put → ((w : ℕ) → ExpandsOnce macros here c.rest w (single_level macros here c.rest w)) → ExpandsOnce macros here list work (within (work + length put) (λ w. after put (single_level macros here c.rest w)))
  puts {list} c work put r s h = go (nat_le (work + length put) limit) refl
    where
      go : (b : Bool) → nat_le (work + length put) limit ≡ b → ExpandsOnce macros here list work (elim b as (λ _. Answer) [ true ↦ after put (single_level macros here c.rest (work + length put)) | false ↦ Err TooLong ])
      go true e = OncePuts r s (leb-true (work + length put) limit e) (h (work + length put))
      go false e = OnceTooMuch r s (leb-false (work + length put) limit e)

  put_lists : {list : List Marked} (c : Call) (work : ℕ) (r : Result (List Marked) ExpandFault) → HasHead macros here list (Replaced c) → substituted c.def c.name c.space c.hides (as_written c.args) ≡ r → ((w : ℕ) → ExpandsOnce macros here c.rest w (single_level macros here c.rest w)) → ExpandsOnce macros here list work (r >>= (λ put. within (work + length put) (λ w. after put (single_level macros here c.rest w))))
  put_lists c work (Ok put) r s h = puts c work put r s h
  put_lists c work (Err f) r s h = OnceListFails r s

  from_head : (k : ℕ) → Complete k → (list : List Marked) (work : ℕ) (head : Head) → length list ≤ k → IsSized (length list) head → HasHead macros here list head → ExpandsOnce macros here list work (once_from (single_level macros here) head work)
  from_head k c list work Finished h s r = OnceEnds r
  from_head k c list work (Stays n more) h s r = OnceKeeps r (c more work (omega arith))
  from_head k c list work (Fails fault) h s r = OnceRefuses r
  from_head k c list work (Replaced call) h s r =
      put_lists call work (substituted call.def call.name call.space call.hides (as_written call.args)) r refl (λ w. c call.rest w (omega arith))

  complete_below : (k : ℕ) → Complete k
  complete_below zero list work h = absurd (omega arith)
  complete_below (suc k) list work h =
      subst (λ r. ExpandsOnce macros here list work r) (sym (level_step list work))
      (from_head k (complete_below k) list work (head_of macros here list) (omega arith) (head_sized macros here list) (head_ruled macros here list))

  -- each list has its single level
  pub complete_level : (list : List Marked) (work : ℕ) → ExpandsOnce macros here list work (single_level macros here list work)
  complete_level list work = complete_below (suc (length list)) list work (omega arith)
