-- A list expands to its expansion by the rules, and to nothing else.
use Rattle.std.proofs.Common.{◌≡◌, ℕ, zero, suc, ◌+◌, ◌-◌, ◌<◌, ◌≤◌, Bool, true, false, List, [], ◌∷◌, ◌++◌, length, Result, Ok, Err, refl, sym, ap, ◌∙◌, subst, arith, length-append, nat_le, if◌then◌else◌}
use Rattle.std.proofs.lemmas.Bool.{cond_both, leb-true, le-leb, leb-false, lt-leb, cond-true, cond-false}
use Rattle.mac_base.specs.Input.{◌>>=◌}
use Rattle.macro_expand.specs.declared.here.Here.{Here}
use Rattle.macro_expand.specs.declared.fault.ExpandFault.{ExpandFault}
use Rattle.macro_expand.specs.declared.fault.ExpandFault.TheVariants.{TooLong}
use Rattle.macro_expand.specs.Marked.{Marked}
use Rattle.macro_expand.specs.Macros.{Macros}
use Rattle.macro_expand.specs.Calls.{Waiting}
use Rattle.macro_expand.specs.Substituted.{Argument, substituted}
use Rattle.macro_expand.specs.Heads.{Call, Head, Finished, Stays, Replaced, Fails, head_of}
use Rattle.macro_expand.specs.Expansion.{limit, Answer, after, within, each, step_from, steps, expansion}
use Rattle.macro_expand.specs.Rules.{HasHead, Expands, Ends, Keeps, Refuses, Puts, Replaces, ArgumentFails, ListFails, TooMuch, Rescans, Arguments, NoMore, Fault, LaterFault, Next, IsArgument, Wanted, Unwanted}
use Rattle.macro_expand.specs.Taking.{weight}
use Rattle.macro_expand.proofs.Sizes.{IsSized, head_sized}
use Rattle.macro_expand.proofs.Steps.{expansion_step, Grows, wanted_grows, each_grows, expand_grows}
use Rattle.macro_expand.proofs.HeadRules.{head_only, head_ruled}

-- so much work is allowed
pub within_true : (work : ℕ) (go : ℕ → Answer) → work ≤ limit → within work go ≡ go work
within_true work go h = ap (λ (b : Bool). elim b as (λ _. Answer) [ true ↦ go work | false ↦ Err TooLong ]) (le-leb work limit h)

-- so much work is not
pub within_false : (work : ℕ) (go : ℕ → Answer) → limit < work → within work go ≡ Err TooLong
within_false work go h = ap (λ (b : Bool). elim b as (λ _. Answer) [ true ↦ go work | false ↦ Err TooLong ]) (lt-leb work limit h)

module _ (macros : Macros) (here : Here) where
  step_at : {list : List Marked} {head : Head} (work : ℕ) (answer : Answer) → HasHead macros here list head → step_from (expansion macros here) head work ≡ answer → expansion macros here list work ≡ answer
  step_at {list} work answer e h = expansion_step macros here list work ∙ ap (λ v. step_from (expansion macros here) v work) (head_only macros here e) ∙ h

  mutual
    -- what a list expands to is its expansion
    pub only : {list : List Marked} {work : ℕ} {answer : Answer} → Expands macros here list work answer → expansion macros here list work ≡ answer
    only (Ends {work = work} h) = step_at work _ h refl
    only (Keeps {m = m} {work} h e) = step_at work _ h (ap (after (m ∷ [])) (only e))
    only (Refuses {work = work} h) = step_at work _ h refl
    only (Puts {work = work} {answer} h r) = step_at work answer h (only_replaces r)

    only_replaces : {c : Call} {work : ℕ} {answer : Answer} → Replaces macros here c work answer → step_from (expansion macros here) (Replaced c) work ≡ answer
    only_replaces (ArgumentFails a) = rw (only_arguments a) refl
    only_replaces (ListFails a s) = rw (only_arguments a) (rw s refl)
    only_replaces (TooMuch {c} {list = list} a s l) = rw (only_arguments a) (rw s (within_false _ (expansion macros here (list ++ c.rest)) l))
    only_replaces (Rescans {c} {list = list} a s l e) = rw (only_arguments a) (rw s (within_true _ (expansion macros here (list ++ c.rest)) l ∙ only e))

    only_arguments : {args : List Waiting} {work : ℕ} {r : Result (List Argument × ℕ) ExpandFault} → Arguments macros here args work r → each (expansion macros here) args work ≡ r
    only_arguments NoMore = refl
    only_arguments (Fault w e) = rw w (rw (only e) refl)
    only_arguments (LaterFault i a) = rw (only_argument i) (rw (only_arguments a) refl)
    only_arguments (Next i a) = rw (only_argument i) (rw (only_arguments a) refl)

    only_argument : {a : Waiting} {work behind : ℕ} {list : List Marked} → IsArgument macros here a work list behind → (if a.wanted then expansion macros here a.plain work else Ok ([], work)) ≡ Ok (list, behind)
    only_argument (Wanted h e) = cond-true _ _ _ h ∙ only e
    only_argument (Unwanted h) = cond-false _ _ _ h

  -- The other way: arguments.

  abbrev Argued : Waiting → ℕ → Answer → Type 0
  Argued a work (Ok x) = IsArgument macros here a work x.0 x.1
  Argued a work (Err f) = (a.wanted ≡ true) × Expands macros here a.plain work (Err f)

  argued : (a : Waiting) (work : ℕ) (r : Answer) → a.wanted ≡ true → Expands macros here a.plain work r → Argued a work r
  argued a work (Ok x) w e = Wanted w e
  argued a work (Err f) w e = (w, e)

  expansion_grows : (list : List Marked) (work : ℕ) → Grows work (expansion macros here list work)
  expansion_grows list work = expand_grows macros here (steps list work) list work

  abbrev others_of : Waiting → List Marked → Result (List Argument × ℕ) ExpandFault → Result (List Argument × ℕ) ExpandFault
  others_of a list r = r >>= (λ others. Ok (record { name = a.name; plain = a.plain; expanded = list } ∷ others.0, others.1))

  others : (a : Waiting) (more : List Waiting) (work w : ℕ) (list : List Marked) → IsArgument macros here a work list w → (r : Result (List Argument × ℕ) ExpandFault) → Arguments macros here more w r → Arguments macros here (a ∷ more) work (others_of a list r)
  others a more work w list i (Ok x) h = Next i h
  others a more work w list i (Err f) h = LaterFault i h

  first : (a : Waiting) (more : List Waiting) (work : ℕ) (r : Answer) → Argued a work r → Grows work r → ((w : ℕ) → work ≤ w → Arguments macros here more w (each (expansion macros here) more w)) → Arguments macros here (a ∷ more) work (r >>= (λ e. others_of a e.0 (each (expansion macros here) more e.1)))
  first a more work (Ok x) i g h = others a more work x.1 x.0 i (each (expansion macros here) more x.1) (h x.1 g)
  first a more work (Err f) i g h = Fault i.0 i.1

  abbrev Complete : ℕ → Type 0
  Complete k = (list : List Marked) (work : ℕ) → length list + (limit - work) < k → Expands macros here list work (expansion macros here list work)

  arguments_complete : (k : ℕ) → Complete k → (args : List Waiting) (work : ℕ) → weight args + (limit - work) ≤ k → Arguments macros here args work (each (expansion macros here) args work)
  arguments_complete k c [] work h = NoMore
  arguments_complete k c (a ∷ more) work h =
      first a more work (if a.wanted then expansion macros here a.plain work else Ok ([], work))
      (cond_both a.wanted (expansion macros here a.plain work) (Ok ([], work)) (Argued a work) (λ w. argued a work _ w (c a.plain work (omega arith))) (λ w. Unwanted w))
      (wanted_grows (expansion macros here) expansion_grows a work)
      (λ w g. arguments_complete k c more w (omega arith))

  -- Replacements.

  goes : (c : Call) (work w : ℕ) (args : List Argument) (list : List Marked) → Arguments macros here c.args work (Ok (args, w)) → substituted c.def c.name c.space c.hides args ≡ Ok list → (w + length list ≤ limit → Expands macros here (list ++ c.rest) (w + length list) (expansion macros here (list ++ c.rest) (w + length list))) → Replaces macros here c work (within (w + length list) (expansion macros here (list ++ c.rest)))
  goes c work w args list a s h = go (nat_le (w + length list) limit) refl
    where
      go : (b : Bool) → nat_le (w + length list) limit ≡ b → Replaces macros here c work (elim b as (λ _. Answer) [ true ↦ expansion macros here (list ++ c.rest) (w + length list) | false ↦ Err TooLong ])
      go true e = let l = leb-true (w + length list) limit e in Rescans a s l (h l)
      go false e = TooMuch a s (leb-false (w + length list) limit e)

  lists : (c : Call) (work w : ℕ) (args : List Argument) → Arguments macros here c.args work (Ok (args, w)) → (r : Result (List Marked) ExpandFault) → substituted c.def c.name c.space c.hides args ≡ r → ((list : List Marked) → w + length list ≤ limit → Expands macros here (list ++ c.rest) (w + length list) (expansion macros here (list ++ c.rest) (w + length list))) → Replaces macros here c work (r >>= (λ list. within (w + length list) (expansion macros here (list ++ c.rest))))
  lists c work w args a (Ok list) s h = goes c work w args list a s (h list)
  lists c work w args a (Err f) s h = ListFails a s

  replaces : (c : Call) (work : ℕ) (r : Result (List Argument × ℕ) ExpandFault) → Arguments macros here c.args work r → Grows work r → ((w : ℕ) (list : List Marked) → work ≤ w → w + length list ≤ limit → Expands macros here (list ++ c.rest) (w + length list) (expansion macros here (list ++ c.rest) (w + length list))) → Replaces macros here c work (r >>= (λ args. substituted c.def c.name c.space c.hides args.0 >>= (λ list. within (args.1 + length list) (expansion macros here (list ++ c.rest)))))
  replaces c work (Ok x) a g h = lists c work x.1 x.0 a (substituted c.def c.name c.space c.hides x.0) refl (λ list l. h x.1 list g l)
  replaces c work (Err f) a g h = ArgumentFails a

  from_head : (k : ℕ) → Complete k → (list : List Marked) (work : ℕ) (head : Head) → length list + (limit - work) ≤ k → IsSized (length list) head → HasHead macros here list head → Expands macros here list work (step_from (expansion macros here) head work)
  from_head k c list work Finished h s r = Ends r
  from_head k c list work (Stays n more) h s r = Keeps r (c more work (omega arith))
  from_head k c list work (Fails fault) h s r = Refuses r
  from_head k c list work (Replaced call) h s r =
      Puts r (replaces call work (each (expansion macros here) call.args work)
      (arguments_complete k c call.args work (omega arith))
      (each_grows (expansion macros here) expansion_grows call.args work)
      (λ w list g l. c (list ++ call.rest) (w + length list) (omega (arith, length-append list call.rest))))

  complete_below : (k : ℕ) → Complete k
  complete_below zero list work h = absurd (omega arith)
  complete_below (suc k) list work h =
      subst (λ r. Expands macros here list work r) (sym (expansion_step macros here list work))
      (from_head k (complete_below k) list work (head_of macros here list) (omega arith) (head_sized macros here list) (head_ruled macros here list))

  -- each list expands to its expansion
  pub complete : (list : List Marked) (work : ℕ) → Expands macros here list work (expansion macros here list work)
  complete list work = complete_below (steps list work) list work (omega arith)
