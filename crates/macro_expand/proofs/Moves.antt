-- What the machine's moves keep.
use Rattle.std.proofs.Common.{cond, ◌≡◌, ℕ, zero, suc, ◌+◌, ◌-◌, ◌<◌, ◌≤◌, Bool, true, false, List, [], ◌∷◌, ◌++◌, map, take, drop, length, Option, Some, None, Result, Ok, Err, ◌⊎◌, inl, inr, refl, sym, ap, ◌∙◌, subst, arith, length-append, append_assoc, append-nil, if◌then◌else◌}
use Rattle.std.proofs.lemmas.List.{map_push, length-map}
use Rattle.mac_base.specs.Input.{◌>>=◌}
use Rattle.pp_tokens.specs.declared.token.Token.{Token}
use Rattle.macro_expand.specs.declared.here.Here.{Here}
use Rattle.macro_expand.specs.declared.fault.ExpandFault.{ExpandFault}
use Rattle.macro_expand.specs.declared.fault.ExpandFault.TheVariants.{NoMemory, TooLong}
use Rattle.macro_expand.specs.declared.hide_set.hidden_token.HiddenToken.{HiddenToken}
use Rattle.macro_expand.specs.declared.substitution.argument_pass.Argument.{Argument as HeldArgument}
use Rattle.macro_expand.specs.declared.rescan.head.MacroCall.{MacroCall}
use Rattle.macro_expand.specs.declared.rescan.machine.Frame.{Frame}
use Rattle.macro_expand.specs.declared.rescan.machine.Machine.{Machine}
use Rattle.macro_expand.specs.Marked.{Marked}
use Rattle.macro_expand.specs.Macros.{Macros, params_of}
use Rattle.macro_expand.specs.Calls.{Waiting, waiting, stands_free, first_list, other_lists}
use Rattle.macro_expand.specs.Substituted.{Argument, substituted}
use Rattle.macro_expand.specs.Heads.{Call, Head, Finished, Stays, Replaced, Fails, head_of}
use Rattle.macro_expand.specs.Expansion.{limit, Answer, after, within, each, step_from, expansion, tokens_of}
use Rattle.macro_expand.specs.States.{marked, hidden_names, argument_of, ParamAt, stands_bound}
use Rattle.macro_expand.specs.Slots.{lists, in_front}
use Rattle.macro_expand.specs.Taking.{weight, call_of, skip}
use Rattle.macro_expand.specs.Machine.{finishing, argument_in, returned, outer, resume, meaning, replacing, call_weight, frames_size, size, replacing_size, GoesOn, IsStep, IsFaultOf, with_put, IsPut, TextGoesOn, IsTextStep, plain_of, lists_after, waiting_in, wanted_in}
use Rattle.macro_expand.proofs.Sizes.{IsSized, head_sized}
use Rattle.macro_expand.proofs.Steps.{expansion_step}
use Rattle.macro_expand.proofs.TrimLemmas.{trimmed}
use Rattle.macro_expand.proofs.OneAnswer.{within_true, within_false}
use Rattle.macro_expand.proofs.SlotLemmas.{front_first, front_others}
use Rattle.macro_expand.proofs.TextAnswers.{tokens_same}

pub fault_as : {A B : Type 0} (fault : ExpandFault) (r : Result A ExpandFault) (s : Result B ExpandFault) → (r ≡ Err fault → s ≡ Err fault) → IsFaultOf fault r → IsFaultOf fault s
fault_as fault r s h (inl m) = inl m
fault_as fault r s h (inr e) = inr (h e)

pub after_after : (xs ys : List Marked) (a : Answer) → after xs (after ys a) ≡ after (xs ++ ys) a
after_after xs ys (Ok r) = ap (λ l. Ok (l, r.1)) (sym (append_assoc xs ys r.0))
after_after xs ys (Err e) = refl

pub after_nothing : (a : Answer) → after [] a ≡ a
after_nothing (Ok r) = refl
after_nothing (Err e) = refl

-- a token that is put out without its hide set
put_one : (text : List Token) (k : Marked) (a : Answer) → with_put (text ++ k.token ∷ []) (after [] a) ≡ with_put text (after (k ∷ []) a)
put_one text k (Ok r) = ap Ok (append_assoc text (k.token ∷ []) (map (λ (m : Marked). m.token) r.0))
put_one text k (Err e) = refl

-- where nothing is put out yet
pub put_none : (a : Answer) → with_put [] (after [] a) ≡ tokens_of a
put_none (Ok r) = refl
put_none (Err e) = refl

-- a fault of the rest is one of the whole text
pub fault_put : (fault : ExpandFault) (text : List Token) (a : Answer) (r : Result (List Token) ExpandFault) → with_put text a ≡ r → IsFaultOf fault a → IsFaultOf fault r
fault_put fault text a r s (inl m) = inl m
fault_put fault text a r s (inr e) = inr (sym s ∙ ap (with_put text) e)

outer_push : (fs : List Frame) (f : Frame) (ls : List (List Marked)) → outer (fs ++ f ∷ []) ls ≡ outer fs (skip f.call ls)
outer_push [] f ls = refl
outer_push (g ∷ fs) f ls = ap (skip g.call) (outer_push fs f ls)

frames_size_push : (fs : List Frame) (f : Frame) (ls : List (List Marked)) → frames_size (fs ++ f ∷ []) ls ≡ frames_size fs (skip f.call ls) + suc (call_weight f.call ls)
frames_size_push [] f ls = omega arith
frames_size_push (g ∷ fs) f ls = omega (arith, frames_size_push fs f ls, ap (call_weight g.call) (outer_push fs f ls))

module _ (macros : Macros) (here : Here) where
  text_on : (answer : Answer) (bound : ℕ) (text : List Token) (n : Machine) → GoesOn macros here answer bound n → TextGoesOn macros here (with_put text answer) bound text n
  text_on answer bound text n g = record { same = ap (with_put text) g.same; less = g.less; work = g.work }

  -- a step that puts nothing out into the text
  pub text_step : (answer : Answer) (bound : ℕ) (text : List Token) (n : Machine) (more : Bool) → IsStep macros here answer bound n more → IsTextStep macros here (with_put text answer) bound text n more
  text_step answer bound text n true g = text_on answer bound text n g
  text_step answer bound text n false e = ap (with_put text) e ∙ ap (λ l. Ok (text ++ l)) (tokens_same n.out.items)

  resume_push : (fs : List Frame) (f : Frame) (ls : List (List Marked)) (a : Answer) → resume macros here (fs ++ f ∷ []) ls a ≡ resume macros here fs (skip f.call ls) (returned macros here f ls a)
  resume_push [] f ls a = refl
  resume_push (g ∷ fs) f ls a = ap (λ o. returned macros here g o (resume macros here (fs ++ f ∷ []) ls a)) (outer_push fs f ls) ∙ ap (returned macros here g (outer fs (skip f.call ls))) (resume_push fs f ls a)

  pub resume_err : (fs : List Frame) (ls : List (List Marked)) (e : ExpandFault) → resume macros here fs ls (Err e) ≡ Err e
  resume_err [] ls e = refl
  resume_err (g ∷ fs) ls e = ap (returned macros here g (outer fs ls)) (resume_err fs ls e)

  module _ (m : Machine) (old : List (List Marked)) (is_old : lists m.slots ≡ old) where
    by_head : (h : Head) → head_of macros here (first_list old) ≡ h → meaning macros here m ≡ resume macros here m.frames.items (other_lists old) (after (map marked m.out.items) (step_from (expansion macros here) h m.work))
    by_head h e =
        ap (λ ls. resume macros here m.frames.items (other_lists ls) (after (map marked m.out.items) (expansion macros here (first_list ls) m.work))) is_old
        ∙ ap (λ a. resume macros here m.frames.items (other_lists old) (after (map marked m.out.items) a)) (expansion_step macros here (first_list old) m.work ∙ ap (λ h. step_from (expansion macros here) h m.work) e)

    sized_by : (h : Head) → head_of macros here (first_list old) ≡ h → IsSized (length (first_list old)) h
    sized_by h e = subst (λ h. IsSized (length (first_list old)) h) e (head_sized macros here (first_list old))

    size_is : size m ≡ length (first_list old) + frames_size m.frames.items (other_lists old) + (limit - m.work)
    size_is = ap (λ ls. length (first_list ls) + frames_size m.frames.items (other_lists ls) + (limit - m.work)) is_old

    pub on_fault : (fault : ExpandFault) → head_of macros here (first_list old) ≡ Fails fault → meaning macros here m ≡ Err fault
    on_fault fault e = by_head (Fails fault) e ∙ resume_err m.frames.items (other_lists old) fault

    pub on_end : m.frames.items ≡ [] → head_of macros here (first_list old) ≡ Finished → meaning macros here m ≡ Ok (map marked m.out.items, m.work)
    on_end f e = by_head Finished e ∙ ap (λ fs. resume macros here fs (other_lists old) (Ok (map marked m.out.items ++ [], m.work))) f ∙ ap (λ l. Ok (l, m.work)) (append-nil (map marked m.out.items))

    module _ (n : Machine) (new : List (List Marked)) (is_new : lists n.slots ≡ new) (w : n.work ≡ m.work) where
      stays_less : (k : Marked) → head_of macros here (first_list old) ≡ Stays k (first_list new) → other_lists new ≡ other_lists old → n.frames.items ≡ m.frames.items → size n < size m
      stays_less k e o f =
          let s : length (first_list new) < length (first_list old) = sized_by (Stays k (first_list new)) e in
          let size_n : size n ≡ length (first_list new) + frames_size m.frames.items (other_lists old) + (limit - m.work) =
          ap (λ ls. length (first_list ls) + frames_size n.frames.items (other_lists ls) + (limit - n.work)) is_new
          ∙ ap (λ x. length (first_list new) + frames_size n.frames.items x + (limit - n.work)) o ∙ ap (λ x. length (first_list new) + frames_size x (other_lists old) + (limit - n.work)) f
          ∙ ap (λ x. length (first_list new) + frames_size m.frames.items (other_lists old) + (limit - x)) w in
          omega (arith, s, size_n, size_is)

      on_stays : (k : HiddenToken) → head_of macros here (first_list old) ≡ Stays (marked k) (first_list new) → other_lists new ≡ other_lists old → n.out.items ≡ m.out.items ++ k ∷ [] → n.frames.items ≡ m.frames.items → m.work ≤ limit → GoesOn macros here (meaning macros here m) (size m) n
      on_stays k e o p f l =
          let there : meaning macros here n ≡ resume macros here m.frames.items (other_lists old) (after (map marked m.out.items ++ marked k ∷ []) (expansion macros here (first_list new) m.work)) =
          ap (λ ls. resume macros here n.frames.items (other_lists ls) (after (map marked n.out.items) (expansion macros here (first_list ls) n.work))) is_new
          ∙ ap (λ x. resume macros here n.frames.items x (after (map marked n.out.items) (expansion macros here (first_list new) n.work))) o
          ∙ ap (λ x. resume macros here x (other_lists old) (after (map marked n.out.items) (expansion macros here (first_list new) n.work))) f
          ∙ ap (λ x. resume macros here m.frames.items (other_lists old) (after x (expansion macros here (first_list new) n.work))) (ap (map marked) p ∙ map_push marked m.out.items k)
          ∙ ap (λ x. resume macros here m.frames.items (other_lists old) (after (map marked m.out.items ++ marked k ∷ []) (expansion macros here (first_list new) x))) w in
          let here_is = by_head (Stays (marked k) (first_list new)) e ∙ ap (resume macros here m.frames.items (other_lists old)) (after_after (map marked m.out.items) (marked k ∷ []) (expansion macros here (first_list new) m.work)) in
          record { same = there ∙ sym here_is; less = stays_less (marked k) e o f; work = subst (λ x. x ≤ limit) (sym w) l }

      -- the same where it goes out into the text
      on_text : (text : List Token) (k : HiddenToken) → head_of macros here (first_list old) ≡ Stays (marked k) (first_list new) → other_lists new ≡ other_lists old → n.out.items ≡ m.out.items → n.frames.items ≡ m.frames.items → m.out.items ≡ [] → m.frames.items ≡ [] → m.work ≤ limit
          → TextGoesOn macros here (with_put text (meaning macros here m)) (size m) (text ++ k.token ∷ []) n
      on_text text k e o p f q g l =
          let there : meaning macros here n ≡ after [] (expansion macros here (first_list new) m.work) =
          ap (λ ls. resume macros here n.frames.items (other_lists ls) (after (map marked n.out.items) (expansion macros here (first_list ls) n.work))) is_new
          ∙ ap (λ x. resume macros here x (other_lists new) (after (map marked n.out.items) (expansion macros here (first_list new) n.work))) (f ∙ g)
          ∙ ap (λ x. after (map marked x) (expansion macros here (first_list new) n.work)) (p ∙ q)
          ∙ ap (λ x. after [] (expansion macros here (first_list new) x)) w in
          let here_is : meaning macros here m ≡ after (marked k ∷ []) (expansion macros here (first_list new) m.work) =
          by_head (Stays (marked k) (first_list new)) e
          ∙ ap (λ x. resume macros here x (other_lists old) (after (map marked m.out.items) (after (marked k ∷ []) (expansion macros here (first_list new) m.work)))) g
          ∙ ap (λ x. after (map marked x) (after (marked k ∷ []) (expansion macros here (first_list new) m.work))) q
          ∙ after_nothing (after (marked k ∷ []) (expansion macros here (first_list new) m.work)) in
          record { same = ap (with_put (text ++ k.token ∷ [])) there ∙ put_one text (marked k) (expansion macros here (first_list new) m.work) ∙ ap (with_put text) (sym here_is); less = stays_less (marked k) e o f; work = subst (λ x. x ≤ limit) (sym w) l }

      pub on_replaced : (r : MacroCall) → head_of macros here (first_list old) ≡ Replaced (call_of r new) → skip r new ≡ other_lists old → n.out.items ≡ m.out.items → n.frames.items ≡ m.frames.items → (replacing macros here n r [] ≡ meaning macros here m) × (replacing_size n r < size m)
      on_replaced r e o p f =
          let s : weight (call_of r new).args + length (call_of r new).rest < length (first_list old) = sized_by (Replaced (call_of r new)) e in
          let there : replacing macros here n r [] ≡ resume macros here m.frames.items (other_lists old) (after (map marked m.out.items) (finishing macros here (call_of r new) [] m.work)) =
          ap (λ ls. resume macros here n.frames.items (skip r ls) (after (map marked n.out.items) (finishing macros here (call_of r ls) [] n.work))) is_new
          ∙ ap (λ x. resume macros here n.frames.items x (after (map marked n.out.items) (finishing macros here (call_of r new) [] n.work))) o
          ∙ ap (λ x. resume macros here x (other_lists old) (after (map marked n.out.items) (finishing macros here (call_of r new) [] n.work))) f
          ∙ ap (λ x. resume macros here m.frames.items (other_lists old) (after (map marked x) (finishing macros here (call_of r new) [] n.work))) p
          ∙ ap (λ x. resume macros here m.frames.items (other_lists old) (after (map marked m.out.items) (finishing macros here (call_of r new) [] x))) w in
          let size_n : replacing_size n r ≡ call_weight r new + frames_size m.frames.items (other_lists old) + (limit - m.work) =
          ap (λ ls. call_weight r ls + frames_size n.frames.items (skip r ls) + (limit - n.work)) is_new
          ∙ ap (λ x. call_weight r new + frames_size n.frames.items x + (limit - n.work)) o ∙ ap (λ x. call_weight r new + frames_size x (other_lists old) + (limit - n.work)) f
          ∙ ap (λ x. call_weight r new + frames_size m.frames.items (other_lists old) + (limit - x)) w in
          (there ∙ sym (by_head (Replaced (call_of r new)) e), omega (arith, s, size_n, size_is))

      pub on_return : (fs : List Frame) (f : Frame) (g : HeldArgument) (done : List HeldArgument) →
          head_of macros here (first_list old) ≡ Finished → new ≡ other_lists old → m.frames.items ≡ fs ++ f ∷ [] →
          argument_of g ≡ argument_in f (map marked m.out.items) → done ≡ f.done.items ++ g ∷ [] → n.out ≡ f.out → n.frames.items ≡ fs →
          (replacing macros here n f.call done ≡ meaning macros here m) × (replacing_size n f.call < size m)
      on_return fs f g done e o k a d p q =
          let done_is : map argument_of done ≡ map argument_of f.done.items ++ argument_in f (map marked m.out.items) ∷ [] = ap (map argument_of) d ∙ map_push argument_of f.done.items g ∙ ap (λ x. map argument_of f.done.items ++ x ∷ []) a in
          let there : replacing macros here n f.call done ≡ resume macros here fs (skip f.call (other_lists old)) (after (map marked f.out.items) (finishing macros here (call_of f.call (other_lists old)) (map argument_of f.done.items ++ argument_in f (map marked m.out.items) ∷ []) m.work)) =
          ap (λ ls. resume macros here n.frames.items (skip f.call ls) (after (map marked n.out.items) (finishing macros here (call_of f.call ls) (map argument_of done) n.work))) (is_new ∙ o)
          ∙ ap (λ x. resume macros here x (skip f.call (other_lists old)) (after (map marked n.out.items) (finishing macros here (call_of f.call (other_lists old)) (map argument_of done) n.work))) q
          ∙ ap (λ x. resume macros here fs (skip f.call (other_lists old)) (after (map marked x.items) (finishing macros here (call_of f.call (other_lists old)) (map argument_of done) n.work))) p
          ∙ ap (λ x. resume macros here fs (skip f.call (other_lists old)) (after (map marked f.out.items) (finishing macros here (call_of f.call (other_lists old)) x n.work))) done_is
          ∙ ap (λ x. resume macros here fs (skip f.call (other_lists old)) (after (map marked f.out.items) (finishing macros here (call_of f.call (other_lists old)) (map argument_of f.done.items ++ argument_in f (map marked m.out.items) ∷ []) x))) w in
          let here_is : meaning macros here m ≡ resume macros here fs (skip f.call (other_lists old)) (returned macros here f (other_lists old) (Ok (map marked m.out.items, m.work))) =
          by_head Finished e ∙ ap (λ l. resume macros here m.frames.items (other_lists old) (Ok (l, m.work))) (append-nil (map marked m.out.items)) ∙ ap (λ x. resume macros here x (other_lists old) (Ok (map marked m.out.items, m.work))) k
          ∙ resume_push fs f (other_lists old) (Ok (map marked m.out.items, m.work)) in
          let size_n : replacing_size n f.call ≡ call_weight f.call (other_lists old) + frames_size fs (skip f.call (other_lists old)) + (limit - m.work) =
          ap (λ ls. call_weight f.call ls + frames_size n.frames.items (skip f.call ls) + (limit - n.work)) (is_new ∙ o)
          ∙ ap (λ x. call_weight f.call (other_lists old) + frames_size x (skip f.call (other_lists old)) + (limit - n.work)) q ∙ ap (λ x. call_weight f.call (other_lists old) + frames_size fs (skip f.call (other_lists old)) + (limit - x)) w in
          let size_m : size m ≡ length (first_list old) + (frames_size fs (skip f.call (other_lists old)) + suc (call_weight f.call (other_lists old))) + (limit - m.work) =
          size_is ∙ ap (λ x. length (first_list old) + frames_size x (other_lists old) + (limit - m.work)) k ∙ ap (λ x. length (first_list old) + x + (limit - m.work)) (frames_size_push fs f (other_lists old)) in
          (there ∙ sym here_is, omega (arith, size_n, size_m))

    -- a token that stays goes out
    pub on_put : (b n : Machine) (new : List (List Marked)) → lists b.slots ≡ new → b.work ≡ m.work → b.out ≡ m.out → b.frames ≡ m.frames → (text more : List Token) (k : HiddenToken) →
        head_of macros here (first_list old) ≡ Stays (marked k) (first_list new) → other_lists new ≡ other_lists old → m.work ≤ limit → IsPut b text k n more →
        TextGoesOn macros here (with_put text (meaning macros here m)) (size m) more n
    on_put b n new s w p f text more k e o l (inl g) =
        subst (λ t. TextGoesOn macros here (with_put text (meaning macros here m)) (size m) t n) (sym g.put)
        (subst (λ x. TextGoesOn macros here (with_put text (meaning macros here m)) (size m) (text ++ k.token ∷ []) x) (sym g.same)
        (on_text b new s w text k e o (ap (λ v. v.items) p) (ap (λ v. v.items) f) (ap (λ v. v.items) (sym p) ∙ g.out) (ap (λ v. v.items) (sym f) ∙ g.frames) l))
    on_put b n new s w p f text more k e o l (inr g) =
        subst (λ t. TextGoesOn macros here (with_put text (meaning macros here m)) (size m) t n) (sym g.same)
        (text_on (meaning macros here m) (size m) text n
        (on_stays n new (ap lists g.slots ∙ s) (g.work ∙ w) k e o (g.put ∙ ap (λ v. v.items ++ k ∷ []) p) (ap (λ v. v.items) (g.frames ∙ f)) l))

  -- Arguments.

  abbrev pub given_of : Waiting → List Marked → Argument
  given_of w list = record { name = w.name; plain = w.plain; expanded = list }

  abbrev with_args : Call → List Waiting → Call
  with_args c args = record c { args = args }

  abbrev end : Call → List Argument → Result (List Argument × ℕ) ExpandFault → Answer
  end c done r = r >>= (λ args. substituted c.def c.name c.space c.hides (done ++ args.0) >>= (λ list. within (args.1 + length list) (expansion macros here (list ++ c.rest))))

  one_more : (c : Call) (done : List Argument) (a : Argument) (r : Result (List Argument × ℕ) ExpandFault) → end c done (r >>= (λ others. Ok (a ∷ others.0, others.1))) ≡ end c (done ++ a ∷ []) r
  one_more c done a (Ok x) = ap (λ l. substituted c.def c.name c.space c.hides l >>= (λ list. within (x.1 + length list) (expansion macros here (list ++ c.rest)))) (sym (append_assoc done (a ∷ []) x.0))
  one_more c done a (Err e) = refl

  next_argument : (c : Call) (done : List Argument) (w : Waiting) (more : List Waiting) (r : Answer) →
      end c done (r >>= (λ e. each (expansion macros here) more e.1 >>= (λ others. Ok (given_of w e.0 ∷ others.0, others.1)))) ≡ (r >>= (λ e. end c (done ++ given_of w e.0 ∷ []) (each (expansion macros here) more e.1)))
  next_argument c done w more (Ok x) = one_more c done (given_of w x.0) (each (expansion macros here) more x.1)
  next_argument c done w more (Err e) = refl

  -- an argument of which nothing is expanded
  pub finish_plain : (c : Call) (done : List Argument) (w : Waiting) (more : List Waiting) (work : ℕ) → (if w.wanted then expansion macros here w.plain work else Ok ([], work)) ≡ Ok ([], work) →
      finishing macros here (with_args c (w ∷ more)) done work ≡ finishing macros here (with_args c more) (done ++ given_of w [] ∷ []) work
  finish_plain c done w more work u =
      ap (λ r. end c done (r >>= (λ e. each (expansion macros here) more e.1 >>= (λ others. Ok (given_of w e.0 ∷ others.0, others.1))))) u
      ∙ one_more c done (given_of w []) (each (expansion macros here) more work)

  -- an argument that is expanded
  pub finish_wanted : (c : Call) (done : List Argument) (w : Waiting) (more : List Waiting) (work : ℕ) → w.wanted ≡ true →
      finishing macros here (with_args c (w ∷ more)) done work ≡ (expansion macros here w.plain work >>= (λ e. finishing macros here (with_args c more) (done ++ given_of w e.0 ∷ []) e.1))
  finish_wanted c done w more work u =
      ap (λ b. end c done ((if b then expansion macros here w.plain work else Ok ([], work)) >>= (λ e. each (expansion macros here) more e.1 >>= (λ others. Ok (given_of w e.0 ∷ others.0, others.1))))) u
      ∙ next_argument c done w more (expansion macros here w.plain work)

  -- an argument whose parameter is beside no operator may have any tokens as written
  finish_trimmed : (c : Call) (done : List Argument) (name : List ℕ) (p q x : List Marked) (work : ℕ) → stands_bound name false c.def.body ≡ false →
      finishing macros here c (done ++ record { name = name; plain = p; expanded = x } ∷ []) work ≡ finishing macros here c (done ++ record { name = name; plain = q; expanded = x } ∷ []) work
  finish_trimmed c done name p q x work h =
      let same : (more : List Argument) → substituted c.def c.name c.space c.hides ((done ++ record { name = name; plain = p; expanded = x } ∷ []) ++ more) ≡ substituted c.def c.name c.space c.hides ((done ++ record { name = name; plain = q; expanded = x } ∷ []) ++ more) = λ more.
      ap (substituted c.def c.name c.space c.hides) (append_assoc done (record { name = name; plain = p; expanded = x } ∷ []) more)
      ∙ trimmed c.def c.name c.space c.hides done more name p q x h
      ∙ sym (ap (substituted c.def c.name c.space c.hides) (append_assoc done (record { name = name; plain = q; expanded = x } ∷ []) more)) in
      λ i. each (expansion macros here) c.args work >>= (λ args. same args.0 i >>= (λ list. within (args.1 + length list) (expansion macros here (list ++ c.rest))))

  -- The list of a name whose arguments are all there.

  list_of : (m : Machine) (r : MacroCall) (done : List HeldArgument) → drop r.next (params_of r.def.value) ≡ [] →
      replacing macros here m r done ≡ resume macros here m.frames.items (skip r (lists m.slots)) (after (map marked m.out.items)
      (substituted r.def.value r.name r.space (hidden_names r.hides) (map argument_of done) >>= (λ list. within (m.work + length list) (expansion macros here (list ++ first_list (drop r.count (lists m.slots)))))))
  list_of m r done w =
      let ls : List (List Marked) = lists m.slots in
      ap (λ ps. resume macros here m.frames.items (skip r ls) (after (map marked m.out.items) (finishing macros here (with_args (call_of r ls) (waiting r.def.value ps (take r.count ls))) (map argument_of done) m.work))) w
      ∙ ap (λ l. resume macros here m.frames.items (skip r ls) (after (map marked m.out.items) (substituted r.def.value r.name r.space (hidden_names r.hides) l >>= (λ list. within (m.work + length list) (expansion macros here (list ++ first_list (drop r.count ls))))))) (append-nil (map argument_of done))

  pub on_list_fault : (m : Machine) (r : MacroCall) (done : List HeldArgument) (fault : ExpandFault) → drop r.next (params_of r.def.value) ≡ [] →
      IsFaultOf fault (substituted r.def.value r.name r.space (hidden_names r.hides) (map argument_of done)) → IsFaultOf fault (replacing macros here m r done)
  on_list_fault m r done fault w = fault_as fault (substituted r.def.value r.name r.space (hidden_names r.hides) (map argument_of done)) (replacing macros here m r done)
      (λ s. list_of m r done w
      ∙ ap (λ x. resume macros here m.frames.items (skip r (lists m.slots)) (after (map marked m.out.items) (x >>= (λ list. within (m.work + length list) (expansion macros here (list ++ first_list (drop r.count (lists m.slots)))))))) s
      ∙ resume_err m.frames.items (skip r (lists m.slots)) fault)

  module _ (m : Machine) (r : MacroCall) (done : List HeldArgument) (list : List HiddenToken) (w : drop r.next (params_of r.def.value) ≡ [])
      (s : substituted r.def.value r.name r.space (hidden_names r.hides) (map argument_of done) ≡ Ok (map marked list)) where
    put : replacing macros here m r done ≡ resume macros here m.frames.items (skip r (lists m.slots)) (after (map marked m.out.items)
        (within (m.work + length list) (expansion macros here (map marked list ++ first_list (drop r.count (lists m.slots))))))
    put = list_of m r done w
        ∙ ap (λ x. resume macros here m.frames.items (skip r (lists m.slots)) (after (map marked m.out.items) (x >>= (λ list. within (m.work + length list) (expansion macros here (list ++ first_list (drop r.count (lists m.slots)))))))) s
        ∙ ap (λ k. resume macros here m.frames.items (skip r (lists m.slots)) (after (map marked m.out.items) (within (m.work + k) (expansion macros here (map marked list ++ first_list (drop r.count (lists m.slots))))))) (length-map list marked)

    pub on_too_long : limit < m.work + length list → replacing macros here m r done ≡ Err TooLong
    on_too_long l = put ∙ ap (λ a. resume macros here m.frames.items (skip r (lists m.slots)) (after (map marked m.out.items) a)) (within_false (m.work + length list) (expansion macros here (map marked list ++ first_list (drop r.count (lists m.slots)))) l)
        ∙ resume_err m.frames.items (skip r (lists m.slots)) TooLong

    pub on_list : (n : Machine) → n.work ≡ m.work + length list → n.work ≤ limit → n.out ≡ m.out → n.frames ≡ m.frames → lists n.slots ≡ in_front (map marked list) (drop r.count (lists m.slots)) →
        GoesOn macros here (replacing macros here m r done) (suc (replacing_size m r)) n
    on_list n k l o f i =
        let ls : List (List Marked) = lists m.slots in
        let left : List (List Marked) = drop r.count ls in
        let whole : List Marked = map marked list ++ first_list left in
        let first : first_list (lists n.slots) ≡ whole = ap first_list i ∙ front_first (map marked list) left in
        let others : other_lists (lists n.slots) ≡ skip r ls = ap other_lists i ∙ front_others (map marked list) left in
        let fits : m.work + length list ≤ limit = omega arith in
        let there : meaning macros here n ≡ resume macros here m.frames.items (skip r ls) (after (map marked m.out.items) (expansion macros here whole (m.work + length list))) =
        ap (λ x. resume macros here n.frames.items (other_lists (lists n.slots)) (after (map marked n.out.items) (expansion macros here x n.work))) first
        ∙ ap (λ x. resume macros here n.frames.items x (after (map marked n.out.items) (expansion macros here whole n.work))) others
        ∙ ap (λ x. resume macros here x.items (skip r ls) (after (map marked n.out.items) (expansion macros here whole n.work))) f
        ∙ ap (λ x. resume macros here m.frames.items (skip r ls) (after (map marked x.items) (expansion macros here whole n.work))) o
        ∙ ap (λ x. resume macros here m.frames.items (skip r ls) (after (map marked m.out.items) (expansion macros here whole x))) k in
        let put_is : replacing macros here m r done ≡ resume macros here m.frames.items (skip r ls) (after (map marked m.out.items) (expansion macros here whole (m.work + length list))) =
        put ∙ ap (λ a. resume macros here m.frames.items (skip r ls) (after (map marked m.out.items) a)) (within_true (m.work + length list) (expansion macros here whole) fits) in
        let size_n : size n ≡ length (first_list (lists n.slots)) + frames_size m.frames.items (skip r ls) + (limit - n.work) =
        ap (λ x. length (first_list (lists n.slots)) + frames_size n.frames.items x + (limit - n.work)) others ∙ ap (λ x. length (first_list (lists n.slots)) + frames_size x.items (skip r ls) + (limit - n.work)) f in
        let long : length (first_list (lists n.slots)) ≡ length list + length (first_list left) = ap length first ∙ length-append (map marked list) (first_list left) ∙ ap (λ k. k + length (first_list left)) (length-map list marked) in
        record { same = there ∙ sym put_is; less = omega (arith, size_n, long, k, l); work = l }

-- What an argument of a call is among the lists.

take_nil : {A : Type 0} (k : ℕ) → take {A = A} k [] ≡ []
take_nil zero = refl
take_nil (suc k) = refl

drop_nil : {A : Type 0} (k : ℕ) → drop {A = A} k [] ≡ []
drop_nil zero = refl
drop_nil (suc k) = refl

pub take_first : (c : ℕ) (ls : List (List Marked)) → first_list (take c ls) ≡ plain_of c ls
take_first zero ls = refl
take_first (suc k) [] = refl
take_first (suc k) (a ∷ more) = refl

pub take_others : (c : ℕ) (ls : List (List Marked)) → other_lists (take c ls) ≡ take (c - 1) (lists_after c ls)
take_others zero ls = refl
take_others (suc k) [] = sym (let e : suc k - 1 ≡ k = omega arith in ap (λ n. take n []) e ∙ take_nil k)
take_others (suc k) (a ∷ more) = let e : k ≡ suc k - 1 = omega arith in ap (λ n. take n more) e

pub drop_after : (c : ℕ) (ls : List (List Marked)) → drop c ls ≡ drop (c - 1) (lists_after c ls)
drop_after zero ls = refl
drop_after (suc k) [] = sym (let e : suc k - 1 ≡ k = omega arith in ap (λ n. drop n []) e ∙ drop_nil k)
drop_after (suc k) (a ∷ more) = let e : k ≡ suc k - 1 = omega arith in ap (λ n. drop n more) e

module _ (macros : Macros) (here : Here) (r q : MacroCall) (name : List ℕ) (ls : List (List Marked))
    (d : q.def ≡ r.def) (nm : q.name ≡ r.name) (sp : q.space ≡ r.space) (hd : q.hides ≡ r.hides) (cn : q.count ≡ r.count - 1)
    (ps : drop r.next (params_of r.def.value) ≡ name ∷ drop q.next (params_of r.def.value)) where
  -- the call, and the call after its next argument
  pub call_front : call_of r ls ≡ record (call_of q (lists_after r.count ls)) { args = waiting_in r name ls ∷ (call_of q (lists_after r.count ls)).args }
  call_front =
      ap (λ l. record (call_of r ls) { args = waiting r.def.value l (take r.count ls) }) ps
      ∙ ap (λ l. record (call_of r ls) { args = record { name = name; wanted = stands_free name false r.def.value.body; plain = l } ∷ waiting r.def.value (drop q.next (params_of r.def.value)) (other_lists (take r.count ls)) }) (take_first r.count ls)
      ∙ ap (λ l. record (call_of r ls) { args = waiting_in r name ls ∷ waiting r.def.value (drop q.next (params_of r.def.value)) l }) (take_others r.count ls)
      ∙ ap (λ l. record (call_of r ls) { args = waiting_in r name ls ∷ waiting r.def.value (drop q.next (params_of r.def.value)) (take (r.count - 1) (lists_after r.count ls)); rest = first_list l }) (drop_after r.count ls)
      ∙ rw (d, nm, sp, hd, cn) refl

  pub skip_front : skip r ls ≡ skip q (lists_after r.count ls)
  skip_front = ap other_lists (drop_after r.count ls) ∙ ap (λ k. other_lists (drop k (lists_after r.count ls))) (sym cn)

  pub weight_front : call_weight r ls ≡ suc (length (plain_of r.count ls)) + call_weight q (lists_after r.count ls)
  weight_front = ap (λ c. weight c.args + length c.rest) call_front ∙ (omega arith)

  -- the same call, where these are the arguments before it
  replacing_front : (m : Machine) (done : List HeldArgument) → lists m.slots ≡ ls →
      replacing macros here m r done ≡ resume macros here m.frames.items (skip q (lists_after r.count ls)) (after (map marked m.out.items)
      (finishing macros here (record (call_of q (lists_after r.count ls)) { args = waiting_in r name ls ∷ (call_of q (lists_after r.count ls)).args }) (map argument_of done) m.work))
  replacing_front m done l =
      ap (λ x. resume macros here m.frames.items (skip r x) (after (map marked m.out.items) (finishing macros here (call_of r x) (map argument_of done) m.work))) l
      ∙ ap (λ x. resume macros here m.frames.items x (after (map marked m.out.items) (finishing macros here (call_of r ls) (map argument_of done) m.work))) skip_front
      ∙ ap (λ x. resume macros here m.frames.items (skip q (lists_after r.count ls)) (after (map marked m.out.items) (finishing macros here x (map argument_of done) m.work))) call_front

  size_front : (m : Machine) → lists m.slots ≡ ls → replacing_size m r ≡ suc (length (plain_of r.count ls)) + call_weight q (lists_after r.count ls) + frames_size m.frames.items (skip q (lists_after r.count ls)) + (limit - m.work)
  size_front m l =
      ap (λ x. call_weight r x + frames_size m.frames.items (skip r x) + (limit - m.work)) l
      ∙ ap (λ x. call_weight r ls + frames_size m.frames.items x + (limit - m.work)) skip_front ∙ ap (λ x. x + frames_size m.frames.items (skip q (lists_after r.count ls)) + (limit - m.work)) weight_front

  -- nothing of an argument that is not wanted is expanded
  not_expanded : (count : ℕ) (b : Bool) (work : ℕ) → wanted_in count b ≡ false → (if b then expansion macros here (plain_of count ls) work else Ok ([], work)) ≡ Ok ([], work)
  not_expanded zero true work e = expansion_step macros here [] work
  not_expanded zero false work e = refl
  not_expanded (suc k) true work e = cc
  not_expanded (suc k) false work e = refl

  pub on_plain : (m n : Machine) (g : HeldArgument) (done more : List HeldArgument) → lists m.slots ≡ ls → wanted_in r.count (stands_free name false r.def.value.body) ≡ false →
      lists n.slots ≡ lists_after r.count ls → n.out ≡ m.out → n.work ≡ m.work → n.frames ≡ m.frames → argument_of g ≡ given_of macros here (waiting_in r name ls) [] → more ≡ done ++ g ∷ [] →
      (replacing macros here n q more ≡ replacing macros here m r done) × (replacing_size n q < replacing_size m r)
  on_plain m n g done more l u i o k f a e =
      let after_ls : List (List Marked) = lists_after r.count ls in
      let args : map argument_of more ≡ map argument_of done ++ given_of macros here (waiting_in r name ls) [] ∷ [] = ap (map argument_of) e ∙ map_push argument_of done g ∙ ap (λ x. map argument_of done ++ x ∷ []) a in
      let there : replacing macros here n q more ≡ resume macros here m.frames.items (skip q after_ls) (after (map marked m.out.items) (finishing macros here (call_of q after_ls) (map argument_of done ++ given_of macros here (waiting_in r name ls) [] ∷ []) m.work)) =
      ap (λ x. resume macros here n.frames.items (skip q x) (after (map marked n.out.items) (finishing macros here (call_of q x) (map argument_of more) n.work))) i
      ∙ ap (λ x. resume macros here x.items (skip q after_ls) (after (map marked n.out.items) (finishing macros here (call_of q after_ls) (map argument_of more) n.work))) f
      ∙ ap (λ x. resume macros here m.frames.items (skip q after_ls) (after (map marked x.items) (finishing macros here (call_of q after_ls) (map argument_of more) n.work))) o
      ∙ ap (λ x. resume macros here m.frames.items (skip q after_ls) (after (map marked m.out.items) (finishing macros here (call_of q after_ls) x n.work))) args
      ∙ ap (λ x. resume macros here m.frames.items (skip q after_ls) (after (map marked m.out.items) (finishing macros here (call_of q after_ls) (map argument_of done ++ given_of macros here (waiting_in r name ls) [] ∷ []) x))) k in
      let plain = finish_plain macros here (call_of q after_ls) (map argument_of done) (waiting_in r name ls) (call_of q after_ls).args m.work (not_expanded r.count (stands_free name false r.def.value.body) m.work u) in
      let size_n : replacing_size n q ≡ call_weight q after_ls + frames_size m.frames.items (skip q after_ls) + (limit - m.work) =
      ap (λ x. call_weight q x + frames_size n.frames.items (skip q x) + (limit - n.work)) i ∙ ap (λ x. call_weight q after_ls + frames_size x.items (skip q after_ls) + (limit - n.work)) f ∙ ap (λ x. call_weight q after_ls + frames_size m.frames.items (skip q after_ls) + (limit - x)) k in
      (there ∙ ap (λ x. resume macros here m.frames.items (skip q after_ls) (after (map marked m.out.items) x)) (sym plain) ∙ sym (replacing_front m done l), omega (arith, size_n, size_front m l))

  returned_is : (f : Frame) (xs : List (List Marked)) (a : Answer) → returned macros here f xs a ≡ after (map marked f.out.items) (a >>= (λ e. finishing macros here (call_of f.call xs) (map argument_of f.done.items ++ argument_in f e.0 ∷ []) e.1))
  returned_is f xs (Ok r) = refl
  returned_is f xs (Err e) = refl

  wanted_some : (count : ℕ) (b : Bool) → wanted_in count b ≡ true → (b ≡ true) × (plain_of count ls ≡ first_list ls) × (lists_after count ls ≡ other_lists ls)
  wanted_some zero b e = cc
  wanted_some (suc k) b e = (e, refl, refl)

  -- an argument that is kept as written only where it has to be
  finish_kept : (f : Frame) (done : List Argument) (kept : Bool) → kept ≡ stands_bound name false r.def.value.body → f.name ≡ name → map marked f.plain.items ≡ cond kept (first_list ls) [] → plain_of r.count ls ≡ first_list ls →
      (list : List Marked) (work : ℕ) → finishing macros here (call_of q (lists_after r.count ls)) (done ++ argument_in f list ∷ []) work ≡ finishing macros here (call_of q (lists_after r.count ls)) (done ++ given_of macros here (waiting_in r name ls) list ∷ []) work
  finish_kept f done true k fn fp pl list work =
      ap (λ a. finishing macros here (call_of q (lists_after r.count ls)) (done ++ a ∷ []) work)
      (ap (λ x. record { name = x; plain = map marked f.plain.items; expanded = list }) fn ∙ ap (λ x. record { name = name; plain = x; expanded = list }) (fp ∙ sym pl))
  finish_kept f done false k fn fp pl list work =
      ap (λ x. finishing macros here (call_of q (lists_after r.count ls)) (done ++ record { name = x; plain = map marked f.plain.items; expanded = list } ∷ []) work) fn
      ∙ finish_trimmed macros here (call_of q (lists_after r.count ls)) done name (map marked f.plain.items) (plain_of r.count ls) list work (ap (λ z. stands_bound name false z.value.body) d ∙ sym k)

  pub on_wanted : (m n : Machine) (f : Frame) (done : List HeldArgument) → lists m.slots ≡ ls → wanted_in r.count (stands_free name false r.def.value.body) ≡ true →
      n.slots ≡ m.slots → n.out.items ≡ [] → n.work ≡ m.work → n.frames.items ≡ m.frames.items ++ f ∷ [] → m.work ≤ limit →
      f.out ≡ m.out → f.call ≡ q → f.done.items ≡ done → f.name ≡ name → (kept : Bool) → kept ≡ stands_bound name false r.def.value.body → map marked f.plain.items ≡ cond kept (first_list ls) [] →
      GoesOn macros here (replacing macros here m r done) (suc (replacing_size m r)) n
  on_wanted m n f done l u s o k p limited fo fc fd fn kept kp fp =
      let want = wanted_some r.count (stands_free name false r.def.value.body) u in
      let after_ls : List (List Marked) = lists_after r.count ls in
      let c : Call = call_of q after_ls in
      let plain : List Marked = plain_of r.count ls in
      let a : Answer = expansion macros here plain m.work in
      let lists_n : lists n.slots ≡ ls = ap lists s ∙ l in
      let one : meaning macros here n ≡ resume macros here m.frames.items (skip f.call after_ls) (returned macros here f after_ls a) =
      ap (λ x. resume macros here n.frames.items (other_lists x) (after (map marked n.out.items) (expansion macros here (first_list x) n.work))) lists_n
      ∙ ap (λ x. resume macros here n.frames.items (other_lists ls) (after (map marked x) (expansion macros here (first_list ls) n.work))) o
      ∙ ap (λ x. resume macros here n.frames.items (other_lists ls) x) (after_nothing (expansion macros here (first_list ls) n.work))
      ∙ ap (λ x. resume macros here n.frames.items (other_lists ls) (expansion macros here (first_list ls) x)) k
      ∙ ap (λ x. resume macros here n.frames.items (other_lists ls) (expansion macros here x m.work)) (sym want.1)
      ∙ ap (λ x. resume macros here n.frames.items x a) (sym want.2)
      ∙ ap (λ x. resume macros here x after_ls a) p
      ∙ resume_push macros here m.frames.items f after_ls a in
      let two : returned macros here f after_ls a ≡ after (map marked m.out.items) (a >>= (λ e. finishing macros here c (map argument_of done ++ given_of macros here (waiting_in r name ls) e.0 ∷ []) e.1)) =
      returned_is f after_ls a
      ∙ ap (λ x. after (map marked x.items) (a >>= (λ e. finishing macros here (call_of f.call after_ls) (map argument_of f.done.items ++ argument_in f e.0 ∷ []) e.1))) fo
      ∙ ap (λ x. after (map marked m.out.items) (a >>= (λ e. finishing macros here (call_of x after_ls) (map argument_of f.done.items ++ argument_in f e.0 ∷ []) e.1))) fc
      ∙ ap (λ x. after (map marked m.out.items) (a >>= (λ e. finishing macros here c (map argument_of x ++ argument_in f e.0 ∷ []) e.1))) fd
      ∙ (λ i. after (map marked m.out.items) (a >>= (λ e. finish_kept f (map argument_of done) kept kp fn fp want.1 e.0 e.1 i))) in
      let three = finish_wanted macros here c (map argument_of done) (waiting_in r name ls) c.args m.work want.0 in
      let size_n : size n ≡ length (first_list ls) + (frames_size m.frames.items (skip q after_ls) + suc (call_weight q after_ls)) + (limit - m.work) =
      ap (λ x. length (first_list x) + frames_size n.frames.items (other_lists x) + (limit - n.work)) lists_n
      ∙ ap (λ x. length (first_list ls) + frames_size n.frames.items (other_lists ls) + (limit - x)) k
      ∙ ap (λ x. length (first_list ls) + frames_size n.frames.items x + (limit - m.work)) (sym want.2)
      ∙ ap (λ x. length (first_list ls) + frames_size x after_ls + (limit - m.work)) p
      ∙ ap (λ x. length (first_list ls) + x + (limit - m.work)) (frames_size_push m.frames.items f after_ls)
      ∙ ap (λ x. length (first_list ls) + (frames_size m.frames.items (skip x after_ls) + suc (call_weight x after_ls)) + (limit - m.work)) fc in
      record {
        same = one ∙ ap (λ x. resume macros here m.frames.items (skip x after_ls) (returned macros here f after_ls a)) fc ∙ ap (resume macros here m.frames.items (skip q after_ls)) (two ∙ ap (after (map marked m.out.items)) (sym three)) ∙ sym (replacing_front m done l);
        less = omega (arith, size_n, size_front m l, ap length want.1);
        work = subst (λ x. x ≤ limit) (sym k) limited;
      }

pub goes_on_from : (macros : Macros) (here : Here) (a b : Answer) (x y : ℕ) (n : Machine) → GoesOn macros here a x n → b ≡ a → x ≤ y → GoesOn macros here b y n
goes_on_from macros here a b x y n g e l = record { same = g.same ∙ sym e; less = omega (arith, g.less); work = g.work }

pub param_is : (o : Option (List ℕ)) (name : List ℕ) (left behind : List (List ℕ)) → o ≡ Some name → ParamAt o left behind → left ≡ name ∷ behind
param_is o name left behind e p = subst (λ o. ParamAt o left behind) e p

pub param_none : (o : Option (List ℕ)) (left behind : List (List ℕ)) → o ≡ None → ParamAt o left behind → left ≡ []
param_none o left behind e p = subst (λ o. ParamAt o left behind) e p

pub same_argument : (g : HeldArgument) (name : List ℕ) (plain : List Marked) → g.name ≡ name → map marked g.plain.items ≡ plain → g.expanded.items ≡ [] → argument_of g ≡ record { name = name; plain = plain; expanded = [] }
same_argument g name plain a b e = rw (a, b, e) refl

pub on_head_fault : (macros : Macros) (here : Here) (m : Machine) (fault : ExpandFault) → (fault ≡ NoMemory) ⊎ (head_of macros here (first_list (lists m.slots)) ≡ Fails fault) → IsFaultOf fault (meaning macros here m)
on_head_fault macros here m fault (inl e) = inl e
on_head_fault macros here m fault (inr e) = inr (on_fault macros here m (lists m.slots) refl fault e)

pub given_in : (f : Frame) (g : HeldArgument) (out : List HiddenToken) → g.name ≡ f.name → g.plain ≡ f.plain → g.expanded.items ≡ out → argument_of g ≡ argument_in f (map marked out)
given_in f g out a b e = rw (a, b, e) refl

pub at_start : (macros : Macros) (here : Here) (m : Machine) → m.out.items ≡ [] → m.frames.items ≡ [] → meaning macros here m ≡ expansion macros here (first_list (lists m.slots)) m.work
at_start macros here m o f =
    ap (λ x. resume macros here x (other_lists (lists m.slots)) (after (map marked m.out.items) (expansion macros here (first_list (lists m.slots)) m.work))) f
    ∙ ap (λ x. after (map marked x) (expansion macros here (first_list (lists m.slots)) m.work)) o ∙ after_nothing (expansion macros here (first_list (lists m.slots)) m.work)
