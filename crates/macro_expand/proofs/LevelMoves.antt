-- What each step of a single level keeps.
use Rattle.std.proofs.Common.{◌≡◌, ℕ, suc, ◌+◌, ◌<◌, ◌≤◌, List, [], ◌∷◌, ◌++◌, map, take, drop, length, Ok, Err, ◌⊎◌, inl, inr, refl, sym, ap, ◌∙◌, subst, arith, append-nil}
use Rattle.std.proofs.lemmas.List.{map_push, map-append, length-map}
use Rattle.macro_expand.specs.declared.here.Here.{Here}
use Rattle.macro_expand.specs.declared.fault.ExpandFault.{ExpandFault}
use Rattle.macro_expand.specs.declared.fault.ExpandFault.TheVariants.{NoMemory, TooLong}
use Rattle.macro_expand.specs.declared.hide_set.hidden_token.HiddenToken.{HiddenToken}
use Rattle.macro_expand.specs.declared.rescan.head.MacroCall.{MacroCall}
use Rattle.macro_expand.specs.declared.rescan.once.Level.{Level}
use Rattle.macro_table.specs.Definitions.{DefValue}
use Rattle.macro_expand.specs.Marked.{Marked}
use Rattle.macro_expand.specs.Macros.{Macros, params_of}
use Rattle.macro_expand.specs.Calls.{waiting, first_list}
use Rattle.macro_expand.specs.Substituted.{Argument}
use Rattle.macro_expand.specs.Heads.{Call, Head, Finished, Stays, Replaced, Fails, head_of}
use Rattle.macro_expand.specs.Expansion.{limit, after, as_written, once_from, single_level}
use Rattle.macro_expand.specs.States.{marked}
use Rattle.macro_expand.specs.Slots.{lists}
use Rattle.macro_expand.specs.Taking.{weight, call_of}
use Rattle.macro_expand.specs.Machine.{IsFaultOf}
use Rattle.macro_expand.specs.Levels.{put_by, level_meaning, level_replacing, level_size, LevelGoesOn}
use Rattle.macro_expand.proofs.Sizes.{IsSized, head_sized}
use Rattle.macro_expand.proofs.OneAnswer.{within_true, within_false}
use Rattle.macro_expand.proofs.OneLevel.{level_step}
use Rattle.macro_expand.proofs.Moves.{after_after}

-- what stands for the arguments that are left
abbrev pub written_rest : DefValue → ℕ → ℕ → List (List Marked) → List Argument
written_rest d next count ls = as_written (waiting d (drop next (params_of d)) (take count ls))

module _ (macros : Macros) (here : Here) where
  level_by : (l : Level) (h : Head) → head_of macros here (first_list (lists l.slots)) ≡ h → level_meaning macros here l ≡ after (map marked l.out.items) (once_from (single_level macros here) h l.work)
  level_by l h e = ap (after (map marked l.out.items)) (level_step macros here (first_list (lists l.slots)) l.work ∙ ap (λ v. once_from (single_level macros here) v l.work) e)

  level_sized : (l : Level) (h : Head) → head_of macros here (first_list (lists l.slots)) ≡ h → IsSized (level_size l) h
  level_sized l h e = subst (λ v. IsSized (level_size l) v) e (head_sized macros here (first_list (lists l.slots)))

  pub level_fault : (l : Level) (fault : ExpandFault) → (fault ≡ NoMemory) ⊎ (head_of macros here (first_list (lists l.slots)) ≡ Fails fault) → IsFaultOf fault (level_meaning macros here l)
  level_fault l fault (inl e) = inl e
  level_fault l fault (inr e) = inr (level_by l (Fails fault) e)

  pub level_end : (l : Level) → head_of macros here (first_list (lists l.slots)) ≡ Finished → level_meaning macros here l ≡ Ok (map marked l.out.items, l.work)
  level_end l e = level_by l Finished e ∙ ap (λ x. Ok (x, l.work)) (append-nil (map marked l.out.items))

  pub level_stays : (l n : Level) (k : HiddenToken) → head_of macros here (first_list (lists l.slots)) ≡ Stays (marked k) (first_list (lists n.slots)) → n.out.items ≡ l.out.items ++ k ∷ [] → n.work ≡ l.work → l.work ≤ limit →
      LevelGoesOn macros here (level_meaning macros here l) (level_size l) n
  level_stays l n k e o w limited =
      let rest : List Marked = first_list (lists n.slots) in
      record {
        same = ap (λ x. after x (single_level macros here rest n.work)) (ap (map marked) o ∙ map_push marked l.out.items k)
            ∙ ap (λ x. after (map marked l.out.items ++ marked k ∷ []) (single_level macros here rest x)) w
            ∙ sym (after_after (map marked l.out.items) (marked k ∷ []) (single_level macros here rest l.work)) ∙ sym (level_by l (Stays (marked k) rest) e);
        less = level_sized l (Stays (marked k) rest) e;
        work = subst (λ x. x ≤ limit) (sym w) limited;
      }

  -- a name that is replaced, where the code has its call
  pub level_replaced : (l n m : Level) (r : MacroCall) → head_of macros here (first_list (lists l.slots)) ≡ Replaced (call_of r (lists n.slots)) → n.out ≡ l.out → n.work ≡ l.work →
      LevelGoesOn macros here (level_replacing macros here n r) (suc (length (call_of r (lists n.slots)).rest)) m → LevelGoesOn macros here (level_meaning macros here l) (level_size l) m
  level_replaced l n m r e o w g =
      let s : weight (call_of r (lists n.slots)).args + length (call_of r (lists n.slots)).rest < level_size l = level_sized l (Replaced (call_of r (lists n.slots))) e in
      record { same = g.same ∙ replacing_is l n r e o w; less = omega (arith, g.less, s); work = g.work }
    where
      replacing_is : (l n : Level) (r : MacroCall) → head_of macros here (first_list (lists l.slots)) ≡ Replaced (call_of r (lists n.slots)) → n.out ≡ l.out → n.work ≡ l.work → level_replacing macros here n r ≡ level_meaning macros here l
      replacing_is l n r e o w =
          ap (λ x. after (map marked x.items) (once_from (single_level macros here) (Replaced (call_of r (lists n.slots))) n.work)) o
          ∙ ap (λ x. after (map marked l.out.items) (once_from (single_level macros here) (Replaced (call_of r (lists n.slots))) x)) w
          ∙ sym (level_by l (Replaced (call_of r (lists n.slots))) e)

  pub level_replaced_fault : (l n : Level) (r : MacroCall) (fault : ExpandFault) → head_of macros here (first_list (lists l.slots)) ≡ Replaced (call_of r (lists n.slots)) → n.out ≡ l.out → n.work ≡ l.work →
      IsFaultOf fault (level_replacing macros here n r) → IsFaultOf fault (level_meaning macros here l)
  level_replaced_fault l n r fault e o w (inl f) = inl f
  level_replaced_fault l n r fault e o w (inr f) =
      inr (level_by l (Replaced (call_of r (lists n.slots))) e
      ∙ ap (λ x. after (map marked l.out.items) (once_from (single_level macros here) (Replaced (call_of r (lists n.slots))) x)) (sym w)
      ∙ ap (λ x. after (map marked x.items) (once_from (single_level macros here) (Replaced (call_of r (lists n.slots))) n.work)) (sym o) ∙ f)

  -- The list that replaces a name.

  pub put_fault : (l : Level) (r : MacroCall) (fault : ExpandFault) → IsFaultOf fault (put_by (call_of r (lists l.slots))) → IsFaultOf fault (level_replacing macros here l r)
  put_fault l r fault (inl e) = inl e
  put_fault l r fault (inr e) = inr (rw e refl)

  pub put_too_long : (l : Level) (r : MacroCall) (list : List HiddenToken) → put_by (call_of r (lists l.slots)) ≡ Ok (map marked list) → limit < l.work + length list → level_replacing macros here l r ≡ Err TooLong
  put_too_long l r list e h =
      let c : Call = call_of r (lists l.slots) in
      let more : limit < l.work + length (map marked list) = omega (arith, length-map list marked) in
      rw e (ap (after (map marked l.out.items)) (within_false (l.work + length (map marked list)) (λ w. after (map marked list) (single_level macros here c.rest w)) more))

  pub put_goes_on : (l n : Level) (r : MacroCall) (list : List HiddenToken) → put_by (call_of r (lists l.slots)) ≡ Ok (map marked list) → first_list (lists n.slots) ≡ (call_of r (lists l.slots)).rest →
      n.out.items ≡ l.out.items ++ list → n.work ≡ l.work + length list → l.work + length list ≤ limit →
      LevelGoesOn macros here (level_replacing macros here l r) (suc (length (call_of r (lists l.slots)).rest)) n
  put_goes_on l n r list e f o w h =
      let c : Call = call_of r (lists l.slots) in
      let work : n.work ≡ l.work + length (map marked list) = omega (arith, w, length-map list marked) in
      let fits : l.work + length (map marked list) ≤ limit = omega (arith, h, length-map list marked) in
      let there : level_meaning macros here n ≡ after (map marked l.out.items) (after (map marked list) (single_level macros here c.rest (l.work + length (map marked list)))) =
      ap (λ x. after (map marked n.out.items) (single_level macros here x n.work)) f
      ∙ ap (λ x. after (map marked n.out.items) (single_level macros here c.rest x)) work
      ∙ ap (λ x. after x (single_level macros here c.rest (l.work + length (map marked list)))) (ap (map marked) o ∙ map-append marked l.out.items list)
      ∙ sym (after_after (map marked l.out.items) (map marked list) (single_level macros here c.rest (l.work + length (map marked list)))) in
      let whole : level_replacing macros here l r ≡ after (map marked l.out.items) (after (map marked list) (single_level macros here c.rest (l.work + length (map marked list)))) =
      rw e (ap (after (map marked l.out.items)) (within_true (l.work + length (map marked list)) (λ w. after (map marked list) (single_level macros here c.rest w)) fits)) in
      record { same = there ∙ sym whole; less = omega (arith, ap length f); work = omega (arith, w, h) }
