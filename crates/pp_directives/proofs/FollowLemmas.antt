-- Lines of a tree, one after another, come to what following the tree comes to.
use Rattle.std.proofs.Common.{◌≡◌, Bool, true, false, ◌&&◌, List, [], ◌∷◌, ◌++◌, Result, Ok, refl, sym, ap, ◌∙◌, subst, append_assoc}
use Rattle.pp_directives.specs.declared.conditional.open_section.OpenSection.{OpenSection}
use Rattle.pp_directives.specs.Groups.{EndifLine, CondLine, line, Group, Empty, Other, Section, Tail, Elif, Else, Endif, lines_of, tail_lines}
use Rattle.pp_directives.specs.Conditions.{is_active, opened, after_elif, after_else}
use Rattle.pp_directives.specs.Following.{Ways, Then, Chosen, passed_all, Passes, Decides, Follows, FollowsTail}
use Rattle.pp_directives.proofs.RunLemmas.{four}
use Rattle.pp_directives.proofs.ThenLemmas.{Same, same_self, same_back, ◌⨾◌, then_after, then_known, then_three}
use Rattle.pp_directives.proofs.IntoLemmas.{Into, spotted, passed_two, other_taken, other_left, if_taken, if_left, elif_waiting, elif_done, else_turns, endif_turns}

module _ {A S F : Type 0} (ways : Ways A S F) (End : List OpenSection → S → Result S F → Type 0) where
  -- equal lines, from equal states
  equal : (p : List OpenSection) (k l : List (CondLine A)) (s t : S) → k ≡ l → s ≡ t → Same (Into ways End p k s) (Into ways End p l t)
  equal p k l s t e f = subst (λ x. Same (Into ways End p k s) (Into ways End p x t)) e (subst (λ y. Same (Into ways End p k s) (Into ways End p k y)) f (same_self (Into ways End p k s)))

  -- one part of the lines, and what follows it
  next_part : (p : List OpenSection) (k l : List (CondLine A)) (s : S) → k ≡ l → Same (Into ways End p k s) (Into ways End p l s)
  next_part p k l s e = equal p k l s s e refl

  passed_three : (a b c : List (CondLine A)) (s : S) → passed_all ways c (passed_all ways b (passed_all ways a s)) ≡ passed_all ways ((a ++ b) ++ c) s
  passed_three a b c s = ap (passed_all ways c) (sym (passed_two ways a b s)) ∙ sym (passed_two ways (a ++ b) c s)

  mutual
    -- in a group that is not taken all lines are passed
    pub left_group : (g : Group A) (p : List OpenSection) (k : List (CondLine A)) (s : S) → is_active p ≡ false →
        Same (Into ways End p (lines_of g ++ k) s) (Into ways End p k (passed_all ways (lines_of g) s))
    left_group Empty p k s is = same_self (Into ways End p k s)
    left_group (Other here after) p k s is = other_left ways End here p (lines_of after ++ k) s is ⨾ left_group after p k (ways.passes here s) is
    left_group (Section here group tail after) p k s is =
        let o = opened false (spotted ways here false) in
        let t = ways.passes here s in
        if_left ways End here p (((lines_of group ++ tail_lines tail) ++ lines_of after) ++ k) s is
        ⨾ next_part (o ∷ p) (((lines_of group ++ tail_lines tail) ++ lines_of after) ++ k) (lines_of group ++ (tail_lines tail ++ (lines_of after ++ k))) t
        (four (lines_of group) (tail_lines tail) (lines_of after) k)
        ⨾ left_group group (o ∷ p) (tail_lines tail ++ (lines_of after ++ k)) t refl
        ⨾ done_tail tail o p (lines_of after ++ k) (passed_all ways (lines_of group) t) refl refl
        ⨾ left_group after p k (passed_all ways (tail_lines tail) (passed_all ways (lines_of group) t)) is
        ⨾ equal p k k (passed_all ways (lines_of after) (passed_all ways (tail_lines tail) (passed_all ways (lines_of group) t)))
        (passed_all ways ((lines_of group ++ tail_lines tail) ++ lines_of after) t) refl
        (passed_three (lines_of group) (tail_lines tail) (lines_of after) t)

    -- in the rest of a section that does not wait all lines are passed
    pub done_tail : (l : Tail A) (o : OpenSection) (p : List OpenSection) (k : List (CondLine A)) (s : S) → o.waiting ≡ false → o.has_else ≡ false →
        Same (Into ways End (o ∷ p) (tail_lines l ++ k) s) (Into ways End p k (passed_all ways (tail_lines l) s))
    done_tail (Elif here group tail) o p k s done no_else =
        let t = ways.passes here s in
        elif_done ways End here o p ((lines_of group ++ tail_lines tail) ++ k) s done no_else
        ⨾ next_part (after_elif false o ∷ p) ((lines_of group ++ tail_lines tail) ++ k) (lines_of group ++ (tail_lines tail ++ k)) t
        (append_assoc (lines_of group) (tail_lines tail) k)
        ⨾ left_group group (after_elif false o ∷ p) (tail_lines tail ++ k) t (ap (λ b. b && false) done)
        ⨾ done_tail tail (after_elif false o) p k (passed_all ways (lines_of group) t) (ap (λ b. b && true) done) no_else
        ⨾ equal p k k (passed_all ways (tail_lines tail) (passed_all ways (lines_of group) t)) (passed_all ways (lines_of group ++ tail_lines tail) t) refl
        (sym (passed_two ways (lines_of group) (tail_lines tail) t))
    done_tail (Else here group ending) o p k s done no_else =
        let t = ways.passes here s in
        else_turns ways End here o p ((lines_of group ++ line EndifLine ending ∷ []) ++ k) s no_else
        ⨾ next_part (after_else o ∷ p) ((lines_of group ++ line EndifLine ending ∷ []) ++ k) (lines_of group ++ (line EndifLine ending ∷ k)) t
        (append_assoc (lines_of group) (line EndifLine ending ∷ []) k)
        ⨾ left_group group (after_else o ∷ p) (line EndifLine ending ∷ k) t done
        ⨾ endif_turns ways End ending (after_else o) p k (passed_all ways (lines_of group) t)
        ⨾ equal p k k (ways.passes ending (passed_all ways (lines_of group) t)) (passed_all ways (lines_of group ++ line EndifLine ending ∷ []) t) refl
        (sym (passed_two ways (lines_of group) (line EndifLine ending ∷ []) t))
    done_tail (Endif ending) o p k s done no_else = endif_turns ways End ending o p k s

  -- what the lines of a group come to in an active place, and the lines after them
  abbrev GroupRuns : Group A → Type 0
  GroupRuns g = (p : List OpenSection) (k : List (CondLine A)) (s : S) → is_active p ≡ true → Same (Into ways End p (lines_of g ++ k) s) (Then (Follows ways g s) (Into ways End p k))

  -- the same of the rest of a section that waits
  abbrev TailRuns : Tail A → Type 0
  TailRuns l = (o : OpenSection) (p : List OpenSection) (k : List (CondLine A)) (s : S) → o.waiting ≡ true → o.has_else ≡ false →
      Same (Into ways End (o ∷ p) (tail_lines l ++ k) s) (Then (FollowsTail ways l s) (Into ways End p k))

  -- a group that is taken, in a section of which the rest is passed
  taken_part : (g : Group A) (l : Tail A) (o : OpenSection) (p : List OpenSection) (k : List (CondLine A)) (s : S) → o.active ≡ true → o.waiting ≡ false → o.has_else ≡ false → GroupRuns g →
      Same (Into ways End (o ∷ p) (lines_of g ++ (tail_lines l ++ k)) s) (Then (Then (Follows ways g s) (Passes ways (tail_lines l))) (Into ways End p k))
  taken_part g l o p k s active done no_else runs =
      runs (o ∷ p) (tail_lines l ++ k) s active
      ⨾ then_after (Follows ways g s) (Into ways End (o ∷ p) (tail_lines l ++ k)) (λ t. Then (Passes ways (tail_lines l) t) (Into ways End p k))
      (λ t given. done_tail l o p k t done no_else ⨾ same_back (then_known (passed_all ways (tail_lines l) t) (Into ways End p k)))
      ⨾ same_back (then_three (Follows ways g s) (Passes ways (tail_lines l)) (Into ways End p k))

  -- a group that is not taken, in a section that waits
  left_part : (g : Group A) (l : Tail A) (o : OpenSection) (p : List OpenSection) (k : List (CondLine A)) (s : S) → o.active ≡ false → o.waiting ≡ true → o.has_else ≡ false → TailRuns l →
      Same (Into ways End (o ∷ p) (lines_of g ++ (tail_lines l ++ k)) s) (Then (FollowsTail ways l (passed_all ways (lines_of g) s)) (Into ways End p k))
  left_part g l o p k s left waits no_else runs =
      left_group g (o ∷ p) (tail_lines l ++ k) s left ⨾ runs o p k (passed_all ways (lines_of g) s) waits no_else

  -- a condition that decides a group: the section after it is taken, or waits
  record Decided (o : Bool → OpenSection) : Type 0 where
    active : (o true).active ≡ true
    done : (o true).waiting ≡ false
    left : (o false).active ≡ false
    waits : (o false).waiting ≡ true
    no_else : (b : Bool) → (o b).has_else ≡ false

  -- a group that is taken or not, by the answer
  abbrev Taken : Group A → Tail A → S → Result S F → Type 0
  Taken g l t = Then (Follows ways g t) (Passes ways (tail_lines l))

  abbrev Left : Group A → Tail A → S → Result S F → Type 0
  Left g l t = FollowsTail ways l (passed_all ways (lines_of g) t)

  by_answer : (answer : Bool) (g : Group A) (l : Tail A) (o : Bool → OpenSection) (p : List OpenSection) (k : List (CondLine A)) (s : S) → Decided o → GroupRuns g → TailRuns l →
      Same (Into ways End (o answer ∷ p) (lines_of g ++ (tail_lines l ++ k)) s) (Then (Chosen (Taken g l s) (Left g l s) answer) (Into ways End p k))
  by_answer true g l o p k s d runs more = taken_part g l (o true) p k s d.active d.done (d.no_else true) runs
  by_answer false g l o p k s d runs more = left_part g l (o false) p k s d.left d.waits (d.no_else false) more

  decides : (here : A) (g : Group A) (l : Tail A) (o : Bool → OpenSection) (p : List OpenSection) (k : List (CondLine A)) (s : S) → Decided o → GroupRuns g → TailRuns l →
      Same (Then (ways.Asks here s) (λ answer. Into ways End (o answer ∷ p) (lines_of g ++ (tail_lines l ++ k)) (ways.passes here s)))
      (Then (Decides ways here (Taken g l) (Left g l) s) (Into ways End p k))
  decides here g l o p k s d runs more =
      let t = ways.passes here s in
      then_after (ways.Asks here s) (λ answer. Into ways End (o answer ∷ p) (lines_of g ++ (tail_lines l ++ k)) t) (λ answer. Then (Chosen (Taken g l t) (Left g l t) answer) (Into ways End p k))
      (λ answer given. by_answer answer g l o p k t d runs more)
      ⨾ same_back (then_three (ways.Asks here s) (Chosen (Taken g l t) (Left g l t)) (Into ways End p k))

  if_decided : (here : A) → Decided (λ answer. opened true (spotted ways here answer))
  if_decided here = record { active = refl; done = refl; left = refl; waits = refl; no_else = λ b. refl }

  elif_decided : (o : OpenSection) → o.waiting ≡ true → o.has_else ≡ false → Decided (λ answer. after_elif answer o)
  elif_decided o waits no_else = record {
    active = ap (λ b. b && true) waits;
    done = ap (λ b. b && false) waits;
    left = ap (λ b. b && false) waits;
    waits = ap (λ b. b && true) waits;
    no_else = λ b. no_else;
  }

  mutual
    -- in an active place the lines of a group come to what the group comes to
    pub follow_group : (g : Group A) → GroupRuns g
    follow_group Empty p k s is = same_back (then_known s (Into ways End p k))
    follow_group (Other here after) p k s is =
        other_taken ways End here p (lines_of after ++ k) s is
        ⨾ then_after (ways.Does here s) (Into ways End p (lines_of after ++ k)) (λ t. Then (Follows ways after t) (Into ways End p k))
        (λ t given. follow_group after p k t is)
        ⨾ same_back (then_three (ways.Does here s) (Follows ways after) (Into ways End p k))
    follow_group (Section here group tail after) p k s is =
        let o : Bool → OpenSection = λ answer. opened true (spotted ways here answer) in
        let t = ways.passes here s in
        let First : Result S F → Type 0 = Decides ways here (Taken group tail) (Left group tail) s in
        if_taken ways End here p (((lines_of group ++ tail_lines tail) ++ lines_of after) ++ k) s is
        ⨾ then_after (ways.Asks here s)
        (λ answer. Into ways End (o answer ∷ p) (((lines_of group ++ tail_lines tail) ++ lines_of after) ++ k) t)
        (λ answer. Into ways End (o answer ∷ p) (lines_of group ++ (tail_lines tail ++ (lines_of after ++ k))) t)
        (λ answer given. next_part (o answer ∷ p) (((lines_of group ++ tail_lines tail) ++ lines_of after) ++ k) (lines_of group ++ (tail_lines tail ++ (lines_of after ++ k))) t
        (four (lines_of group) (tail_lines tail) (lines_of after) k))
        ⨾ decides here group tail o p (lines_of after ++ k) s (if_decided here) (follow_group group) (follow_tail tail)
        ⨾ then_after First (Into ways End p (lines_of after ++ k)) (λ u. Then (Follows ways after u) (Into ways End p k)) (λ u given. follow_group after p k u is)
        ⨾ same_back (then_three First (Follows ways after) (Into ways End p k))

    -- the lines of the rest of a section that waits come to what it comes to
    pub follow_tail : (l : Tail A) → TailRuns l
    follow_tail (Elif here group tail) o p k s waits no_else =
        let t = ways.passes here s in
        elif_waiting ways End here o p ((lines_of group ++ tail_lines tail) ++ k) s waits no_else
        ⨾ then_after (ways.Asks here s)
        (λ answer. Into ways End (after_elif answer o ∷ p) ((lines_of group ++ tail_lines tail) ++ k) t)
        (λ answer. Into ways End (after_elif answer o ∷ p) (lines_of group ++ (tail_lines tail ++ k)) t)
        (λ answer given. next_part (after_elif answer o ∷ p) ((lines_of group ++ tail_lines tail) ++ k) (lines_of group ++ (tail_lines tail ++ k)) t
        (append_assoc (lines_of group) (tail_lines tail) k))
        ⨾ decides here group tail (λ answer. after_elif answer o) p k s (elif_decided o waits no_else) (follow_group group) (follow_tail tail)
    follow_tail (Else here group ending) o p k s waits no_else =
        let t = ways.passes here s in
        else_turns ways End here o p ((lines_of group ++ line EndifLine ending ∷ []) ++ k) s no_else
        ⨾ next_part (after_else o ∷ p) ((lines_of group ++ line EndifLine ending ∷ []) ++ k) (lines_of group ++ (line EndifLine ending ∷ k)) t
        (append_assoc (lines_of group) (line EndifLine ending ∷ []) k)
        ⨾ follow_group group (after_else o ∷ p) (line EndifLine ending ∷ k) t waits
        ⨾ then_after (Follows ways group t) (Into ways End (after_else o ∷ p) (line EndifLine ending ∷ k)) (λ u. Then (λ q. q ≡ Ok (ways.passes ending u)) (Into ways End p k))
        (λ u given. endif_turns ways End ending (after_else o) p k u ⨾ same_back (then_known (ways.passes ending u) (Into ways End p k)))
        ⨾ same_back (then_three (Follows ways group t) (λ u q. q ≡ Ok (ways.passes ending u)) (Into ways End p k))
    follow_tail (Endif ending) o p k s waits no_else = endif_turns ways End ending o p k s ⨾ same_back (then_known (ways.passes ending s) (Into ways End p k))
