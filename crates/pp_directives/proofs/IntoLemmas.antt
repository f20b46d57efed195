-- Lines one after another, whatever comes of what is pending at their end.
use Rattle.std.proofs.Common.{◌≡◌, Bool, true, false, cond, List, [], ◌∷◌, ◌++◌, Result, Ok, Err, refl, sym, subst}
use Rattle.pp_directives.specs.declared.fault.StructFault.{StructFault}
use Rattle.pp_directives.specs.declared.fault.StructFault.TheVariants.{ElseAfterElse, ElifAfterElse}
use Rattle.pp_directives.specs.declared.conditional.open_section.OpenSection.{OpenSection}
use Rattle.pp_directives.specs.Groups.{LineRole, OtherLine, IfLine, ElifLine, ElseLine, EndifLine, CondLine, line, Spot}
use Rattle.pp_directives.specs.Conditions.{is_active, is_due, opened, after_elif, after_else, turned_by}
use Rattle.pp_directives.specs.Following.{Ways, Then, passed_all}
use Rattle.pp_directives.specs.Running.{RunState, Acts, Answers, after_turn, Turns, Steps, ended, Runs}
use Rattle.pp_directives.proofs.ThenLemmas.{Same, same_self, ◌⨾◌, then_after, then_known, then_stopped, then_three}

-- what lines come to one after another, where this comes of what is pending at their end
abbrev pub Into : {A S F : Type 0} → Ways A S F → (End : List OpenSection → S → Result S F → Type 0) → List OpenSection → List (CondLine A) → S → Result S F → Type 0
Into ways End pending [] s r = End pending s r
Into ways End pending (here ∷ lines) s r = Then (Steps ways here.role here.item (record { pending = pending; state = s })) (λ at. Into ways End at.pending lines at.state) r

module _ {A S F : Type 0} (ways : Ways A S F) where
  abbrev pub stand : List OpenSection → S → RunState S
  stand pending s = record { pending = pending; state = s }

  abbrev pub spotted : A → Bool → Spot
  spotted here answer = record { number = ways.spot here; answer = answer }

  pub runs_into : (lines : List (CondLine A)) (p : List OpenSection) (s : S) → Same (Runs ways p lines s) (Into ways (λ q t r. r ≡ ended ways q t) p lines s)
  runs_into [] p s = same_self (λ r. r ≡ ended ways p s)
  runs_into (here ∷ lines) p s =
      then_after (Steps ways here.role here.item (stand p s)) (λ at. Runs ways at.pending lines at.state) (λ at. Into ways (λ q t r. r ≡ ended ways q t) at.pending lines at.state)
      (λ at step. runs_into lines at.pending at.state)

  -- lines in two parts
  pub into_on : (End : List OpenSection → S → Result S F → Type 0) (front back : List (CondLine A)) (p : List OpenSection) (s : S) →
      Same (Into ways End p (front ++ back) s) (Into ways (λ q t. Into ways End q back t) p front s)
  into_on End [] back p s = same_self (Into ways End p back s)
  into_on End (here ∷ front) back p s =
      then_after (Steps ways here.role here.item (stand p s)) (λ at. Into ways End at.pending (front ++ back) at.state) (λ at. Into ways (λ q t. Into ways End q back t) at.pending front at.state)
      (λ at step. into_on End front back at.pending at.state)

  pub passed_two : (a b : List (CondLine A)) (s : S) → passed_all ways (a ++ b) s ≡ passed_all ways b (passed_all ways a s)
  passed_two [] b s = refl
  passed_two (here ∷ a) b s = passed_two a b (ways.passes here.item s)

  -- what comes of a line that was turned or rejected, and the lines after it
  abbrev pub Turned : (List OpenSection → S → Result S F → Type 0) → A → S → Result (List OpenSection) StructFault → Result S F → Type 0
  Turned Next here s (Ok pending) = Next pending (ways.passes here s)
  Turned Next here s (Err fault) = λ r. r ≡ Err (ways.breaks fault (ways.spot here))

  turned_next : (Next : List OpenSection → S → Result S F → Type 0) (here : A) (s : S) (t : Result (List OpenSection) StructFault) →
      Same (Then (λ q. q ≡ after_turn ways here s t) (λ (at : RunState S). Next at.pending at.state)) (Turned Next here s t)
  turned_next Next here s (Ok pending) = then_known (stand pending (ways.passes here s)) (λ at. Next at.pending at.state)
  turned_next Next here s (Err fault) = then_stopped (ways.breaks fault (ways.spot here)) (λ at. Next at.pending at.state)

  -- a conditional directive and what follows it
  pub turns_next : (Next : List OpenSection → S → Result S F → Type 0) (role : LineRole) (here : A) (p : List OpenSection) (s : S) →
      Same (Then (Turns ways role here (stand p s)) (λ at. Next at.pending at.state))
      (Then (Answers ways (is_due role p) here s) (λ answer. Turned Next here s (turned_by role (spotted here answer) p)))
  turns_next Next role here p s =
      then_three (Answers ways (is_due role p) here s) (λ answer q. q ≡ after_turn ways here s (turned_by role (spotted here answer) p)) (λ at. Next at.pending at.state)
      ⨾ then_after (Answers ways (is_due role p) here s)
      (λ answer. Then (λ q. q ≡ after_turn ways here s (turned_by role (spotted here answer) p)) (λ (at : RunState S). Next at.pending at.state))
      (λ answer. Turned Next here s (turned_by role (spotted here answer) p))
      (λ answer given. turned_next Next here s (turned_by role (spotted here answer) p))

  -- a line that is no conditional directive, and what follows it
  pub acts_next : (Next : List OpenSection → S → Result S F → Type 0) (here : A) (p : List OpenSection) (s : S) →
      Same (Then (Steps ways OtherLine here (stand p s)) (λ at. Next at.pending at.state)) (Then (Acts ways (is_active p) here s) (Next p))
  acts_next Next here p s =
      then_three (Acts ways (is_active p) here s) (λ t q. q ≡ Ok (stand p t)) (λ at. Next at.pending at.state)
      ⨾ then_after (Acts ways (is_active p) here s) (λ t. Then (λ q. q ≡ Ok (stand p t)) (λ (at : RunState S). Next at.pending at.state)) (Next p)
      (λ t given. then_known (stand p t) (λ at. Next at.pending at.state))

  -- a condition that is not due
  pub not_due : (due : Bool) (here : A) (s : S) (Next : Bool → Result S F → Type 0) → due ≡ false → Same (Then (Answers ways due here s) Next) (Next false)
  not_due true here s Next is = cc
  not_due false here s Next is = then_known false Next

  pub due_asked : (due : Bool) (here : A) (s : S) (Next : Bool → Result S F → Type 0) → due ≡ true → Same (Then (Answers ways due here s) Next) (Then (ways.Asks here s) Next)
  due_asked true here s Next is = same_self (Then (ways.Asks here s) Next)
  due_asked false here s Next is = cc

  acts_passed : (active : Bool) (here : A) (s : S) (Next : S → Result S F → Type 0) → active ≡ false → Same (Then (Acts ways active here s) Next) (Next (ways.passes here s))
  acts_passed true here s Next is = cc
  acts_passed false here s Next is = then_known (ways.passes here s) Next

  acts_done : (active : Bool) (here : A) (s : S) (Next : S → Result S F → Type 0) → active ≡ true → Same (Then (Acts ways active here s) Next) (Then (ways.Does here s) Next)
  acts_done true here s Next is = same_self (Then (ways.Does here s) Next)
  acts_done false here s Next is = cc

  -- the steps of each kind of line
  module _ (End : List OpenSection → S → Result S F → Type 0) where
    pub other_taken : (here : A) (p : List OpenSection) (k : List (CondLine A)) (s : S) → is_active p ≡ true →
        Same (Into ways End p (line OtherLine here ∷ k) s) (Then (ways.Does here s) (Into ways End p k))
    other_taken here p k s is =
        acts_next (λ q t. Into ways End q k t) here p s ⨾ acts_done (is_active p) here s (Into ways End p k) is

    pub other_left : (here : A) (p : List OpenSection) (k : List (CondLine A)) (s : S) → is_active p ≡ false →
        Same (Into ways End p (line OtherLine here ∷ k) s) (Into ways End p k (ways.passes here s))
    other_left here p k s is =
        acts_next (λ q t. Into ways End q k t) here p s ⨾ acts_passed (is_active p) here s (Into ways End p k) is

    pub if_taken : (here : A) (p : List OpenSection) (k : List (CondLine A)) (s : S) → is_active p ≡ true →
        Same (Into ways End p (line IfLine here ∷ k) s) (Then (ways.Asks here s) (λ answer. Into ways End (opened true (spotted here answer) ∷ p) k (ways.passes here s)))
    if_taken here p k s is =
        turns_next (λ q t. Into ways End q k t) IfLine here p s
        ⨾ due_asked (is_active p) here s (λ answer. Into ways End (opened (is_active p) (spotted here answer) ∷ p) k (ways.passes here s)) is
        ⨾ subst (λ b. Same (Then (ways.Asks here s) (λ answer. Into ways End (opened b (spotted here answer) ∷ p) k (ways.passes here s)))
        (Then (ways.Asks here s) (λ answer. Into ways End (opened true (spotted here answer) ∷ p) k (ways.passes here s)))) (sym is)
        (same_self (Then (ways.Asks here s) (λ answer. Into ways End (opened true (spotted here answer) ∷ p) k (ways.passes here s))))

    pub if_left : (here : A) (p : List OpenSection) (k : List (CondLine A)) (s : S) → is_active p ≡ false →
        Same (Into ways End p (line IfLine here ∷ k) s) (Into ways End (opened false (spotted here false) ∷ p) k (ways.passes here s))
    if_left here p k s is =
        turns_next (λ q t. Into ways End q k t) IfLine here p s
        ⨾ not_due (is_active p) here s (λ answer. Into ways End (opened (is_active p) (spotted here answer) ∷ p) k (ways.passes here s)) is
        ⨾ subst (λ b. Same (Into ways End (opened b (spotted here false) ∷ p) k (ways.passes here s)) (Into ways End (opened false (spotted here false) ∷ p) k (ways.passes here s))) (sym is)
        (same_self (Into ways End (opened false (spotted here false) ∷ p) k (ways.passes here s)))

    -- a section where no `#else` was
    unguarded : (has_else : Bool) (fault : StructFault) (here : A) (q : List OpenSection) (k : List (CondLine A)) (s : S) → has_else ≡ false →
        Same (Turned (λ p t. Into ways End p k t) here s (cond {A = Result (List OpenSection) StructFault} has_else (Err fault) (Ok q))) (Into ways End q k (ways.passes here s))
    unguarded true fault here q k s is = cc
    unguarded false fault here q k s is = same_self (Into ways End q k (ways.passes here s))

    pub elif_waiting : (here : A) (o : OpenSection) (p : List OpenSection) (k : List (CondLine A)) (s : S) → o.waiting ≡ true → o.has_else ≡ false →
        Same (Into ways End (o ∷ p) (line ElifLine here ∷ k) s) (Then (ways.Asks here s) (λ answer. Into ways End (after_elif answer o ∷ p) k (ways.passes here s)))
    elif_waiting here o p k s waits no_else =
        turns_next (λ q t. Into ways End q k t) ElifLine here (o ∷ p) s
        ⨾ due_asked o.waiting here s (λ answer. Turned (λ q t. Into ways End q k t) here s (turned_by ElifLine (spotted here answer) (o ∷ p))) waits
        ⨾ then_after (ways.Asks here s)
        (λ answer. Turned (λ q t. Into ways End q k t) here s (turned_by ElifLine (spotted here answer) (o ∷ p)))
        (λ answer. Into ways End (after_elif answer o ∷ p) k (ways.passes here s))
        (λ answer given. unguarded o.has_else ElifAfterElse here (after_elif answer o ∷ p) k s no_else)

    pub elif_done : (here : A) (o : OpenSection) (p : List OpenSection) (k : List (CondLine A)) (s : S) → o.waiting ≡ false → o.has_else ≡ false →
        Same (Into ways End (o ∷ p) (line ElifLine here ∷ k) s) (Into ways End (after_elif false o ∷ p) k (ways.passes here s))
    elif_done here o p k s done no_else =
        turns_next (λ q t. Into ways End q k t) ElifLine here (o ∷ p) s
        ⨾ not_due o.waiting here s (λ answer. Turned (λ q t. Into ways End q k t) here s (turned_by ElifLine (spotted here answer) (o ∷ p))) done
        ⨾ unguarded o.has_else ElifAfterElse here (after_elif false o ∷ p) k s no_else

    pub else_turns : (here : A) (o : OpenSection) (p : List OpenSection) (k : List (CondLine A)) (s : S) → o.has_else ≡ false →
        Same (Into ways End (o ∷ p) (line ElseLine here ∷ k) s) (Into ways End (after_else o ∷ p) k (ways.passes here s))
    else_turns here o p k s no_else =
        turns_next (λ q t. Into ways End q k t) ElseLine here (o ∷ p) s
        ⨾ not_due false here s (λ answer. Turned (λ q t. Into ways End q k t) here s (turned_by ElseLine (spotted here answer) (o ∷ p))) refl
        ⨾ unguarded o.has_else ElseAfterElse here (after_else o ∷ p) k s no_else

    pub endif_turns : (here : A) (o : OpenSection) (p : List OpenSection) (k : List (CondLine A)) (s : S) →
        Same (Into ways End (o ∷ p) (line EndifLine here ∷ k) s) (Into ways End p k (ways.passes here s))
    endif_turns here o p k s =
        turns_next (λ q t. Into ways End q k t) EndifLine here (o ∷ p) s
        ⨾ not_due false here s (λ answer. Turned (λ q t. Into ways End q k t) here s (turned_by EndifLine (spotted here answer) (o ∷ p))) refl
