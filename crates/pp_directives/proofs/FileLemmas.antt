-- The lines of a file, one after another, come to what following their tree comes to, with the fault of their structure.
use Rattle.std.proofs.Common.{◌≡◌, ◌↔◌, ℕ, inl, inr, ◌⊎◌, Bool, true, false, cond, List, [], ◌∷◌, ◌++◌, length, Some, Result, Ok, Err, refl, sym, ap, ◌∙◌, subst}
use Rattle.std.proofs.lemmas.List.{append-nil}
use Rattle.mac_base.proofs.Choices.{same_some}
use Rattle.pp_directives.specs.declared.fault.StructFault.{StructFault}
use Rattle.pp_directives.specs.declared.fault.StructFault.TheVariants.{ElifAfterElse, OpenIf}
use Rattle.pp_directives.specs.declared.conditional.open_section.OpenSection.{OpenSection}
use Rattle.pp_directives.specs.Groups.{LineRole, OtherLine, IfLine, ElifLine, ElseLine, EndifLine, CondLine, line, Group, lines_of, Parses, HasTree, carried, Spot}
use Rattle.pp_directives.specs.Structure.{IsFaultAt, IsOpenAtEnd, IsFirstFault, in_line, at_end}
use Rattle.pp_directives.specs.Conditions.{open_line, is_due, after_elif, turned_by, turned_all}
use Rattle.pp_directives.specs.Laws.{Refuses, EndsOpen}
use Rattle.pp_directives.specs.Following.{Ways, Then, Follows, spot_of, FollowsBroken, Completed, FollowsFile, Whole, Broken, Unclosed}
use Rattle.pp_directives.specs.Running.{Turns, RunState, ended, Runs}
use Rattle.pp_directives.proofs.StructureLemmas.{refuses_law}
use Rattle.pp_directives.proofs.InnermostLemmas.{opens_law}
use Rattle.pp_directives.proofs.FaultLemmas.{tree_or_fault}
use Rattle.pp_directives.proofs.TreeLemmas.{roles_decide}
use Rattle.pp_directives.proofs.ThenLemmas.{Same, same_self, ◌⨾◌, then_last}
use Rattle.pp_directives.proofs.IntoLemmas.{Into, stand, spotted, runs_into, into_on, Turned, turns_next, not_due}
use Rattle.pp_directives.proofs.FollowLemmas.{follow_group}
use Rattle.pp_directives.proofs.AlikeLemmas.{Alike, AlikeTurns, turned_alike, alike_err, into_alike}
use Rattle.pp_directives.proofs.CompletedLemmas.{Answered, completes, completed_same}

-- a section that rejects an `#elif` had its `#else`
refused_after_else : (b : Bool) (q : List OpenSection) (fault : StructFault) → cond {A = Result (List OpenSection) StructFault} b (Err ElifAfterElse) (Ok q) ≡ Err fault → b ≡ true
refused_after_else true q fault is = refl
refused_after_else false q fault is = cc

-- the condition of a line that is rejected is not due
refused_not_due : (role : LineRole) (spot : Spot) (p q : List OpenSection) (fault : StructFault) → Alike p q → turned_by role spot q ≡ Err fault → is_due role p ≡ false
refused_not_due OtherLine spot p q fault h is = refl
refused_not_due IfLine spot p q fault h is = cc
refused_not_due ElifLine spot [] q fault h is = refl
refused_not_due ElifLine spot (o ∷ p) [] fault h is = absurd h
refused_not_due ElifLine spot (o ∷ p) (u ∷ q) fault h is =
    let one = h.0 in
    one.settled (one.has_else ∙ refused_after_else u.has_else (after_elif spot.answer u ∷ q) fault is)
refused_not_due ElseLine spot p q fault h is = refl
refused_not_due EndifLine spot p q fault h is = refl

module _ {A S F : Type 0} (ways : Ways A S F) where
  -- the end of a file
  abbrev Ended : List OpenSection → S → Result S F → Type 0
  Ended p t r = r ≡ ended ways p t

  refused_turns : (Next : List OpenSection → S → Result S F → Type 0) (role : LineRole) (here : A) (p q : List OpenSection) (s : S) (fault : StructFault) → Alike p q → turned_by role (spot_of ways here) q ≡ Err fault →
      Same (Then (Turns ways role here (stand ways p s)) (λ (at : RunState S). Next at.pending at.state)) (λ r. r ≡ Err (ways.breaks fault (ways.spot here)))
  refused_turns Next role here p q s fault h is =
      turns_next ways Next role here p s
      ⨾ not_due ways (is_due role p) here s (λ answer. Turned ways Next here s (turned_by role (spotted ways here answer) p)) (refused_not_due role (spot_of ways here) p q fault h is)
      ⨾ subst (λ t. Same (Turned ways Next here s t) (λ r. r ≡ Err (ways.breaks fault (ways.spot here))))
      (sym (alike_err (turned_by role (spotted ways here false) p) fault (subst (λ x. AlikeTurns (turned_by role (spotted ways here false) p) x) is (turned_alike role (ways.spot here) false false p q h))))
      (same_self (λ r. r ≡ Err (ways.breaks fault (ways.spot here))))

  -- a line that is rejected ends all
  refused_into : (End : List OpenSection → S → Result S F → Type 0) (role : LineRole) (here : A) (lines : List (CondLine A)) (p q : List OpenSection) (s : S) (fault : StructFault) →
      Alike p q → turned_by role (spot_of ways here) q ≡ Err fault → Same (Into ways End p (line role here ∷ lines) s) (Answered ways fault (ways.spot here) p s)
  refused_into End OtherLine here lines p q s fault h is = cc
  refused_into End IfLine here lines p q s fault h is = cc
  refused_into End ElifLine here lines p q s fault h is = refused_turns (λ x t. Into ways End x lines t) ElifLine here p q s fault h is
  refused_into End ElseLine here lines p q s fault h is = refused_turns (λ x t. Into ways End x lines t) ElseLine here p q s fault h is
  refused_into End EndifLine here lines p q s fault h is = refused_turns (λ x t. Into ways End x lines t) EndifLine here p q s fault h is

  -- lines of a tree
  whole_same : (lines : List (CondLine A)) (tree : Group A) (s : S) → Parses lines tree → Same (Runs ways [] lines s) (Follows ways tree s)
  whole_same lines tree s is =
      runs_into ways lines [] s
      ⨾ subst (λ x. Same (Into ways Ended [] x s) (Into ways Ended [] (lines_of tree ++ []) s)) (append-nil (lines_of tree) ∙ is) (same_self (Into ways Ended [] (lines_of tree ++ []) s))
      ⨾ follow_group ways Ended tree [] [] s refl
      ⨾ then_last (Follows ways tree s)

  -- lines with a line that is rejected
  broken_same : (before after : List (CondLine A)) (here : CondLine A) (fault : StructFault) (s : S) → (f : Refuses (carried (spot_of ways) before) (line here.role (spot_of ways here.item)) fault) →
      Same (Runs ways [] (before ++ here ∷ after) s) (Into ways (Answered ways fault (ways.spot here.item)) [] before s)
  broken_same before after here fault s f =
      runs_into ways (before ++ here ∷ after) [] s
      ⨾ into_on ways Ended before (here ∷ after) [] s
      ⨾ into_alike ways (λ q t. Into ways Ended q (here ∷ after) t) (Answered ways fault (ways.spot here.item)) before [] [] f.pending s tt f.turns
      (λ x t like. refused_into Ended here.role here.item after x f.pending t fault like f.refused)

  ended_open : (p q : List OpenSection) (number : ℕ) (s : S) → Alike p q → open_line q ≡ Some number → Same (Ended p s) (Answered ways OpenIf number p s)
  ended_open p [] number s h is = cc
  ended_open [] (u ∷ q) number s h is = absurd h
  ended_open (o ∷ p) (u ∷ q) number s h is =
      let one = h.0 in
      subst (λ n. Same (Ended (o ∷ p) s) (Answered ways OpenIf n (o ∷ p) s)) (one.line ∙ same_some u.line number is) (same_self (Ended (o ∷ p) s))

  -- lines after which a section is open
  open_same : (lines : List (CondLine A)) (number : ℕ) (s : S) → EndsOpen (carried (spot_of ways) lines) number → Same (Runs ways [] lines s) (Into ways (Answered ways OpenIf number) [] lines s)
  open_same lines number s e =
      runs_into ways lines [] s
      ⨾ into_alike ways Ended (Answered ways OpenIf number) lines [] [] e.pending s tt e.turns (λ x t like. ended_open x e.pending number t like e.line)

  -- legal lines that are followed before a fault
  broken_into : (lines : List (CondLine A)) (q : List OpenSection) (s : S) (number : ℕ) (fault : StructFault) (r : Result S F) → turned_all [] (carried (spot_of ways) lines) ≡ Ok q →
      FollowsBroken ways lines s number fault r → Into ways (Answered ways fault number) [] lines s r
  broken_into lines q s number fault r turns (Completed ending n tree is follows) = (completed_same ways lines ending n tree q s fault number turns is r).0 follows

  into_broken : (lines : List (CondLine A)) (ending : A) (q : List OpenSection) (s : S) (number : ℕ) (fault : StructFault) (r : Result S F) → turned_all [] (carried (spot_of ways) lines) ≡ Ok q →
      Into ways (Answered ways fault number) [] lines s r → FollowsBroken ways lines s number fault r
  into_broken lines ending q s number fault r turns runs =
      let h = completes ways lines ending q turns in
      Completed ending (length q) h.0 h.1 ((completed_same ways lines ending (length q) h.0 q s fault number turns h.1 r).1 runs)

  file_runs : (lines : List (CondLine A)) (s : S) (r : Result S F) → FollowsFile ways lines s r → Runs ways [] lines s r
  file_runs lines s r (Whole tree is follows) = (whole_same lines tree s is r).1 follows
  file_runs lines s r (Broken before after here fault is at follows) =
      let f = (refuses_law (carried (spot_of ways) before) (line here.role (spot_of ways here.item)) fault).0 at in
      subst (λ x. Runs ways [] x s r) (sym is)
      ((broken_same before after here fault s f r).1 (broken_into before f.pending s (ways.spot here.item) fault r f.turns follows))
  file_runs lines s r (Unclosed number at follows) =
      let e = (opens_law (carried (spot_of ways) lines) number).0 at in
      (open_same lines number s e r).1 (broken_into lines e.pending s number OpenIf r e.turns follows)

  -- lines in two parts, by their spots
  record Cut (lines : List (CondLine A)) (front : List (CondLine Spot)) (at : CondLine Spot) : Type 0 where
    before : List (CondLine A)
    here : CondLine A
    after : List (CondLine A)
    whole : lines ≡ before ++ here ∷ after
    same_front : carried (spot_of ways) before ≡ front
    same_here : line here.role (spot_of ways here.item) ≡ at

  cut : (lines : List (CondLine A)) (front back : List (CondLine Spot)) (at : CondLine Spot) → carried (spot_of ways) lines ≡ front ++ at ∷ back → Cut lines front at
  cut [] [] back at is = cc
  cut [] (x ∷ front) back at is = cc
  cut (here ∷ lines) [] back at is = record { before = []; here = here; after = lines; whole = refl; same_front = refl; same_here = cc is }
  cut (first ∷ lines) (x ∷ front) back at is =
      let more = cut lines front back at (cc is) in
      let e : line first.role (spot_of ways first.item) ≡ x = cc is in
      record { before = first ∷ more.before; here = more.here; after = more.after; whole = ap (λ y. first ∷ y) more.whole; same_front = ap (λ y. y ∷ carried (spot_of ways) more.before) e ∙ ap (λ y. x ∷ y) more.same_front; same_here = more.same_here }

  runs_broken : (lines : List (CondLine A)) (s : S) (r : Result S F) (front : List (CondLine Spot)) (at : CondLine Spot) (fault : StructFault) → Cut lines front at → IsFaultAt front at fault → Runs ways [] lines s r → FollowsFile ways lines s r
  runs_broken lines s r front at fault c is runs =
      let here = line c.here.role (spot_of ways c.here.item) in
      let is_at : IsFaultAt (carried (spot_of ways) c.before) here fault = subst (λ x. IsFaultAt x here fault) (sym c.same_front) (subst (λ y. IsFaultAt front y fault) (sym c.same_here) is) in
      let f = (refuses_law (carried (spot_of ways) c.before) here fault).0 is_at in
      Broken c.before c.after c.here fault c.whole is_at
      (into_broken c.before c.here.item f.pending s (ways.spot c.here.item) fault r f.turns
      ((broken_same c.before c.after c.here fault s f r).0 (subst (λ x. Runs ways [] x s r) c.whole runs)))

  runs_open : (lines : List (CondLine A)) (s : S) (r : Result S F) (number : ℕ) → IsOpenAtEnd (carried (spot_of ways) lines) number → Runs ways [] lines s r → FollowsFile ways lines s r
  runs_open [] s r number is runs =
      let e = (opens_law [] number).0 is in
      let none : [] ≡ e.pending = cc (e.turns) in
      let no : open_line [] ≡ Some number = ap open_line none ∙ e.line in
      cc
  runs_open (first ∷ lines) s r number is runs =
      let e = (opens_law (carried (spot_of ways) (first ∷ lines)) number).0 is in
      Unclosed number is (into_broken (first ∷ lines) first.item e.pending s number OpenIf r e.turns ((open_same (first ∷ lines) number s e r).0 runs))

  runs_faulted : (lines : List (CondLine A)) (s : S) (r : Result S F) (number : ℕ) (fault : StructFault) → IsFirstFault (carried (spot_of ways) lines) number fault → Runs ways [] lines s r → FollowsFile ways lines s r
  runs_faulted lines s r _ _ (in_line before after here fault is at) runs = runs_broken lines s r before here fault (cut lines before after here is) at runs
  runs_faulted lines s r _ _ (at_end number is) runs = runs_open lines s r number is runs

  runs_file : (lines : List (CondLine A)) (s : S) (r : Result S F) → Runs ways [] lines s r → FollowsFile ways lines s r
  runs_file lines s r runs = by_fault (tree_or_fault (carried (spot_of ways) lines))
    where
      by_fault : HasTree (carried (spot_of ways) lines) ⊎ ((number : ℕ) × (fault : StructFault) × IsFirstFault (carried (spot_of ways) lines) number fault) → FollowsFile ways lines s r
      by_fault (inl tree) =
          let h = (roles_decide (spot_of ways) lines).1 tree in
          Whole h.0 h.1 ((whole_same lines h.0 s h.1 r).0 runs)
      by_fault (inr (number, fault, first)) = runs_faulted lines s r number fault first runs

  pub file_same : (lines : List (CondLine A)) (s : S) (r : Result S F) → Runs ways [] lines s r ↔ FollowsFile ways lines s r
  file_same lines s r = (runs_file lines s r, file_runs lines s r)
