-- Lines that may come to more: a file of them comes to all that it came to.
use Rattle.std.proofs.Common.{◌≡◌, Bool, true, false, List, [], ◌∷◌, Result, Ok, Err}
use Rattle.pp_directives.specs.declared.conditional.open_section.OpenSection.{OpenSection}
use Rattle.pp_directives.specs.Groups.{LineRole, OtherLine, IfLine, ElifLine, ElseLine, EndifLine, CondLine}
use Rattle.pp_directives.specs.Conditions.{is_active}
use Rattle.pp_directives.specs.Following.{Ways, Then, Stops, Goes, Chosen, FollowsFile}
use Rattle.pp_directives.specs.Running.{RunState, Acts, Steps, Runs}
use Rattle.pp_directives.proofs.OneLemmas.{lines_run}

-- more may come first, and more after it
pub then_more : {S T F : Type 0} (P Q : Result S F → Type 0) (N M : S → Result T F → Type 0) → ((r : Result S F) → P r → Q r) →
    ((s : S) (r : Result T F) → N s r → M s r) → (r : Result T F) → Then P N r → Then Q M r
then_more P Q N M first next _ (Stops {fault = f} stop) = Stops (first (Err f) stop)
then_more P Q N M first next _ (Goes {s = s} {r = r} go after) = Goes (first (Ok s) go) (next s r after)

-- the one, or more of the other
pub chosen_more : {R : Type 0} (Taken Left More : R → Type 0) → ((r : R) → Left r → More r) → (t : Bool) (r : R) → Chosen Taken Left t r → Chosen Taken More t r
chosen_more Taken Left More more true r chosen = chosen
chosen_more Taken Left More more false r chosen = more r chosen

-- lines in these ways, of which each may do more
module _ {A S F : Type 0} (ways : Ways A S F) (Does : A → S → Result S F → Type 0) (more : (here : A) (s : S) (r : Result S F) → ways.Does here s r → Does here s r) where
  abbrev pub wider : Ways A S F
  wider = record ways { Does = Does }

  acts_more : (active : Bool) (here : A) (s : S) (r : Result S F) → Acts ways active here s r → Acts wider active here s r
  acts_more true here s r acts = more here s r acts
  acts_more false here s r acts = acts

  steps_more : (role : LineRole) (here : A) (at : RunState S) (r : Result (RunState S) F) → Steps ways role here at r → Steps wider role here at r
  steps_more OtherLine here at r steps =
      then_more (Acts ways (is_active at.pending) here at.state) (Acts wider (is_active at.pending) here at.state)
      (λ t q. q ≡ Ok (record { pending = at.pending; state = t })) (λ t q. q ≡ Ok (record { pending = at.pending; state = t }))
      (acts_more (is_active at.pending) here at.state) (λ t q is. is) r steps
  steps_more IfLine here at r steps = steps
  steps_more ElifLine here at r steps = steps
  steps_more ElseLine here at r steps = steps
  steps_more EndifLine here at r steps = steps

  runs_more : (lines : List (CondLine A)) (p : List OpenSection) (s : S) (r : Result S F) → Runs ways p lines s r → Runs wider p lines s r
  runs_more [] p s r runs = runs
  runs_more (here ∷ lines) p s r runs =
      let at : RunState S = record { pending = p; state = s } in
      then_more (Steps ways here.role here.item at) (Steps wider here.role here.item at)
      (λ next. Runs ways next.pending lines next.state) (λ next. Runs wider next.pending lines next.state)
      (steps_more here.role here.item at) (λ next. runs_more lines next.pending next.state) r runs

  -- a file comes to all that it came to
  pub file_more : (lines : List (CondLine A)) (s : S) (r : Result S F) → FollowsFile ways lines s r → FollowsFile wider lines s r
  file_more lines s r follows = ((lines_run wider).same lines s r).0 (runs_more lines [] s r (((lines_run ways).same lines s r).1 follows))
