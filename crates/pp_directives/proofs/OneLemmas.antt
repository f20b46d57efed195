-- Lines one after another come to one thing, where each line and each condition does.
use Rattle.std.proofs.Common.{◌≡◌, Bool, true, false, List, [], ◌∷◌, Result, Ok, Err, refl, sym, ap, ◌∙◌, subst}
use Rattle.mac_base.proofs.Choices.{same_ok}
use Rattle.pp_directives.specs.declared.conditional.open_section.OpenSection.{OpenSection}
use Rattle.pp_directives.specs.Groups.{LineRole, OtherLine, IfLine, ElifLine, ElseLine, EndifLine, CondLine}
use Rattle.pp_directives.specs.Conditions.{is_active, is_due, turned_by}
use Rattle.pp_directives.specs.Following.{Ways, Then, Stops, Goes, FollowsFile}
use Rattle.pp_directives.specs.Running.{RunState, Acts, Answers, after_turn, Turns, Steps, ended, Runs}
use Rattle.pp_directives.specs.FollowingLaws.{HasOneAtMost, HasOne, LinesRunAsTheirTree}
use Rattle.pp_directives.proofs.ThenLemmas.{same_err}
use Rattle.pp_directives.proofs.IntoLemmas.{stand, spotted}
use Rattle.pp_directives.proofs.FileLemmas.{file_same}

-- at most one result, and one
abbrev AtMostOne : {R : Type 0} → (R → Type 0) → Type 0
AtMostOne {R} P = (r q : R) → P r → P q → r ≡ q

abbrev Some : {R : Type 0} → (R → Type 0) → Type 0
Some {R} P = (r : R) × P r

module _ {S T F : Type 0} where
  then_one : (P : Result S F → Type 0) (N : S → Result T F → Type 0) → AtMostOne P → ((s : S) → AtMostOne (N s)) → AtMostOne (Then P N)
  then_one P N one more _ _ (Stops {fault = f} a) (Stops {fault = e} b) = ap (λ x. Err x) (same_err {A = S} f e (one (Err f) (Err e) a b))
  then_one P N one more _ _ (Stops {fault = f} a) (Goes {s = s} b n) = let e : ◌≡◌ {A = Result S F} (Err f) (Ok s) = one (Err f) (Ok s) a b in cc
  then_one P N one more _ _ (Goes {s = s} a n) (Stops {fault = f} b) = let e : ◌≡◌ {A = Result S F} (Ok s) (Err f) = one (Ok s) (Err f) a b in cc
  then_one P N one more _ _ (Goes {s = s} {r = r} a n) (Goes {s = t} {r = q} b m) =
      more t r q (subst (λ x. N x r) (same_ok {E = F} s t (one (Ok s) (Ok t) a b)) n) m

  some_next : (P : Result S F → Type 0) (N : S → Result T F → Type 0) (r : Result S F) → P r → ((s : S) → Some (N s)) → Some (Then P N)
  some_next P N (Ok s) p more = let n = more s in (n.0, Goes p n.1)
  some_next P N (Err f) p more = (Err f, Stops p)

  then_some : (P : Result S F → Type 0) (N : S → Result T F → Type 0) → Some P → ((s : S) → Some (N s)) → Some (Then P N)
  then_some P N some more = some_next P N some.0 some.1 more

equal_one : {R : Type 0} (x : R) → AtMostOne (λ r. r ≡ x)
equal_one x r q a b = a ∙ sym b

module _ {A S F : Type 0} (ways : Ways A S F) where
  module _ (does : HasOneAtMost ways.Does) (asks : HasOneAtMost ways.Asks) where
    acts_one : (active : Bool) (here : A) (s : S) → AtMostOne (Acts ways active here s)
    acts_one true here s = does here s
    acts_one false here s = equal_one (Ok (ways.passes here s))

    answers_one : (due : Bool) (here : A) (s : S) → AtMostOne (Answers ways due here s)
    answers_one true here s = asks here s
    answers_one false here s = equal_one (Ok false)

    turns_one : (role : LineRole) (here : A) (at : RunState S) → AtMostOne (Turns ways role here at)
    turns_one role here at =
        then_one (Answers ways (is_due role at.pending) here at.state) (λ answer r. r ≡ after_turn ways here at.state (turned_by role (spotted ways here answer) at.pending))
        (answers_one (is_due role at.pending) here at.state) (λ answer. equal_one (after_turn ways here at.state (turned_by role (spotted ways here answer) at.pending)))

    steps_one : (role : LineRole) (here : A) (at : RunState S) → AtMostOne (Steps ways role here at)
    steps_one OtherLine here at =
        then_one (Acts ways (is_active at.pending) here at.state) (λ t q. q ≡ Ok (stand ways at.pending t)) (acts_one (is_active at.pending) here at.state) (λ t. equal_one (Ok (stand ways at.pending t)))
    steps_one IfLine here at = turns_one IfLine here at
    steps_one ElifLine here at = turns_one ElifLine here at
    steps_one ElseLine here at = turns_one ElseLine here at
    steps_one EndifLine here at = turns_one EndifLine here at

    runs_one : (lines : List (CondLine A)) (p : List OpenSection) (s : S) → AtMostOne (Runs ways p lines s)
    runs_one [] p s = equal_one (ended ways p s)
    runs_one (here ∷ lines) p s =
        then_one (Steps ways here.role here.item (stand ways p s)) (λ at. Runs ways at.pending lines at.state) (steps_one here.role here.item (stand ways p s)) (λ at. runs_one lines at.pending at.state)

    file_one : HasOneAtMost (FollowsFile ways)
    file_one lines s r q f g = runs_one lines [] s r q ((file_same ways lines s r).1 f) ((file_same ways lines s q).1 g)

  module _ (does : HasOne ways.Does) (asks : HasOne ways.Asks) where
    acts_some : (active : Bool) (here : A) (s : S) → Some (Acts ways active here s)
    acts_some true here s = does here s
    acts_some false here s = (Ok (ways.passes here s), refl)

    answers_some : (due : Bool) (here : A) (s : S) → Some (Answers ways due here s)
    answers_some true here s = asks here s
    answers_some false here s = (Ok false, refl)

    turns_some : (role : LineRole) (here : A) (at : RunState S) → Some (Turns ways role here at)
    turns_some role here at =
        then_some (Answers ways (is_due role at.pending) here at.state) (λ answer r. r ≡ after_turn ways here at.state (turned_by role (spotted ways here answer) at.pending))
        (answers_some (is_due role at.pending) here at.state) (λ answer. (after_turn ways here at.state (turned_by role (spotted ways here answer) at.pending), refl))

    steps_some : (role : LineRole) (here : A) (at : RunState S) → Some (Steps ways role here at)
    steps_some OtherLine here at =
        then_some (Acts ways (is_active at.pending) here at.state) (λ t q. q ≡ Ok (stand ways at.pending t)) (acts_some (is_active at.pending) here at.state) (λ t. (Ok (stand ways at.pending t), refl))
    steps_some IfLine here at = turns_some IfLine here at
    steps_some ElifLine here at = turns_some ElifLine here at
    steps_some ElseLine here at = turns_some ElseLine here at
    steps_some EndifLine here at = turns_some EndifLine here at

    runs_some : (lines : List (CondLine A)) (p : List OpenSection) (s : S) → Some (Runs ways p lines s)
    runs_some [] p s = (ended ways p s, refl)
    runs_some (here ∷ lines) p s =
        then_some (Steps ways here.role here.item (stand ways p s)) (λ at. Runs ways at.pending lines at.state) (steps_some here.role here.item (stand ways p s)) (λ at. runs_some lines at.pending at.state)

    file_some : HasOne (FollowsFile ways)
    file_some lines s = let r = runs_some lines [] s in (r.0, (file_same ways lines s r.0).0 r.1)

  pub lines_run : LinesRunAsTheirTree ways
  lines_run = record { same = file_same ways; one = file_one; some = file_some }
