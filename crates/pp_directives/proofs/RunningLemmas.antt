-- One line more, before lines that are followed one after another: what a loop over the lines of a file needs.
use Rattle.std.proofs.Common.{◌≡◌, ℕ, Bool, true, false, List, [], ◌∷◌, Some, None, Result, Ok, Err, refl, sym, ap}
use Rattle.mac_base.proofs.Choices.{same_some}
use Rattle.pp_directives.specs.declared.fault.StructFault.{StructFault}
use Rattle.pp_directives.specs.declared.fault.StructFault.TheVariants.{OpenIf}
use Rattle.pp_directives.specs.declared.conditional.open_section.OpenSection.{OpenSection}
use Rattle.pp_directives.specs.Groups.{LineRole, OtherLine, IfLine, ElifLine, ElseLine, EndifLine, CondLine, line}
use Rattle.pp_directives.specs.Reached.{is_other}
use Rattle.pp_directives.specs.Conditions.{is_active, is_due, open_line, turned}
use Rattle.pp_directives.specs.Following.{Ways, Stops, Goes}
use Rattle.pp_directives.specs.Running.{RunState, Acts, Answers, after_turn, Turns, Steps, Runs}
use Rattle.pp_directives.proofs.IntoLemmas.{stand, spotted}

module _ {A S F : Type 0} (ways : Ways A S F) where
  taken : (active : Bool) (here : A) (s : S) (r : Result S F) → active ≡ true → ways.Does here s r → Acts ways active here s r
  taken true here s r is does = does
  taken false here s r is does = cc

  left : (active : Bool) (here : A) (s : S) → active ≡ false → Acts ways active here s (Ok (ways.passes here s))
  left true here s is = cc
  left false here s is = refl

  -- a line of a taken group, and the lines after it
  pub other_does : (here : A) (p : List OpenSection) (lines : List (CondLine A)) (s t : S) (r : Result S F) → is_active p ≡ true → ways.Does here s (Ok t) → Runs ways p lines t r →
      Runs ways p (line OtherLine here ∷ lines) s r
  other_does here p lines s t r is does more = Goes {s = stand ways p t} (Goes {s = t} (taken (is_active p) here s (Ok t) is does) refl) more

  pub other_fails : (here : A) (p : List OpenSection) (lines : List (CondLine A)) (s : S) (fault : F) → is_active p ≡ true → ways.Does here s (Err fault) →
      Runs ways p (line OtherLine here ∷ lines) s (Err fault)
  other_fails here p lines s fault is does = Stops (Stops (taken (is_active p) here s (Err fault) is does))

  -- a line of a group that is not taken
  pub other_passed : (here : A) (p : List OpenSection) (lines : List (CondLine A)) (s : S) (r : Result S F) → is_active p ≡ false → Runs ways p lines (ways.passes here s) r →
      Runs ways p (line OtherLine here ∷ lines) s r
  other_passed here p lines s r is more =
      Goes {s = stand ways p (ways.passes here s)} (Goes {s = ways.passes here s} (left (is_active p) here s is) refl) more

  asked : (due : Bool) (here : A) (s : S) (r : Result Bool F) → due ≡ true → ways.Asks here s r → Answers ways due here s r
  asked true here s r is asks = asks
  asked false here s r is asks = cc

  unasked : (due : Bool) (here : A) (s : S) → due ≡ false → Answers ways due here s (Ok false)
  unasked true here s is = cc
  unasked false here s is = refl

  -- the answer to a condition that decides a group, and to another
  pub answer_due : (role : LineRole) (here : A) (p : List OpenSection) (s : S) (answer : Bool) → is_due role p ≡ true → ways.Asks here s (Ok answer) → Answers ways (is_due role p) here s (Ok answer)
  answer_due role here p s answer is asks = asked (is_due role p) here s (Ok answer) is asks

  pub answer_not_due : (role : LineRole) (here : A) (p : List OpenSection) (s : S) → is_due role p ≡ false → Answers ways (is_due role p) here s (Ok false)
  answer_not_due role here p s is = unasked (is_due role p) here s is

  -- a conditional directive is stepped over by what it turns
  steps_turn : (role : LineRole) (here : A) (at : RunState S) (r : Result (RunState S) F) → is_other role ≡ false → Turns ways role here at r → Steps ways role here at r
  steps_turn OtherLine here at r is t = cc
  steps_turn IfLine here at r is t = t
  steps_turn ElifLine here at r is t = t
  steps_turn ElseLine here at r is t = t
  steps_turn EndifLine here at r is t = t

  due_is_no_other : (role : LineRole) (p : List OpenSection) → is_due role p ≡ true → is_other role ≡ false
  due_is_no_other OtherLine p is = cc
  due_is_no_other IfLine p is = refl
  due_is_no_other ElifLine p is = refl
  due_is_no_other ElseLine p is = refl
  due_is_no_other EndifLine p is = refl

  -- a condition that fails ends all
  pub condition_fails : (role : LineRole) (here : A) (p : List OpenSection) (lines : List (CondLine A)) (s : S) (fault : F) → is_due role p ≡ true → ways.Asks here s (Err fault) →
      Runs ways p (line role here ∷ lines) s (Err fault)
  condition_fails role here p lines s fault is asks =
      Stops (steps_turn role here (stand ways p s) (Err fault) (due_is_no_other role p is) (Stops (asked (is_due role p) here s (Err fault) is asks)))

  -- a conditional directive that is turned, and the lines after it
  pub line_turned : (role : LineRole) (here : A) (p q : List OpenSection) (lines : List (CondLine A)) (s : S) (answer : Bool) (r : Result S F) → is_other role ≡ false →
      Answers ways (is_due role p) here s (Ok answer) → turned p (line role (spotted ways here answer)) ≡ Ok q → Runs ways q lines (ways.passes here s) r →
      Runs ways p (line role here ∷ lines) s r
  line_turned role here p q lines s answer r other given turns more =
      Goes {s = stand ways q (ways.passes here s)}
      (steps_turn role here (stand ways p s) (Ok (stand ways q (ways.passes here s))) other
      (Goes {s = answer} given (sym (ap (after_turn ways here s) turns)))) more

  -- a conditional directive that breaks the structure
  pub line_refused : (role : LineRole) (here : A) (p : List OpenSection) (lines : List (CondLine A)) (s : S) (answer : Bool) (fault : StructFault) → is_other role ≡ false →
      Answers ways (is_due role p) here s (Ok answer) → turned p (line role (spotted ways here answer)) ≡ Err fault →
      Runs ways p (line role here ∷ lines) s (Err (ways.breaks fault (ways.spot here)))
  line_refused role here p lines s answer fault other given turns =
      Stops
      (steps_turn role here (stand ways p s) (Err (ways.breaks fault (ways.spot here))) other
      (Goes {s = answer} given (sym (ap (after_turn ways here s) turns))))

  -- the end, where nothing is open
  pub runs_closed : (p : List OpenSection) (s : S) → open_line p ≡ None → Runs ways p [] s (Ok s)
  runs_closed [] s is = refl
  runs_closed (o ∷ p) s is = cc

  -- the end, where a section is open
  pub runs_open : (p : List OpenSection) (s : S) (number : ℕ) → open_line p ≡ Some number → Runs ways p [] s (Err (ways.breaks OpenIf number))
  runs_open [] s number is = cc
  runs_open (o ∷ p) s number is = ap (λ n. Err (ways.breaks OpenIf n)) (sym (same_some o.line number is))
