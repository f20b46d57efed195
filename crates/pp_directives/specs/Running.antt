-- How a file is followed line by line, with what is pending (C17 6.10.1 p6).
use Rattle.std.specs.Prelude.{◌≡◌, Bool, true, false, List, [], ◌∷◌, Result, Ok, Err}
use Rattle.pp_directives.specs.declared.fault.StructFault.{StructFault}
use Rattle.pp_directives.specs.declared.fault.StructFault.TheVariants.{OpenIf}
use Rattle.pp_directives.specs.declared.conditional.open_section.OpenSection.{OpenSection}
use Rattle.pp_directives.specs.Groups.{LineRole, OtherLine, IfLine, ElifLine, ElseLine, EndifLine, CondLine}
use Rattle.pp_directives.specs.Conditions.{is_active, is_due, turned_by}
use Rattle.pp_directives.specs.Following.{Ways, Then}

-- the sections that are pending before a line, and the state there
pub record RunState (S : Type 0) : Type 0 where
  pub pending : List OpenSection
  pub state : S

module _ {A S F : Type 0} (ways : Ways A S F) where
  -- a line that is no conditional directive: in a taken group it does what it does, else it is passed
  abbrev pub Acts : (active : Bool) → A → S → Result S F → Type 0
  Acts true here s r = ways.Does here s r
  Acts false here s r = r ≡ Ok (ways.passes here s)

  -- the answer to a condition, which is asked where it decides a group
  abbrev pub Answers : (due : Bool) → A → S → Result Bool F → Type 0
  Answers true here s r = ways.Asks here s r
  Answers false here s r = r ≡ Ok false

  -- after a conditional directive, which was turned or rejected
  abbrev pub after_turn : A → S → Result (List OpenSection) StructFault → Result (RunState S) F
  after_turn here s (Ok pending) = Ok (record { pending = pending; state = ways.passes here s })
  after_turn here s (Err fault) = Err (ways.breaks fault (ways.spot here))

  -- a conditional directive is asked where that is due, then it is turned with the answer
  abbrev pub Turns : LineRole → A → RunState S → Result (RunState S) F → Type 0
  Turns role here at =
      Then (Answers (is_due role at.pending) here at.state)
      (λ answer r. r ≡ after_turn here at.state (turned_by role (record { number = ways.spot here; answer = answer }) at.pending))

  -- one line of this role
  abbrev pub Steps : LineRole → A → RunState S → Result (RunState S) F → Type 0
  Steps OtherLine here at r = Then (Acts (is_active at.pending) here at.state) (λ t q. q ≡ Ok (record { pending = at.pending; state = t })) r
  Steps IfLine here at r = Turns IfLine here at r
  Steps ElifLine here at r = Turns ElifLine here at r
  Steps ElseLine here at r = Turns ElseLine here at r
  Steps EndifLine here at r = Turns EndifLine here at r

  -- the end of the lines, where nothing may be pending
  abbrev pub ended : List OpenSection → S → Result S F
  ended [] s = Ok s
  ended (innermost ∷ others) s = Err (ways.breaks OpenIf innermost.line)

  -- the lines one after another
  abbrev pub Runs : List OpenSection → List (CondLine A) → S → Result S F → Type 0
  Runs pending [] s r = r ≡ ended pending s
  Runs pending (here ∷ lines) s r = Then (Steps here.role here.item (record { pending = pending; state = s })) (λ at. Runs at.pending lines at.state) r
