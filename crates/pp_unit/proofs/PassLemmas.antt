-- What a line comes to that leaves what was recorded as it is, or is to be followed further.
use Rattle.std.proofs.Common.{◌≡◌, ℕ, true, List, Option, Some, None, Result, Ok, Err, refl, sym, subst, ◌∙◌}
use Rattle.std.specs.Result.{IsErrAnd, IfErr}
use Rattle.pp_tokens.specs.declared.line.Line.{Line}
use Rattle.pp_directives.specs.declared.directive.Directive.{Directive}
use Rattle.pp_directives.specs.declared.directive.Directive.TheVariants.{Text, Null, If, Ifdef, Ifndef, Elif, Else, Endif, Include, Define, Undef, LineNumber, Error, Pragma, Unknown}
use Rattle.pp_directives.specs.declared.conditional.open_section.OpenSection.{OpenSection}
use Rattle.pp_directives.specs.Conditions.{is_active}
use Rattle.pp_directives.specs.Directives.{directive_of}
use Rattle.pp_unit.specs.declared.open_file.OpenFile.{OpenFile}
use Rattle.pp_unit.specs.declared.stop.Stop.{Stop}
use Rattle.pp_unit.specs.declared.fault.PpKind.{PpKind}
use Rattle.pp_unit.specs.Seen.{Seen}
use Rattle.pp_unit.specs.Files.{Stores}
use Rattle.pp_unit.specs.Stopping.{stopped, is_text, IsStoreStop, IsOwnStop, KeepsLog, IsFollowedFurther, Classified}
use Rattle.pp_unit.proofs.WalkLemmas.{LineSteps}
use Rattle.pp_unit.proofs.StepLemmas.{directed_steps}
use Rattle.pp_unit.proofs.CauseLemmas.{IsPlain, plain_stop}

-- a call hands on a stop
pub acting_stop_by : (open_file : OpenFile) (old new : List OpenSection) (here : Line) (seen : Seen) (r : Result (Option Directive) Stop) (stop : Stop) →
    IsErrAnd r (λ found. found ≡ stop) → KeepsLog open_file old here seen (Err stop) new → Classified open_file old here seen r new
acting_stop_by open_file old new here seen (Ok None) stop e h = absurd e
acting_stop_by open_file old new here seen (Ok (Some d)) stop e h = absurd e
acting_stop_by open_file old new here seen (Err found) stop e h = subst (λ (s : Stop). KeepsLog open_file old here seen (Err s) new) (sym e) h

-- whose reason is none of a store
pub own_stop_by : {A B : Type 0} (n : ℕ) (r : Result A PpKind) (stop : Stop) (q : Result B Stop) → ◌≡◌ {A = Result A Stop} (Err stop) (stopped n r) → IsPlain r → IsErrAnd q (λ found. found ≡ stop) → IfErr q IsOwnStop
own_stop_by n r stop (Ok x) is plain e = absurd e
own_stop_by n r stop (Err found) is plain e = λ h. plain_stop n r stop is plain (subst IsStoreStop e h)

text_is : (d : Directive) → is_text d ≡ true → Text ≡ d
text_is Text is = refl
text_is Null is = cc
text_is If is = cc
text_is (Ifdef name) is = cc
text_is (Ifndef name) is = cc
text_is Elif is = cc
text_is Else is = cc
text_is Endif is = cc
text_is Include is = cc
text_is Define is = cc
text_is (Undef name) is = cc
text_is LineNumber is = cc
text_is Error is = cc
text_is Pragma is = cc
text_is Unknown is = cc

-- a line of a taken group that is no directive
pub text_steps : (stores : Stores) (open_file : OpenFile) (pending : List OpenSection) (here : Line) (seen : Seen) (d : Directive) →
    d ≡ directive_of here.tokens → is_text d ≡ true → is_active pending ≡ true → LineSteps stores open_file pending here seen (Ok seen) pending
text_steps stores open_file pending here seen d is text active =
    directed_steps stores open_file pending here seen Text (Ok seen) (Ok seen) (text_is d text ∙ is) refl active refl refl refl

-- a line that is followed further
pub acting_steps : (stores : Stores) (open_file : OpenFile) (old new : List OpenSection) (here : Line) (seen : Seen) (d : Directive) (result : Result Seen Stop) → IsFollowedFurther old here d new →
    ((pending : List OpenSection) → is_active pending ≡ true → LineSteps stores open_file pending here seen result pending) → LineSteps stores open_file old here seen result new
acting_steps stores open_file old new here seen d result acts steps = subst (λ (p : List OpenSection). LineSteps stores open_file old here seen result p) (sym acts.same) (steps old acts.active)
