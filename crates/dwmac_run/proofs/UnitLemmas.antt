-- A unit has an answer over any stores, and over those that tell their files no other.
use Rattle.std.proofs.Common.{◌≡◌, ◌<◌, length, Result, Ok, Err, refl, subst, ◌∙◌, sym}
use Rattle.pp_unit.specs.declared.request.UnitSpec.{UnitSpec}
use Rattle.pp_unit.specs.declared.fault.PpFault.{PpFault}
use Rattle.pp_unit.specs.declared.fault.PpKind.{PpKind}
use Rattle.pp_unit.specs.declared.fault.PpKind.TheVariants.{Lex, Def, Predefined, Redefined, Directive, Expr, Expand, Struct, NoSuchFile, BadInclude, IncludeDepth, ErrorDirective, BadLine, SourceTooLong, TooManyEvents, TooMuchText, StoreFault, NoMemory}
use Rattle.pp_unit.specs.Seen.{Seen, Marked}
use Rattle.pp_unit.specs.Files.{Stores}
use Rattle.pp_unit.specs.WalkLaws.{IsOnFiles, IsPlain, IsPlainAnswer}
use Rattle.pp_unit.proofs.OneWalkLemmas.{walk_one_answer}
use Rattle.pp_unit.proofs.SomeWalkLemmas.{walk_some_answer}
use Rattle.dwmac_run.specs.Answers.{Answer, Refuses}
use Rattle.dwmac_run.specs.declared.refusal.Refusal.TheVariants.{TranslationUnit}
use Rattle.dwmac_run.specs.Refusals.{refusal_line}
use Rattle.dwmac_run.specs.Units.{AllTold, FaultSays, WalkSays, UnitSays}

no_store : (kind : PpKind) (fault : PpFault) (answer : Answer) → FaultSays kind fault answer → kind ≡ StoreFault → ⊥
no_store kind fault answer says is = subst (λ (k : PpKind). FaultSays k fault answer) is says

-- what is said of a walk is said of its files
on_files : (told : Seen → Answer) (result : Result Marked PpFault) (answer : Answer) → WalkSays told result answer → IsOnFiles result
on_files told (Ok m) answer says = tt
on_files told (Err fault) answer says = no_store fault.what fault answer says

-- a fault is one line
pub line_said : (kind : PpKind) (fault : PpFault) (answer : Answer) → FaultSays kind fault answer → answer ≡ Refuses (refusal_line (TranslationUnit fault))
line_said (Lex f) fault answer says = says
line_said (Def f) fault answer says = says
line_said (Predefined name) fault answer says = says
line_said (Redefined name) fault answer says = says
line_said (Directive f) fault answer says = says
line_said (Expr f) fault answer says = says
line_said (Expand f) fault answer says = says
line_said (Struct f) fault answer says = says
line_said (NoSuchFile name) fault answer says = says
line_said BadInclude fault answer says = says
line_said IncludeDepth fault answer says = says
line_said ErrorDirective fault answer says = says
line_said BadLine fault answer says = says
line_said (SourceTooLong name) fault answer says = says
line_said TooManyEvents fault answer says = says
line_said TooMuchText fault answer says = says
line_said StoreFault fault answer says = absurd says
line_said NoMemory fault answer says = absurd says

one_said : (told : Seen → Answer) (result : Result Marked PpFault) (a b : Answer) → WalkSays told result a → WalkSays told result b → a ≡ b
one_said told (Ok m) a b is also = is ∙ sym also
one_said told (Err fault) a b is also = line_said fault.what fault a is ∙ sym (line_said fault.what fault b also)

-- over told stores a unit has at most one answer
pub unit_once : (told : Seen → Answer) (stores : Stores) (unit : UnitSpec) → 0 < length stores → AllTold stores → (a b : Answer) → UnitSays told stores unit a → UnitSays told stores unit b → a ≡ b
unit_once told stores unit some tells a b is also =
    let law = walk_one_answer stores unit (record { some = some; told = tells }) in
    let same = law.at_most is.0 also.0 (on_files told is.0 a is.2) (on_files told also.0 b also.2) is.1 also.1 in
    one_said told also.0 a b (subst (λ (r : Result Marked PpFault). WalkSays told r a) same is.2) also.2

-- a fault that is no failure and no want of memory has its line
has_line : (kind : PpKind) (fault : PpFault) → (kind ≡ StoreFault → ⊥) → IsPlain kind → FaultSays kind fault (Refuses (refusal_line (TranslationUnit fault)))
has_line (Lex f) fault works plain = refl
has_line (Def f) fault works plain = refl
has_line (Predefined name) fault works plain = refl
has_line (Redefined name) fault works plain = refl
has_line (Directive f) fault works plain = refl
has_line (Expr f) fault works plain = refl
has_line (Expand f) fault works plain = refl
has_line (Struct f) fault works plain = refl
has_line (NoSuchFile name) fault works plain = refl
has_line BadInclude fault works plain = refl
has_line IncludeDepth fault works plain = refl
has_line ErrorDirective fault works plain = refl
has_line BadLine fault works plain = refl
has_line (SourceTooLong name) fault works plain = refl
has_line TooManyEvents fault works plain = refl
has_line TooMuchText fault works plain = refl
has_line StoreFault fault works plain = absurd (works refl)
has_line NoMemory fault works plain = absurd plain

some_said : (told : Seen → Answer) (result : Result Marked PpFault) → IsOnFiles result → IsPlainAnswer result → (answer : Answer) × WalkSays told result answer
some_said told (Ok m) works plain = (told m.seen, refl)
some_said told (Err fault) works plain = (Refuses (refusal_line (TranslationUnit fault)), has_line fault.what fault works plain)

-- over any stores a unit has an answer
pub unit_some : (told : Seen → Answer) (stores : Stores) (unit : UnitSpec) → 0 < length stores → (answer : Answer) × UnitSays told stores unit answer
unit_some told stores unit some =
    let found = walk_some_answer stores unit some in
    let said = some_said told found.answer found.on_files found.plain in
    (said.0, (found.answer, found.holds, said.1))
