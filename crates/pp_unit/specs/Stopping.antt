-- Cited only by contracts of private functions. How the code hands on the fault with which a file stops, and what a call answers that began with marks.
use Rattle.std.specs.Prelude.{◌≡◌, ◌⊎◌, ℕ, ◌+◌, Bool, true, false, not, List, ◌∷◌, length, Option, Some, None, Result, Ok, Err}
use Rattle.pp_tokens.specs.Cut.{LexesFile}
use Rattle.pp_tokens.specs.Laws.{IsAnswer}
use Rattle.pp_tokens.specs.declared.line.Line.{Line}
use Rattle.pp_tokens.specs.declared.fault.LexFault.{LexFault}
use Rattle.pp_directives.specs.declared.directive.Directive.{Directive}
use Rattle.pp_directives.specs.declared.fault.StructFault.{StructFault}
use Rattle.pp_directives.specs.Groups.{CondLine, line, role_of}
use Rattle.pp_directives.specs.Conditions.{is_active, is_due, turned}
use Rattle.pp_directives.specs.Reached.{is_other}
use Rattle.pp_directives.specs.Following.{Ways}
use Rattle.pp_directives.specs.Running.{Runs}
use Rattle.pp_directives.specs.Directives.{directive_of}
use Rattle.mac_io.specs.declared.headers.FileId.{FileId}
use Rattle.mac_io.specs.declared.headers.Located.{Located}
use Rattle.mac_io.specs.declared.headers.Located.TheVariants.{Found, Absent, TooLong, Failed}
use Rattle.mac_io.specs.declared.headers.Located.TheVariants.{NoMemory as SearchRanOut}
use Rattle.pp_directives.specs.declared.directive.Directive.TheVariants.{Include, Text}
use Rattle.pp_directives.specs.declared.conditional.open_section.OpenSection.{OpenSection}
use Rattle.pp_unit.specs.declared.open_file.OpenFile.{OpenFile}
use Rattle.pp_unit.specs.declared.stop.Stop.{Stop}
use Rattle.pp_unit.specs.declared.stop.Stop.TheVariants.{Here, Inside}
use Rattle.pp_unit.specs.declared.fault.PpFault.{PpFault}
use Rattle.pp_unit.specs.declared.fault.PpKind.{PpKind}
use Rattle.pp_unit.specs.declared.fault.PpKind.TheVariants.{Lex, Struct, NoSuchFile, SourceTooLong, NoMemory, StoreFault}
use Rattle.pp_unit.specs.Kinds.{fault_at, ran_out}
use Rattle.pp_unit.specs.Seen.{Seen, Mark, Marked}
use Rattle.pp_unit.specs.LineConditions.{AnswersBy}
use Rattle.pp_unit.specs.Files.{Stores, Walks, ways, fault_line}
use Rattle.pp_unit.specs.Walk.{open_limit}

-- an answer, with a fault in this line
abbrev pub stopped : {A : Type 0} → ℕ → Result A PpKind → Result A Stop
stopped line (Ok x) = Ok x
stopped line (Err kind) = Err (Here line kind)

-- a fault in a line; want of memory has no place
abbrev pub refused : OpenFile → ℕ → PpKind → PpFault
refused open_file line NoMemory = ran_out
refused open_file line kind = fault_at open_file line kind

-- the fault with which a file stops
abbrev pub stop_answer : OpenFile → Stop → PpFault
stop_answer open_file (Here line kind) = refused open_file line kind
stop_answer open_file (Inside fault) = fault

-- that memory ran out
abbrev pub IsOut : Stop → Type 0
IsOut (Here line kind) = kind ≡ NoMemory
IsOut (Inside fault) = fault ≡ ran_out

-- the fault that a stop is by the rules
abbrev pub stop_fault : OpenFile → Stop → PpFault
stop_fault open_file (Here line kind) = fault_at open_file line kind
stop_fault open_file (Inside fault) = fault

-- what was recorded, with these marks
abbrev pub with_marks : Seen → List Mark → Marked
with_marks seen marks = record { seen = seen; marks = marks }

-- a call answers what the rules say, with some marks more, or that memory ran out
abbrev pub FileComesTo : (Result Marked PpFault → Type 0) → Result Seen PpFault → Type 0
FileComesTo Rules (Ok seen) = (marks : List Mark) × Rules (Ok (with_marks seen marks))
FileComesTo Rules (Err fault) = (fault ≡ ran_out) ⊎ Rules (Err fault)

-- the same of a part of a file
abbrev pub StopComesTo : OpenFile → (Result Marked PpFault → Type 0) → Result Seen Stop → Type 0
StopComesTo open_file Rules (Ok seen) = (marks : List Mark) × Rules (Ok (with_marks seen marks))
StopComesTo open_file Rules (Err stop) = IsOut stop ⊎ Rules (Err (stop_fault open_file stop))

-- the same of a line, before any others: whatever these come to after it, all come to
abbrev pub LineRuns : Ways Line Marked PpFault → OpenFile → List OpenSection → Line → Marked → Result Seen Stop → List OpenSection → Type 0
LineRuns rules open_file old here m (Ok seen) new =
    (marks : List Mark) × ((rest : List (CondLine Line)) (r : Result Marked PpFault) → Runs rules new rest (with_marks seen marks) r →
    Runs rules old (line (role_of (directive_of here.tokens)) here ∷ rest) m r)
LineRuns rules open_file old here m (Err stop) new =
    IsOut stop ⊎ ((rest : List (CondLine Line)) → Runs rules old (line (role_of (directive_of here.tokens)) here ∷ rest) m (Err (stop_fault open_file stop)))

-- so many files may still be opened in this one
abbrev pub HasLeft : ℕ → OpenFile → Type 0
HasLeft left open_file = left + length open_file.frames ≡ open_limit

-- a stop since a store failed
abbrev pub IsStoreStop : Stop → Type 0
IsStoreStop (Here line kind) = kind ≡ StoreFault
IsStoreStop (Inside fault) = fault.what ≡ StoreFault

-- a stop for another reason
abbrev pub IsOwnStop : Stop → Type 0
IsOwnStop stop = IsStoreStop stop → ⊥

-- a file stops since a store failed
abbrev pub StopFailed : {A : Type 0} → Result A Stop → Type 0
StopFailed (Ok x) = ⊥
StopFailed (Err stop) = IsStoreStop stop

-- the walk of a file ends since a store failed
abbrev pub FileFailed : {A : Type 0} → Result A PpFault → Type 0
FileFailed (Ok x) = ⊥
FileFailed (Err fault) = fault.what ≡ StoreFault

-- why a file has no tokens, and the line of its fault
abbrev pub IsUnlexed : List ℕ → ℕ → PpKind → Type 0
IsUnlexed bytes line kind = (fault : LexFault) × LexesFile bytes (Err fault) × IsAnswer {A = List Line} (Err fault) × (line ≡ fault_line fault) × (kind ≡ Lex fault)

-- the answer to a condition, which is asked where it decides a group
abbrev pub Given : (due : Bool) → (Result Bool PpKind → Type 0) → Result Bool PpKind → Type 0
Given true Asks answer = Asks answer
Given false Asks answer = answer ≡ Ok false

-- how a conditional directive with this answer turns what is pending
abbrev pub turned_by_answer : Line → Directive → List OpenSection → Bool → Result (List OpenSection) StructFault
turned_by_answer here directive pending answer = turned pending (line (role_of directive) (record { number = here.number; answer = answer }))

-- Turned open_file here seen directive old new answer: the condition of a line is asked where that is due, and the line turns what is pending, or there is a fault
abbrev pub Turned : OpenFile → Line → Seen → Directive → List OpenSection → List OpenSection → Result (Unit {0}) PpKind → Type 0
Turned open_file here seen directive old new (Ok x) =
    (answer : Bool) × Given (is_due (role_of directive) old) (AnswersBy open_file here seen directive) (Ok answer) × (turned_by_answer here directive old answer ≡ Ok new)
Turned open_file here seen directive old new (Err kind) =
    (kind ≡ NoMemory) ⊎ (Given (is_due (role_of directive) old) (AnswersBy open_file here seen directive) (Err kind)
    ⊎ ((answer : Bool) × Given (is_due (role_of directive) old) (AnswersBy open_file here seen directive) (Ok answer)
    × (fault : StructFault) × (kind ≡ Struct fault) × (turned_by_answer here directive old answer ≡ Err fault)))

-- an inclusion
abbrev pub is_include : Directive → Bool
is_include Include = true
is_include _ = false

-- plain text
abbrev pub is_text : Directive → Bool
is_text Text = true
is_text _ = false

-- a line leaves what was recorded as it is, or stops, over any stores
abbrev pub KeepsLog : OpenFile → List OpenSection → Line → Seen → Result Seen Stop → List OpenSection → Type 0
KeepsLog open_file old here seen result new =
    (stores : Stores) (left : ℕ) (marks : List Mark) → HasLeft left open_file → LineRuns (ways stores left (Walks stores left) open_file) open_file old here (with_marks seen marks) result new

-- a line of a taken group that is no conditional directive, and has turned nothing
pub record IsFollowedFurther (old : List OpenSection) (here : Line) (directive : Directive) (new : List OpenSection) : Type 0 where
  pub known : directive ≡ directive_of here.tokens
  pub other : not (is_other (role_of directive)) ≡ false
  pub active : is_active old ≡ true
  pub same : new ≡ old

-- Classified within old here seen result new: the line leaves what was recorded as it is, or is to be followed further by its directive
abbrev pub Classified : OpenFile → List OpenSection → Line → Seen → Result (Option Directive) Stop → List OpenSection → Type 0
Classified open_file old here seen (Ok None) new = KeepsLog open_file old here seen (Ok seen) new
Classified open_file old here seen (Ok (Some directive)) new = IsFollowedFurther old here directive new
Classified open_file old here seen (Err stop) new = KeepsLog open_file old here seen (Err stop) new

-- the file that a search found, or the kind of fault with which there is none
abbrev pub IsFoundIn : Located → List ℕ → Result FileId PpKind → Type 0
IsFoundIn (Found id) name result = result ≡ Ok id
IsFoundIn Absent name result = result ≡ Err (NoSuchFile name)
IsFoundIn TooLong name result = result ≡ Err (SourceTooLong name)
IsFoundIn Failed name result = result ≡ Err StoreFault
IsFoundIn SearchRanOut name result = result ≡ Err NoMemory
