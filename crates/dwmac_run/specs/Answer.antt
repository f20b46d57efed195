-- What a run has to say, by its words and the files alone.
use Rattle.std.specs.Prelude.{◌≡◌, ℕ, nat_lt, List, [], length, Option, Some, None, Result, Ok, Err}
use Rattle.std.specs.Bool.{MatchBool}
use Rattle.mac_io.specs.Files.{Files, IsFileAt}
use Rattle.macro_query.specs.declared.fault.QueryFault.{QueryFault}
use Rattle.macro_query.specs.Limits.{within_limit}
use Rattle.macro_query.specs.Queries.{RawSays, UnitAtSays, DumpSays, InfoSays, ListSays, ExpandSays, OnceSays}
use Rattle.pp_unit.specs.Files.{Stores}
use Rattle.dwmac_run.specs.declared.refusal.Refusal.TheVariants.{NoSuchFile, FileTooLong, Query as BadQuery}
use Rattle.dwmac_run.specs.declared.request.Request.{Request}
use Rattle.dwmac_run.specs.declared.request.Request.TheVariants.{Query as Asks, Events, Record, Help, Version}
use Rattle.dwmac_run.specs.declared.request.Query.{Query}
use Rattle.dwmac_run.specs.declared.request.Query.TheVariants.{Raw, Unit as UnitAt, Dump, Info, List as ListAt, Expand, Once}
use Rattle.dwmac_run.specs.Command.{request_of}
use Rattle.dwmac_run.specs.Answers.{Answer, Prints, Refuses, Misuse}
use Rattle.dwmac_run.specs.Units.{UnitAnswer, AllTold}
use Rattle.dwmac_run.specs.Record.{RecordAnswer}
use Rattle.dwmac_run.specs.Help.{help_text, version_text}
use Rattle.dwmac_run.specs.Refusals.{refusal_line}

-- the most bytes that a file may have
abbrev pub most_bytes : ℕ
most_bytes = 1073741824

-- what there is to be said to a query about these bytes
abbrev pub QuerySays : Query → List ℕ → Result (List ℕ) QueryFault → Type 0
QuerySays Raw bytes said = RawSays bytes said
QuerySays (UnitAt offset) bytes said = UnitAtSays offset bytes said
QuerySays Dump bytes said = DumpSays bytes said
QuerySays (Info position name) bytes said = InfoSays position name bytes said
QuerySays (ListAt position) bytes said = ListSays position bytes said
QuerySays (Expand position text) bytes said = ExpandSays position text bytes said
QuerySays (Once position text) bytes said = OnceSays position text bytes said

-- What is said to a query about this file is a report, or a fault that is told by a line.
abbrev pub answer_by : List ℕ → Result (List ℕ) QueryFault → Answer
answer_by file (Ok text) = Prints [] text
answer_by file (Err fault) = Refuses (refusal_line (BadQuery file fault))

-- the answer to a query about this file, to which this is to be said
abbrev pub QueryAnswer : List ℕ → (Result (List ℕ) QueryFault → Type 0) → Answer → Type 0
QueryAnswer file Says answer = (said : Result (List ℕ) QueryFault) × Says said × (answer ≡ answer_by file (within_limit said))

-- the answer by the file of a name: there is none, it has too many bytes, or its bytes are read
abbrev pub FileAnswer : List ℕ → Option (List ℕ) → (List ℕ → Type 0) → Answer → Type 0
FileAnswer file None read answer = answer ≡ Refuses (refusal_line (NoSuchFile file))
FileAnswer file (Some bytes) read answer = MatchBool (nat_lt most_bytes (length bytes)) (answer ≡ Refuses (refusal_line (FileTooLong file))) (read bytes)

-- the answer to a query about the file of a name, to whose bytes this is to be said
abbrev pub AboutFile : Option Files → List ℕ → (List ℕ → Result (List ℕ) QueryFault → Type 0) → Answer → Type 0
AboutFile told file Says answer = (content : Option (List ℕ)) × IsFileAt told file content × FileAnswer file content (λ bytes. QueryAnswer file (Says bytes) answer) answer

-- the answer to a request, or to words that fit no command
abbrev pub AnswerTo : Option Request → Option Files → Stores → Answer → Type 0
AnswerTo None told stores answer = answer ≡ Misuse
AnswerTo (Some (Asks file query)) told stores answer = AboutFile told file (QuerySays query) answer
AnswerTo (Some (Events unit folders)) told stores answer = UnitAnswer stores unit answer
AnswerTo (Some (Record unit folders forms output)) told stores answer = RecordAnswer stores unit forms output answer
AnswerTo (Some Help) told stores answer = answer ≡ Prints [] help_text
AnswerTo (Some Version) told stores answer = answer ≡ Prints [] version_text

-- The answer to the words over the files that the shelf tells, and the stores of the path. Where one doesn't tell its files, it is the answer over some content.
abbrev pub IsAnswer : List (List ℕ) → Option Files → Stores → Answer → Type 0
IsAnswer words told stores answer = AnswerTo (request_of words) told stores answer

-- What a request reads tells its files: the shelf for a query, the stores of the path for a translation unit. The other requests read no file.
abbrev pub ReadsTold : Option Request → Option Files → Stores → Type 0
ReadsTold None told stores = Unit {0}
ReadsTold (Some (Asks file query)) told stores = (files : Files) × (told ≡ Some files)
ReadsTold (Some (Events unit folders)) told stores = AllTold stores
ReadsTold (Some (Record unit folders forms output)) told stores = AllTold stores
ReadsTold (Some Help) told stores = Unit {0}
ReadsTold (Some Version) told stores = Unit {0}

-- the same for what the words ask for
abbrev pub IsTold : List (List ℕ) → Option Files → Stores → Type 0
IsTold words told stores = ReadsTold (request_of words) told stores
