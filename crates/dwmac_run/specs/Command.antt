-- What the words of a command line ask for.
use Rattle.std.specs.Prelude.{ℕ, nat_le, if◌then◌else◌, List, [], ◌∷◌, length, Option, Some, None}
use Rattle.std.specs.Option.{option_map}
use Rattle.position_table.specs.declared.position.Position.{Position}
use Rattle.pp_unit.specs.declared.request.UnitSpec.{UnitSpec}
use Rattle.dwmac_run.specs.declared.commands.Verb.{Verb}
use Rattle.object_writer.specs.declared.object.Forms.{Forms}
use Rattle.dwmac_run.specs.declared.commands.Verb.TheVariants.{Raw, Unit as UnitAt, Dump, Info, List as ListAt, Expand, Once, Events, Record, Help, Version}
use Rattle.dwmac_run.specs.declared.request.Request.{Request}
use Rattle.dwmac_run.specs.declared.request.Request.TheVariants.{Query as Asks, Events as EventsOf, Record as RecordOf, Help as AsksHelp, Version as AsksVersion}
use Rattle.dwmac_run.specs.declared.request.Query.{Query}
use Rattle.dwmac_run.specs.declared.request.Query.TheVariants.{Raw as AsRaw, Unit as AsUnit, Dump as AsDump, Info as AsInfo, List as AsList, Expand as AsExpand, Once as AsOnce}
use Rattle.dwmac_run.specs.declared.words.SplitWords.{SplitWords}
use Rattle.dwmac_run.specs.declared.operands.Operands.{Operands}
use Rattle.dwmac_run.specs.Commands.{row_of, verb_of}
use Rattle.dwmac_run.specs.Words.{no_words, split_words}
use Rattle.dwmac_run.specs.Operands.{no_operands, read_operands}

-- a query about a file, if both are there
abbrev pub about : Option (List ℕ) → Option Query → Option Request
about None query = None
about (Some file) None = None
about (Some file) (Some query) = Some (Asks file query)

-- a query with an offset, if it is there
abbrev pub unit_at : Option ℕ → Option Query
unit_at None = None
unit_at (Some offset) = Some (AsUnit offset)

-- a query with a position, if it is there
abbrev pub list_at : Option Position → Option Query
list_at None = None
list_at (Some position) = Some (AsList position)

-- a query with a position and a text, if both are there
abbrev pub with_text : (Position → List ℕ → Query) → Option Position → Option (List ℕ) → Option Query
with_text query None text = None
with_text query (Some position) None = None
with_text query (Some position) (Some text) = Some (query position text)

-- a translation unit with this source and the words for the preprocessor
abbrev pub unit_of : List ℕ → SplitWords → UnitSpec
unit_of source split = record { source = source; commands = split.macros }

-- its events, if it has a source
abbrev pub events_of : Option (List ℕ) → SplitWords → Option Request
events_of None split = None
events_of (Some source) split = Some (EventsOf (unit_of source split) split.folders)

-- the forms of an object that words call for
abbrev pub forms_of : SplitWords → Forms
forms_of split = record { strx = split.strx; wide = split.wide }

-- its object in this file, if it has a source and the file is named
abbrev pub record_of : Option (List ℕ) → Option (List ℕ) → SplitWords → Option Request
record_of None output split = None
record_of (Some source) None split = None
record_of (Some source) (Some output) split = Some (RecordOf (unit_of source split) split.folders (forms_of split) output)

-- what a command asks for, by its options and operands
abbrev pub request_with : Verb → SplitWords → Operands → Option Request
request_with Raw split read = about read.file (Some AsRaw)
request_with UnitAt split read = about read.file (unit_at read.offset)
request_with Dump split read = about read.file (Some AsDump)
request_with Info split read = about read.file (with_text AsInfo read.position read.text)
request_with ListAt split read = about read.file (list_at read.position)
request_with Expand split read = about read.file (with_text AsExpand read.position read.text)
request_with Once split read = about read.file (with_text AsOnce read.position read.text)
request_with Events split read = events_of read.file split
request_with Record split read = record_of read.file split.output split
request_with Help split read = Some AsksHelp
request_with Version split read = Some AsksVersion

-- the same, where the operands fit
abbrev pub request_by : Verb → SplitWords → Option Operands → Option Request
request_by verb split None = None
request_by verb split (Some read) = request_with verb split read

-- the most folders for headers that a command takes
abbrev pub most_folders : ℕ
most_folders = 255

-- the same by the words after the verb as they were split, if they could be
abbrev pub request_split : Verb → Option SplitWords → Option Request
request_split verb None = None
request_split verb (Some split) =
    if nat_le (length split.folders) most_folders then request_by verb split (read_operands (row_of verb).operands no_operands split.operands) else None

-- the same by the words after the verb
abbrev pub request_for : Verb → List (List ℕ) → Option Request
request_for verb words = request_split verb (split_words (row_of verb).options no_words words)

-- what a command asks for, if there is one
abbrev pub request_named : Option Verb → List (List ℕ) → Option Request
request_named None words = None
request_named (Some verb) words = request_for verb words

-- what words ask for; none where they fit no command
abbrev pub request_of : List (List ℕ) → Option Request
request_of [] = None
request_of (word ∷ words) = request_named (verb_of word) words

-- the folders for headers that a request names
abbrev pub folders_of : Request → List (List ℕ)
folders_of (Asks file query) = []
folders_of (EventsOf unit folders) = folders
folders_of (RecordOf unit folders forms output) = folders
folders_of AsksHelp = []
folders_of AsksVersion = []

-- the labels of the stores that a request needs: an empty one, for the folder in which the program runs, then each folder for headers
abbrev pub labels_by : Request → List (List ℕ)
labels_by request = [] ∷ folders_of request

-- the labels for the command that the words fit
abbrev pub labels_of : List (List ℕ) → Option (List (List ℕ))
labels_of words = option_map labels_by (request_of words)

-- a request that stores no file
abbrev pub StoresNothing : Option Request → Type 0
StoresNothing None = Unit {0}
StoresNothing (Some (Asks file query)) = Unit {0}
StoresNothing (Some (EventsOf unit folders)) = Unit {0}
StoresNothing (Some (RecordOf unit folders forms output)) = ⊥
StoresNothing (Some AsksHelp) = Unit {0}
StoresNothing (Some AsksVersion) = Unit {0}
