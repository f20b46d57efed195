-- The list of commands: the verb of each, the options that it takes and its operands. The reading of words and what `--help` prints follow from it.
use Rattle.std.specs.Prelude.{ℕ, Bool, true, false, if◌then◌else◌, List, [], ◌∷◌, codes, Option, Some, None}
use Rattle.std.specs.Str.{bytes_eq}
use Rattle.std.specs.Option.{option_map}
use Rattle.dwmac_run.specs.declared.commands.Verb.{Verb}
use Rattle.dwmac_run.specs.declared.commands.Verb.TheVariants.{Raw, Unit as UnitAt, Dump, Info, List as ListAt, Expand, Once, Events, Record, Help, Version}
use Rattle.dwmac_run.specs.declared.commands.Operand.{Operand}
use Rattle.dwmac_run.specs.declared.commands.Operand.TheVariants.{File, Offset, Position, Name, Text, Source}
use Rattle.dwmac_run.specs.declared.commands.CommandOption.{CommandOption}
use Rattle.dwmac_run.specs.declared.commands.CommandOption.TheVariants.{Folder, Define, Undef, Strx, Wide, Output}
use Rattle.dwmac_run.specs.declared.commands.Often.{Often}
use Rattle.dwmac_run.specs.declared.commands.Often.TheVariants.{Any, AtMostOnce, ExactlyOnce}
use Rattle.dwmac_run.specs.declared.commands.CommandRow.{CommandRow}
use Rattle.dwmac_run.specs.declared.commands.OptionRow.{OptionRow}

-- a command: its verb as a word, the options that may follow in any place, and the operands that follow in order
pub record Row : Type 0 where
  pub word : List ℕ
  pub options : List CommandOption
  pub operands : List Operand

abbrev row : List ℕ → List CommandOption → List Operand → Row
row word options operands = record { word = word; options = options; operands = operands }

-- the list of commands
abbrev pub row_of : Verb → Row
row_of Raw = row (codes "raw") [] (File ∷ [])
row_of UnitAt = row (codes "unit") [] (File ∷ Offset ∷ [])
row_of Dump = row (codes "dump") [] (File ∷ [])
row_of Info = row (codes "info") [] (File ∷ Position ∷ Name ∷ [])
row_of ListAt = row (codes "list") [] (File ∷ Position ∷ [])
row_of Expand = row (codes "expand") [] (File ∷ Position ∷ Text ∷ [])
row_of Once = row (codes "once") [] (File ∷ Position ∷ Text ∷ [])
row_of Events = row (codes "events") (Folder ∷ Define ∷ Undef ∷ []) (Source ∷ [])
row_of Record = row (codes "record") (Folder ∷ Define ∷ Undef ∷ Strx ∷ Wide ∷ Output ∷ []) (Source ∷ [])
row_of Help = row (codes "--help") [] []
row_of Version = row (codes "--version") [] []

-- their order
abbrev pub verbs : List Verb
verbs = Raw ∷ UnitAt ∷ Dump ∷ Info ∷ ListAt ∷ Expand ∷ Once ∷ Events ∷ Record ∷ Help ∷ Version ∷ []

-- an option: the option as a word, what `--help` calls the next word, where it takes that, and how often it is given
pub record OptionForm : Type 0 where
  pub word : List ℕ
  pub argument : Option (List ℕ)
  pub often : Often

abbrev option_form_with : List ℕ → Option (List ℕ) → Often → OptionForm
option_form_with word argument often = record { word = word; argument = argument; often = often }

-- the list of options
abbrev pub option_form : CommandOption → OptionForm
option_form Folder = option_form_with (codes "-I") (Some (codes "DIR")) Any
option_form Define = option_form_with (codes "-D") (Some (codes "DEF")) Any
option_form Undef = option_form_with (codes "-U") (Some (codes "NAME")) Any
option_form Strx = option_form_with (codes "--strx") None AtMostOnce
option_form Wide = option_form_with (codes "--dwarf64") None AtMostOnce
option_form Output = option_form_with (codes "-o") (Some (codes "FILE")) ExactlyOnce

-- whether an option that is given so often may be given again
abbrev pub may_repeat : Often → Bool
may_repeat Any = true
may_repeat AtMostOnce = false
may_repeat ExactlyOnce = false

-- what `--help` prints for an operand
abbrev pub operand_help : Operand → List ℕ
operand_help File = codes " FILE"
operand_help Offset = codes " OFF"
operand_help Position = codes " POS"
operand_help Name = codes " NAME"
operand_help Text = codes " TEXT"
operand_help Source = codes " SRC"

-- the command among these whose verb a word is
abbrev pub verb_among : List Verb → List ℕ → Option Verb
verb_among [] word = None
verb_among (verb ∷ others) word = if bytes_eq word (row_of verb).word then Some verb else verb_among others word

-- the command whose verb a word is
abbrev pub verb_of : List ℕ → Option Verb
verb_of word = verb_among verbs word

-- the option among these that a word is
abbrev pub option_of : List CommandOption → List ℕ → Option CommandOption
option_of [] word = None
option_of (option ∷ others) word = if bytes_eq word (option_form option).word then Some option else option_of others word

-- a row as the code keeps it
abbrev pub row_seen : CommandRow → Row
row_seen kept = row kept.word.now kept.options.now kept.operands.now

-- and the form of an option
abbrev pub option_form_seen : OptionRow → OptionForm
option_form_seen kept = option_form_with kept.word.now (option_map (λ name. name.now) kept.argument) kept.often
