-- How a name is defined and undefined, by a directive (C17 6.10.3) or a word of the command.
use Rattle.std.specs.Prelude.{ℕ, ◌==◌, Bool, true, false, not, if◌then◌else◌, List, [], ◌∷◌, Option, None, Some, Result, Ok, Err}
use Rattle.std.specs.List.{list_any}
use lib.Chars.{codes}
use Rattle.mac_base.specs.Input.{◌>>=◌}
use Rattle.pp_tokens.specs.Kinds.{same, is_identifier}
use Rattle.macro_table.specs.declared.fault.DefFault.{DefFault}
use Rattle.macro_table.specs.declared.fault.DefFault.TheVariants.{NoName}
use Rattle.macro_table.specs.declared.fault.TextFault.{TextFault}
use Rattle.macro_table.specs.declared.fault.TextFault.TheVariants.{Lex as TextLex, Def as TextDef}
use Rattle.macro_table.specs.declared.fault.TextFault.TheVariants.{NoMemory as TextRanOut}
use Rattle.macro_table.specs.Definitions.{DefValue}
use Rattle.macro_table.specs.SameDefinitions.{same_def}
use Rattle.macro_table.specs.Texts.{text_of, def_of_text}
use Rattle.mac_base.specs.Items.{Define, Undef}
use Rattle.pp_unit.specs.declared.request.Command.{Command}
use Rattle.pp_unit.specs.declared.request.Command.TheVariants.{Define as DefineWord, Undef as UndefWord}
use Rattle.pp_unit.specs.declared.fault.PpKind.{PpKind}
use Rattle.pp_unit.specs.declared.fault.PpKind.TheVariants.{Lex, Def, Predefined, Redefined, NoMemory}
use Rattle.pp_unit.specs.Seen.{Seen, table, text_in, added}

-- The names that are neither defined nor undefined (6.10.8 p2): the three that are predefined here, and those that are built in. The project's own: `defined` is not among them, so `#undef defined` is an event, where gcc and clang reject it.
abbrev pub is_predefined : List ℕ → Bool
is_predefined name = list_any (same name) (codes "__STDC__" ∷ codes "__STDC_HOSTED__" ∷ codes "__STDC_VERSION__" ∷ codes "__LINE__" ∷ codes "__FILE__" ∷ [])

-- whether a text is another definition than this one, so that it may not be followed by it (6.10.3 p2)
abbrev pub differs : Result DefValue TextFault → DefValue → Bool
differs (Ok other) def = not (same_def other def)
differs (Err fault) def = true

-- whether a name that has this text has another definition than this one
abbrev pub conflicts : Option (List ℕ) → DefValue → Bool
conflicts None def = false
conflicts (Some text) def = differs (def_of_text text) def

-- a definition in this line
abbrev pub defined : Seen → ℕ → DefValue → Result Seen PpKind
defined seen line def =
    if is_predefined def.name then Err (Predefined def.name)
    else (if conflicts (text_in (table seen) def.name) def then Err (Redefined def.name)
    else added seen (Define line (text_of def)))

-- an `#undef` of this name in this line; nothing is asked of the table
abbrev pub undefined : Seen → ℕ → List ℕ → Result Seen PpKind
undefined seen line name = if is_predefined name then Err (Predefined name) else added seen (Undef line name)

-- what the tokens after `#define` define, in this line
abbrev pub defined_by : Seen → ℕ → Result DefValue DefFault → Result Seen PpKind
defined_by seen line (Ok def) = defined seen line def
defined_by seen line (Err fault) = Err (Def fault)

-- the same of a text, before all files
abbrev pub defined_by_text : Seen → Result DefValue TextFault → Result Seen PpKind
defined_by_text seen (Ok def) = defined seen 0 def
defined_by_text seen (Err (TextLex fault)) = Err (Lex fault)
defined_by_text seen (Err (TextDef fault)) = Err (Def fault)
defined_by_text seen (Err TextRanOut) = Err NoMemory

-- the definition that a word is: its first `=` stands for a space, and where it has none the name is defined as 1
abbrev pub define_text : List ℕ → List ℕ
define_text [] = codes " 1"
define_text (byte ∷ bytes) = if byte == 61 then 32 ∷ bytes else byte ∷ define_text bytes

-- a word of the command
abbrev pub commanded : Seen → Command → Result Seen PpKind
commanded seen (DefineWord word) = defined_by_text seen (def_of_text (define_text word))
commanded seen (UndefWord word) = if is_identifier word then undefined seen 0 word else Err (Def NoName)

-- all words in order
abbrev pub all_commanded : Seen → List Command → Result Seen PpKind
all_commanded seen [] = Ok seen
all_commanded seen (command ∷ commands) = commanded seen command >>= λ next. all_commanded next commands

-- what is predefined (6.10.8.1), before all words and files
abbrev pub predefined : Seen
predefined = record {
  items = Define 0 (codes "__STDC__ 1") ∷ Define 0 (codes "__STDC_HOSTED__ 1") ∷ Define 0 (codes "__STDC_VERSION__ 201710L") ∷ [];
  files = [];
  once = [];
}
