-- What an entry of a macro unit says once its strings, indexes and files are looked up (DWARF 5, 6.3.2 and 7.26).
use Rattle.std.specs.Prelude.{ℕ, nat_lt, Bool, if◌then◌else◌, List, [], slice_get, length, Option, Some, None as Absent, Result, Ok, Err}
use Rattle.mac_base.specs.Input.{◌>>=◌}
use Rattle.mac_base.specs.SectionBytes.{SectionBytes}
use Rattle.string_sections.specs.Strings.{string_of}
use Rattle.string_sections.specs.Offsets.{OffsetTable, offset_of}
use Rattle.unit_header.specs.declared.opcode.Opcode.{Opcode}
use Rattle.unit_header.specs.declared.opcode.Opcode.TheVariants.{Define as DefineCode, Undef as UndefCode, StartFile, EndFile, DefineStrp, UndefStrp, Import, DefineSup, UndefSup, ImportSup, DefineStrx, UndefStrx, Other as Listed}
use Rattle.unit_header.specs.Opcodes.{opcode_by_byte}
use Rattle.unit_header.specs.declared.fault.UnitKind.{UnitKind}
use Rattle.unit_header.specs.declared.fault.UnitKind.TheVariants.{StrRange, NoStrBase, StrxRange, NoLineTable, FileIndex, ImportRange, Supplementary}
use Rattle.macro_opcodes.specs.Entry.{Operand, File, Text, Str, Index, Macro, Entry}
use Rattle.mac_base.specs.Items.{Item, Define, Undef, Start, End}

-- What a root lends to all units that it reaches: the paths of its line table, if it names one, where its string offsets begin, and whether these have 8 bytes.
pub record Lent : Type 0 where
  pub paths : Option (List (List ℕ))
  pub str_base : Option ℕ
  pub wide : Bool

-- what an entry says: an item, all that the unit at an offset says, or nothing, as an entry of a vendor's opcode
pub data Meaning : Type 0 where
  Plain : Item (List ℕ) → Meaning
  Imports : ℕ → Meaning
  Nothing : Meaning

-- a string that was looked up at its offset
abbrev pub string_found : Option (List ℕ) → Result (List ℕ) UnitKind
string_found Absent = Err StrRange
string_found (Some text) = Ok text

-- the string at an offset that was looked up at its index
abbrev pub string_behind : List ℕ → Option ℕ → Result (List ℕ) UnitKind
string_behind strs Absent = Err StrxRange
string_behind strs (Some off) = string_found (string_of strs off)

-- the string of an index, which is counted from the root's base
abbrev pub string_by_index : List ℕ → OffsetTable → Option ℕ → ℕ → Result (List ℕ) UnitKind
string_by_index strs offsets Absent index = Err NoStrBase
string_by_index strs offsets (Some base) index = string_behind strs (offset_of offsets base index)

-- the text of an entry that defines or undefines: its own, or one of the string section. Such an entry has no other operand.
abbrev pub text_of : List ℕ → OffsetTable → Option ℕ → Operand → Result (List ℕ) UnitKind
text_of strs offsets base (Text text) = Ok text
text_of strs offsets base (Str off) = string_found (string_of strs off)
text_of strs offsets base (Index index) = string_by_index strs offsets base index
text_of strs offsets base _ = Ok []

-- the string offsets of a root, whose width is that of its own unit
abbrev pub offsets_of : SectionBytes → Lent → OffsetTable
offsets_of s lent = record { section = s.str_offsets; wide = lent.wide }

-- the same of a unit of this root
abbrev pub text_in : SectionBytes → Lent → Operand → Result (List ℕ) UnitKind
text_in s lent operand = text_of s.strs (offsets_of s lent) lent.str_base operand

-- a path that was looked up at its index
abbrev pub path_found : Option (List ℕ) → Result (List ℕ) UnitKind
path_found Absent = Err FileIndex
path_found (Some path) = Ok path

-- the path of an index in a line table, if there is one
abbrev pub path_by_index : Option (List (List ℕ)) → ℕ → Result (List ℕ) UnitKind
path_by_index Absent index = Err NoLineTable
path_by_index (Some paths) index = path_found (slice_get paths index)

-- the path of an entry that begins a file, which has no other operand
abbrev pub path_of : Option (List (List ℕ)) → Operand → Result (List ℕ) UnitKind
path_of paths (File index) = path_by_index paths index
path_of paths _ = Err FileIndex

-- the offset that an import names, which is inside the section. An import has no other operand.
abbrev pub target_of : List ℕ → Operand → Result ℕ UnitKind
target_of section (Macro off) = if nat_lt off (length section) then Ok off else Err ImportRange
target_of section _ = Err ImportRange

-- an entry that defines or undefines
abbrev pub with_text : (List ℕ → Item (List ℕ)) → Result (List ℕ) UnitKind → Result Meaning UnitKind
with_text make text = text >>= λ found. Ok (Plain (make found))

-- what an opcode says with its line and operand, where files are indexes into these paths
abbrev pub meaning_by : SectionBytes → Lent → Option (List (List ℕ)) → Opcode → ℕ → Operand → Result Meaning UnitKind
meaning_by s lent paths DefineCode line operand = with_text (Define line) (text_in s lent operand)
meaning_by s lent paths DefineStrp line operand = with_text (Define line) (text_in s lent operand)
meaning_by s lent paths DefineStrx line operand = with_text (Define line) (text_in s lent operand)
meaning_by s lent paths UndefCode line operand = with_text (Undef line) (text_in s lent operand)
meaning_by s lent paths UndefStrp line operand = with_text (Undef line) (text_in s lent operand)
meaning_by s lent paths UndefStrx line operand = with_text (Undef line) (text_in s lent operand)
meaning_by s lent paths StartFile line operand = with_text (Start line) (path_of paths operand)
meaning_by s lent paths EndFile line operand = Ok (Plain End)
meaning_by s lent paths Import line operand = target_of s.macros operand >>= λ target. Ok (Imports target)
meaning_by s lent paths DefineSup line operand = Err Supplementary
meaning_by s lent paths UndefSup line operand = Err Supplementary
meaning_by s lent paths ImportSup line operand = Err Supplementary
meaning_by s lent paths Listed line operand = Ok Nothing

-- what an entry says, in a unit whose files are indexes into these paths
abbrev pub meaning : SectionBytes → Lent → Option (List (List ℕ)) → Entry → Result Meaning UnitKind
meaning s lent paths e = meaning_by s lent paths (opcode_by_byte e.opcode) e.line e.operand
