-- The report on a macro unit: a line for each entry.
use Rattle.std.specs.Prelude.{ℕ, List, [], ◌++◌, codes, decimal}
use Rattle.std.specs.List.{flat_map}
use Rattle.unit_header.specs.declared.opcode.Opcode.{Opcode}
use Rattle.unit_header.specs.declared.opcode.Opcode.TheVariants.{Define, Undef, StartFile, EndFile, DefineStrp, UndefStrp, Import, DefineSup, UndefSup, ImportSup, DefineStrx, UndefStrx, Other as Listed}
use Rattle.unit_header.specs.Opcodes.{opcode_by_byte}
use Rattle.mac_base.specs.ReportText.{hex}
use Rattle.macro_opcodes.specs.Entry.{Operand, None, File, Text, Str, Index, Macro, SupStr, SupMacro, Other, Entry}

-- the name of an opcode, whose byte is printed where it has none (DWARF 5, 7.23)
abbrev pub name_of : Opcode → ℕ → List ℕ
name_of Define byte = codes "define"
name_of Undef byte = codes "undef"
name_of StartFile byte = codes "start_file"
name_of EndFile byte = codes "end_file"
name_of DefineStrp byte = codes "define_strp"
name_of UndefStrp byte = codes "undef_strp"
name_of Import byte = codes "import"
name_of DefineSup byte = codes "define_sup"
name_of UndefSup byte = codes "undef_sup"
name_of ImportSup byte = codes "import_sup"
name_of DefineStrx byte = codes "define_strx"
name_of UndefStrx byte = codes "undef_strx"
name_of Listed byte = codes "vendor " ++ hex byte

-- the place in hexadecimal, and the name
abbrev pub head_of : ℕ → ℕ → List ℕ
head_of at opcode = hex at ++ codes " " ++ name_of (opcode_by_byte opcode) opcode

-- after a space each: the line in decimal, and a text as it is, an index in decimal or an offset in hexadecimal
abbrev pub tail_of : ℕ → Operand → List ℕ
tail_of line None = []
tail_of line (File index) = codes " " ++ decimal line ++ codes " " ++ decimal index
tail_of line (Text text) = codes " " ++ decimal line ++ codes " " ++ text
tail_of line (Str at) = codes " " ++ decimal line ++ codes " " ++ hex at
tail_of line (Index index) = codes " " ++ decimal line ++ codes " " ++ decimal index
tail_of line (Macro at) = codes " " ++ hex at
tail_of line (SupStr at) = codes " " ++ decimal line ++ codes " " ++ hex at
tail_of line (SupMacro at) = codes " " ++ hex at
tail_of line Other = []

-- the line of an entry
abbrev pub line_of : Entry → List ℕ
line_of e = head_of e.at e.opcode ++ tail_of e.line e.operand ++ codes "\n"

-- the lines of these entries
abbrev pub report : List Entry → List ℕ
report entries = flat_map line_of entries
