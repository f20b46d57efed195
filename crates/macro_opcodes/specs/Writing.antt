-- The bytes that are written of an entry (DWARF 5, 6.3.2): its opcode, its line where it has one, and one more operand.
use Rattle.std.specs.Prelude.{◌≢◌, ℕ, ◌<◌, ◌^◌, Bool, List, [], ◌∷◌, ◌++◌}
use Rattle.std.specs.List.{AllByRecursion}
use Rattle.mac_base.specs.Values.{offset_width}
use Rattle.mac_base.specs.Writing.{uleb_bytes, offset_bytes, string_bytes}
use Rattle.macro_opcodes.specs.declared.entry.OutEntry.{OutEntry}
use Rattle.macro_opcodes.specs.declared.entry.OutEntry.TheVariants.{Define, Undef, Start, End, DefineStr, UndefStr, Import, DefineIndex, UndefIndex}
use Rattle.macro_opcodes.specs.Entry.{None, File, Text, Str, Index, Macro, Entry}

-- the entry as it is read again, with its place
abbrev pub read_as : ℕ → OutEntry → Entry
read_as at (Define line text) = record { at = at; opcode = 0x01; line = line; operand = Text text.now }
read_as at (Undef line text) = record { at = at; opcode = 0x02; line = line; operand = Text text.now }
read_as at (Start line file) = record { at = at; opcode = 0x03; line = line; operand = File file }
read_as at End = record { at = at; opcode = 0x04; line = 0; operand = None }
read_as at (DefineStr line offset) = record { at = at; opcode = 0x05; line = line; operand = Str offset }
read_as at (UndefStr line offset) = record { at = at; opcode = 0x06; line = line; operand = Str offset }
read_as at (Import offset) = record { at = at; opcode = 0x07; line = 0; operand = Macro offset }
read_as at (DefineIndex line index) = record { at = at; opcode = 0x0b; line = line; operand = Index index }
read_as at (UndefIndex line index) = record { at = at; opcode = 0x0c; line = line; operand = Index index }

-- what follows an opcode: a line and a text with its NUL, a line and a number, a line and an offset, an offset alone, or nothing
pub data Shape : Type 0 where
  Nothing : Shape
  LineText : (line : ℕ) (text : List ℕ) → Shape
  LineNumber : (line number : ℕ) → Shape
  LineOffset : (line offset : ℕ) → Shape
  Offset : (offset : ℕ) → Shape

-- the opcode of an entry (7.23)
abbrev pub opcode_of : OutEntry → ℕ
opcode_of (Define line text) = 0x01
opcode_of (Undef line text) = 0x02
opcode_of (Start line file) = 0x03
opcode_of End = 0x04
opcode_of (DefineStr line offset) = 0x05
opcode_of (UndefStr line offset) = 0x06
opcode_of (Import offset) = 0x07
opcode_of (DefineIndex line index) = 0x0b
opcode_of (UndefIndex line index) = 0x0c

-- the operands of an entry
abbrev pub shape_of : OutEntry → Shape
shape_of (Define line text) = LineText line text.now
shape_of (Undef line text) = LineText line text.now
shape_of (Start line file) = LineNumber line file
shape_of End = Nothing
shape_of (DefineStr line offset) = LineOffset line offset
shape_of (UndefStr line offset) = LineOffset line offset
shape_of (Import offset) = Offset offset
shape_of (DefineIndex line index) = LineNumber line index
shape_of (UndefIndex line index) = LineNumber line index

-- the bytes of operands, where offsets have 8 bytes or 4
abbrev pub shape_bytes : Bool → Shape → List ℕ
shape_bytes wide Nothing = []
shape_bytes wide (LineText line text) = uleb_bytes line ++ string_bytes text
shape_bytes wide (LineNumber line number) = uleb_bytes line ++ uleb_bytes number
shape_bytes wide (LineOffset line offset) = uleb_bytes line ++ offset_bytes wide offset
shape_bytes wide (Offset offset) = offset_bytes wide offset

-- the bytes of an entry
abbrev pub entry_bytes : Bool → OutEntry → List ℕ
entry_bytes wide e = opcode_of e ∷ shape_bytes wide (shape_of e)

-- an offset fits its width, and a text has no NUL
abbrev pub Fits : Bool → Shape → Type 0
Fits wide Nothing = Unit {0}
Fits wide (LineText line text) = AllByRecursion (λ b. b ≢ 0) text
Fits wide (LineNumber line number) = Unit {0}
Fits wide (LineOffset line offset) = offset < 256 ^ offset_width wide
Fits wide (Offset offset) = offset < 256 ^ offset_width wide

-- the numbers in ULEB128 are below 2^64
abbrev pub AreSmall : Shape → Type 0
AreSmall Nothing = Unit {0}
AreSmall (LineText line text) = line < 2 ^ 64
AreSmall (LineNumber line number) = (line < 2 ^ 64) × (number < 2 ^ 64)
AreSmall (LineOffset line offset) = line < 2 ^ 64
AreSmall (Offset offset) = Unit {0}
