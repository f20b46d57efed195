-- Which bytes spell a macro unit (DWARF 5, 6.3.1, 6.3.2 and 7.23). The header is a parameter everywhere: it says how operands are spelled.
use Rattle.std.specs.Prelude.{◌≡◌, ℕ, ◌+◌, List, [], ◌∷◌, ◌++◌, length, drop, Option, Some, None as Absent}
use Rattle.mac_base.specs.declared.form.Form.{Form}
use Rattle.mac_base.specs.declared.value.Sizes.{Sizes}
use Rattle.mac_base.specs.Forms.{form_by_code, layout_by_form}
use Rattle.mac_base.specs.Values.{Value, Number, Text as Characters}
use Rattle.mac_base.specs.ValueSpelling.{IsValue}
use Rattle.unit_header.specs.declared.opcode.Opcode.{Opcode}
use Rattle.unit_header.specs.declared.opcode.Opcode.TheVariants.{Define, Undef, StartFile, EndFile, DefineStrp, UndefStrp, Import, DefineSup, UndefSup, ImportSup, DefineStrx, UndefStrx, Other as Listed}
use Rattle.unit_header.specs.Opcodes.{opcode_by_byte}
use Rattle.unit_header.specs.Header.{Header, forms_of}
use Rattle.unit_header.specs.Spelling.{IsHeader}
use Rattle.macro_opcodes.specs.Entry.{Operand, None, File, Text, Str, Index, Macro, SupStr, SupMacro, Other, Entry}

-- offsets have 4 or 8 bytes by the header; no operand has an address
abbrev pub sizes_of : Header → Sizes
sizes_of h = record { wide = h.wide; address = 0 }

-- the bytes spell the value in this form, if it is one
abbrev pub IsOfForm : Sizes → Option Form → List ℕ → Value → Type 0
IsOfForm sizes Absent bytes v = ⊥
IsOfForm sizes (Some form) bytes v = IsValue sizes (layout_by_form form) bytes v

-- the bytes spell these values in the forms of these codes, one after another
abbrev pub AreValues : Sizes → List ℕ → List ℕ → List Value → Type 0
AreValues sizes [] bytes [] = bytes ≡ []
AreValues sizes [] bytes (value ∷ values) = ⊥
AreValues sizes (code ∷ codes) bytes [] = ⊥
AreValues sizes (code ∷ codes) bytes (value ∷ values) = (front back : List ℕ) × (bytes ≡ front ++ back) × IsOfForm sizes (form_by_code code) front value × AreValues sizes codes back values

-- a line, and a text
abbrev pub line_and_text : List Value → ℕ × Operand
line_and_text (Number line ∷ Characters text ∷ []) = (line, Text text)
line_and_text values = (0, Other)

-- a line, and a number
abbrev pub line_and : (ℕ → Operand) → List Value → ℕ × Operand
line_and make (Number line ∷ Number n ∷ []) = (line, make n)
line_and make values = (0, Other)

-- a number alone
abbrev pub alone : (ℕ → Operand) → List Value → ℕ × Operand
alone make (Number n ∷ []) = (0, make n)
alone make values = (0, Other)

-- The line and the rest, as the values of an opcode's operands say them (6.3.2). Of an opcode that the operand table lists the values say nothing.
abbrev pub said_by : Opcode → List Value → ℕ × Operand
said_by Define values = line_and_text values
said_by Undef values = line_and_text values
said_by StartFile values = line_and File values
said_by EndFile values = (0, None)
said_by DefineStrp values = line_and Str values
said_by UndefStrp values = line_and Str values
said_by Import values = alone Macro values
said_by DefineSup values = line_and SupStr values
said_by UndefSup values = line_and SupStr values
said_by ImportSup values = alone SupMacro values
said_by DefineStrx values = line_and Index values
said_by UndefStrx values = line_and Index values
said_by Listed values = (0, Other)

-- the bytes spell the entry: its opcode, and its operands in the forms of the opcode
abbrev pub IsEntry : Header → List ℕ → Entry → Type 0
IsEntry h [] e = ⊥
IsEntry h (opcode ∷ bytes) e = (opcode ≡ e.opcode) × (codes : List ℕ) × (values : List Value)
    × (forms_of h opcode ≡ Some codes) × AreValues (sizes_of h) codes bytes values × ((e.line, e.operand) ≡ said_by (opcode_by_byte opcode) values)

-- the bytes from this place on spell these entries, one after another
abbrev pub AreEntries : Header → ℕ → List ℕ → List Entry → Type 0
AreEntries h at bytes [] = bytes ≡ []
AreEntries h at bytes (e ∷ es) = (front back : List ℕ) × (bytes ≡ front ++ back) × (e.at ≡ at) × IsEntry h front e × AreEntries h (at + length front) back es

-- A macro unit is at the offset of the section: its header, its entries, and the byte 0, after which `end` is.
pub record Spells (section : List ℕ) (offset : ℕ) (h : Header) (entries : List Entry) (end : ℕ) : Type 0 where
  pub header : List ℕ
  pub body : List ℕ
  pub after : List ℕ
  pub stands : drop offset section ≡ header ++ body ++ 0 ∷ after
  pub is_header : IsHeader header h
  pub are_entries : AreEntries h (offset + length header) body entries
  pub ends : end ≡ offset + length header + length body + 1
