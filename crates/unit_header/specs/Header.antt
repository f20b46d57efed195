-- The header of a macro unit as a value (DWARF 5, 6.3.1).
use Rattle.std.specs.Prelude.{ℕ, ◌==◌, Bool, if◌then◌else◌, List, Option, Some, None}
use Rattle.unit_header.specs.Rows.{Row, listed_forms}
use Rattle.unit_header.specs.Opcodes.{opcode_by_byte, standard_forms}
use Rattle.unit_header.specs.declared.header.Header.{Header as HeldHeader}

-- the version, whether offsets have 8 bytes, the offset of the line table where there is one, and the operand table
pub record Header : Type 0 where
  pub version : ℕ
  pub wide : Bool
  pub line : Option ℕ
  pub operands : List Row

-- a header without where it lies in memory
abbrev pub header_of : HeldHeader → Header
header_of h = record { version = h.version; wide = h.wide; line = h.line; operands = h.operands }

-- the standard forms, or else the listed ones
abbrev pub forms_or : Option (List ℕ) → Option (List ℕ) → Option (List ℕ)
forms_or (Some standard) listed = Some standard
forms_or None listed = listed

-- The codes of the forms of an opcode's operands under a header, for standard and listed opcodes alike. 0 closes a macro unit, and an opcode that is neither has none.
abbrev pub forms_of : Header → ℕ → Option (List ℕ)
forms_of h opcode = if opcode == 0 then None else forms_or (standard_forms (opcode_by_byte opcode)) (listed_forms h.operands opcode)
