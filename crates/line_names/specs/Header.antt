-- The fields of a line header before its directories (DWARF 5, 6.2.4, items 2 to 13).
use Rattle.std.specs.Prelude.{ℕ, zero, suc, ◌-◌, ◌==◌, Bool, if◌then◌else◌, Result, Ok, Err}
use Rattle.mac_base.specs.Input.{Input, ◌>>=◌}
use Rattle.mac_base.specs.Fields.{number_at}
use Rattle.mac_base.specs.declared.cursor.CursorFault.{CursorFault}
use Rattle.mac_base.specs.Values.{offset_at}
use Rattle.line_names.specs.declared.fault.LineFault.{LineFault}
use Rattle.line_names.specs.declared.fault.LineKind.TheVariants.{Version, OpcodeBase}
use Rattle.line_names.specs.Faults.{field, fault_at}

-- where the next field begins after so many of one byte
abbrev pub bytes_passed : ℕ → Input → Result Input CursorFault
bytes_passed zero p = Ok p
bytes_passed (suc n) p = number_at 1 p >>= λ byte. bytes_passed n byte.1

-- opcode_base, and the length of each standard opcode below it
unfoldable pub opcodes_at : Input → Result Input LineFault
opcodes_at p = do
  base ← field (number_at 1 p)
  if base.0 == 0 then Err (fault_at p.at OpcodeBase) else field (bytes_passed (base.0 - 1) base.1)

-- The fields of version 5: address_size, segment_selector_size, header_length, five of one byte from minimum_instruction_length to line_range, and the opcodes. The first is the value.
abbrev pub fields_at : Bool → Input → Result (ℕ × Input) LineFault
fields_at wide p = do
  address ← field (number_at 1 p)
  selector ← field (number_at 1 address.1)
  header_length ← field (offset_at wide selector.1)
  passed ← field (bytes_passed 5 header_length.1)
  behind ← opcodes_at passed
  Ok (address.0, behind)

-- the version comes first
unfoldable pub header_at : Bool → Input → Result (ℕ × Input) LineFault
header_at wide p = do
  version ← field (number_at 2 p)
  if version.0 == 5 then fields_at wide version.1 else Err (fault_at p.at Version)
