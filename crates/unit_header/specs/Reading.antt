-- What reading the header of a macro unit gives: the header and the place after it, or the first fault with its byte.
use Rattle.std.specs.Prelude.{◌≡◌, ℕ, suc, zero, ◌/◌, ◌%◌, ◌==◌, nat_lt, Bool, true, false, if◌then◌else◌, List, [], ◌∷◌, length, Option, Some, None, Result, Ok, Err}
use Rattle.mac_base.specs.Input.{Input, ◌>>=◌}
use Rattle.mac_base.specs.Fields.{number_at, uleb_at}
use Rattle.mac_base.specs.Values.{offset_at}
use Rattle.unit_header.specs.declared.fault.UnitFault.{UnitFault}
use Rattle.unit_header.specs.declared.fault.UnitKind.TheVariants.{Version, Flags, OperandTable, Form}
use Rattle.unit_header.specs.Opcodes.{opcode_by_byte, standard_forms, is_macro_form}
use Rattle.unit_header.specs.Faults.{field}
use Rattle.unit_header.specs.Rows.{Row, rows_from, is_barred}
use Rattle.unit_header.specs.Header.{Header}

-- after form bytes that are a standard opcode's own; another byte is a fault of the row, which begins at `at`
abbrev pub after_own : ℕ → List ℕ → Input → Result Input UnitFault
after_own at [] p = Ok p
after_own at (own ∷ others) p = field (number_at 1 p) >>= λ code. if code.0 == own then after_own at others code.1 else Err (record { at = at; what = OperandTable })

-- after so many form bytes that macro entries have; another one is a fault of its own
abbrev pub after_known : ℕ → Input → Result Input UnitFault
after_known zero p = Ok p
after_known (suc n) p = field (number_at 1 p) >>= λ code. if is_macro_form code.0 then after_known n code.1 else Err (record { at = p.at; what = Form })

-- after the form bytes of a row
abbrev pub after_codes : ℕ → Option (List ℕ) → ℕ → Input → Result Input UnitFault
after_codes at (Some own) n p = if n == length own then after_own at own p else Err (record { at = at; what = OperandTable })
after_codes at None n p = after_known n p

-- after the number of a row's forms, and the forms
abbrev pub after_count : ℕ → ℕ → Input → Result Input UnitFault
after_count at opcode p = field (uleb_at p) >>= λ count. after_codes at (standard_forms (opcode_by_byte opcode)) count.0 count.1

-- after a row, with its opcode, which is not 0 and was not seen before
abbrev pub after_row : List ℕ → Input → Result (ℕ × Input) UnitFault
after_row seen p =
    field (number_at 1 p) >>= λ opcode.
    if is_barred seen opcode.0 then Err (record { at = p.at; what = OperandTable })
    else (after_count p.at opcode.0 opcode.1 >>= λ q. Ok (opcode.0, q))

-- after so many rows
abbrev pub after_rows : List ℕ → ℕ → Input → Result Input UnitFault
after_rows seen zero p = Ok p
after_rows seen (suc n) p = after_row seen p >>= λ row. after_rows (row.0 ∷ seen) n row.1

-- the operand table
abbrev pub table_at : Input → Result (List Row × Input) UnitFault
table_at p = field (number_at 1 p) >>= λ count. after_rows [] count.0 count.1 >>= λ q. Ok (rows_from count.0 count.1, q)

-- the operand table, where the flags say that there is one
abbrev pub table_part_at : Bool → Input → Result (List Row × Input) UnitFault
table_part_at true p = table_at p
table_part_at false p = Ok ([], p)

-- the offset of the line table, where the flags say that there is one
abbrev pub line_part_at : Bool → Bool → Input → Result (Option ℕ × Input) UnitFault
line_part_at wide true p = field (offset_at wide p) >>= λ offset. Ok (Some offset.0, offset.1)
line_part_at wide false p = Ok (None, p)

-- what follows the flags
abbrev pub after_flags : Bool → Bool → Bool → Input → Result (Header × Input) UnitFault
after_flags wide lined tabled p =
    line_part_at wide lined p >>= λ line. table_part_at tabled line.1 >>= λ table.
    Ok (record { version = 5; wide = wide; line = line.0; operands = table.0 }, table.1)

-- the flags, a byte with no other bit than 0, 1 and 2, and what follows
abbrev pub flags_at : Input → Result (Header × Input) UnitFault
flags_at p =
    field (number_at 1 p) >>= λ flags.
    if nat_lt flags.0 8 then after_flags (flags.0 % 2 == 1) (flags.0 / 2 % 2 == 1) (flags.0 / 4 % 2 == 1) flags.1 else Err (record { at = p.at; what = Flags })

-- the header: the version, two bytes, which is 5, and then the flags
unfoldable pub header_at : Input → Result (Header × Input) UnitFault
header_at p = field (number_at 2 p) >>= λ version. if version.0 == 5 then flags_at version.1 else Err (record { at = p.at; what = Version })

-- what a call that goes over bytes answers: the place after them, or the fault
abbrev pub Passes : Input → Result (Unit {0}) UnitFault → Result Input UnitFault → Type 0
Passes new (Ok done) reading = reading ≡ Ok new
Passes new (Err fault) reading = reading ≡ Err fault
