-- The rows of an operand table (DWARF 5, 6.3.1.3): an opcode, and the codes of the forms of its operands in order.
use Rattle.std.specs.Prelude.{◌≡◌, ◌≢◌, ℕ, suc, zero, ◌==◌, ◌||◌, Bool, IsTrue, if◌then◌else◌, List, [], ◌∷◌, map, Option, Some, None, Result, Ok, Err}
use Rattle.std.specs.List.{list_all, list_any, AllByRecursion}
use Rattle.mac_base.specs.declared.cursor.CursorFault.{CursorFault}
use Rattle.mac_base.specs.Input.{Input, ◌>>=◌}
use Rattle.mac_base.specs.Fields.{number_at, uleb_at, bytes_at}
use Rattle.unit_header.specs.Opcodes.{opcode_by_byte, standard_forms, is_macro_form}

-- an opcode, and the codes of its forms
pub record Row : Type 0 where
  pub opcode : ℕ
  pub codes : List ℕ

-- the forms that the table lists for an opcode
abbrev pub listed_forms : List Row → ℕ → Option (List ℕ)
listed_forms [] opcode = None
listed_forms (row ∷ rows) opcode = if row.opcode == opcode then Some row.codes else listed_forms rows opcode

-- a row: an opcode byte, the number of the forms in ULEB128, and a byte for each form
abbrev pub row_at : Input → Result (Row × Input) CursorFault
row_at p = number_at 1 p >>= λ opcode. uleb_at opcode.1 >>= λ count. bytes_at count.0 count.1 >>= λ codes. Ok (record { opcode = opcode.0; codes = codes.0 }, codes.1)

-- the first row that was read, and then the others, or none where it can't be read
abbrev pub rows_after : Result (Row × Input) CursorFault → (Input → List Row) → List Row
rows_after (Ok row) rows = row.0 ∷ rows row.1
rows_after (Err fault) rows = []

-- the rows from a place on, at most so many
abbrev pub rows_from : ℕ → Input → List Row
rows_from zero p = []
rows_from (suc n) p = rows_after (row_at p) (rows_from n)

-- a standard opcode is listed with its own forms, and another one with forms that macro entries have
abbrev pub CodesFit : Option (List ℕ) → List ℕ → Type 0
CodesFit (Some own) codes = codes ≡ own
CodesFit None codes = IsTrue (list_all is_macro_form codes)

-- no row may have the opcode: it is 0, or was seen before
abbrev pub is_barred : List ℕ → ℕ → Bool
is_barred seen opcode = opcode == 0 || list_any (λ other. other == opcode) seen

-- no opcode is listed twice
abbrev pub AreDifferent : List ℕ → Type 0
AreDifferent [] = Unit {0}
AreDifferent (opcode ∷ opcodes) = AllByRecursion (λ other. opcode ≢ other) opcodes × AreDifferent opcodes

-- no row has the opcode 0, no two rows have the same opcode, and the forms of each row fit its opcode
pub record AreAllowed (rows : List Row) : Type 0 where
  pub no_zero : AllByRecursion (λ row. row.opcode ≢ 0) rows
  pub once : AreDifferent (map (λ row. row.opcode) rows)
  pub fit : AllByRecursion (λ row. CodesFit (standard_forms (opcode_by_byte row.opcode)) row.codes) rows
