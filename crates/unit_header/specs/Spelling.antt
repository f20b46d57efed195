-- Which bytes spell the header of a macro unit (DWARF 5, 6.3.1).
use Rattle.std.specs.Prelude.{◌≡◌, ℕ, ◌+◌, ◌<◌, ◌^◌, Bool, true, false, if◌then◌else◌, List, [], ◌∷◌, ◌++◌, length, Option, Some, None, is_some}
use Rattle.mac_base.specs.Spelling.{IsUleb, IsFixed}
use Rattle.mac_base.specs.Values.{offset_width}
use Rattle.unit_header.specs.Rows.{Row, AreAllowed}
use Rattle.unit_header.specs.Header.{Header}

-- the bytes spell a row: the opcode, the number of the forms in ULEB128, and the forms
pub record IsRow (bytes : List ℕ) (row : Row) : Type 0 where
  pub count : List ℕ
  pub spelled : bytes ≡ row.opcode ∷ count ++ row.codes
  pub counts : IsUleb count (length row.codes)
  pub fits : length row.codes < 2 ^ 64

-- the bytes spell these rows, one after another
abbrev pub AreRows : List ℕ → List Row → Type 0
AreRows bytes [] = bytes ≡ []
AreRows bytes (row ∷ rows) = (front back : List ℕ) × (bytes ≡ front ++ back) × IsRow front row × AreRows back rows

-- the operand table: a byte with the number of rows, and rows that are allowed (6.3.1.3)
pub record IsTable (bytes : List ℕ) (rows : List Row) : Type 0 where
  pub body : List ℕ
  pub spelled : bytes ≡ length rows ∷ body
  pub are_rows : AreRows body rows
  pub allowed : AreAllowed rows

-- the operand table, where the flags say that there is one
abbrev pub IsTablePart : Bool → List ℕ → List Row → Type 0
IsTablePart true bytes rows = IsTable bytes rows
IsTablePart false bytes rows = (bytes ≡ []) × (rows ≡ [])

-- the offset of the line table, where there is one (6.3.1.2)
abbrev pub IsLinePart : Bool → Option ℕ → List ℕ → Type 0
IsLinePart wide None bytes = bytes ≡ []
IsLinePart wide (Some offset) bytes = IsFixed (offset_width wide) bytes offset

-- The flags (6.3.1.1): bit 0 says that offsets have 8 bytes, bit 1 that a line offset follows, bit 2 that an operand table follows.
abbrev pub flags_of : Bool → Bool → Bool → ℕ
flags_of wide lined tabled = (if wide then 1 else 0) + (if lined then 2 else 0) + (if tabled then 4 else 0)

-- the bytes spell the header: version 5 in two bytes, the flags, the line offset and the operand table
pub record IsHeader (bytes : List ℕ) (h : Header) : Type 0 where
  pub tabled : Bool
  pub line : List ℕ
  pub table : List ℕ
  pub spelled : bytes ≡ 5 ∷ 0 ∷ flags_of h.wide (is_some h.line) tabled ∷ line ++ table
  pub version : h.version ≡ 5
  pub is_line : IsLinePart h.wide h.line line
  pub is_table : IsTablePart tabled table h.operands
