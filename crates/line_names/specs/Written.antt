-- The bytes that are written of a line table that names these paths (DWARF 5, 6.2.4): version 5, one directory `.`, no line number program.
use Rattle.std.specs.Prelude.{◌≢◌, ℕ, ◌+◌, Bool, List, [], ◌∷◌, ◌++◌, length}
use Rattle.std.specs.List.{AllByRecursion, flat_map}
use Rattle.mac_base.specs.Values.{offset_width}
use Rattle.mac_base.specs.Writing.{uleb_bytes, length_bytes, offset_bytes}

-- minimum_instruction_length 1, maximum_operations_per_instruction 1, default_is_stmt 1, line_base -5, line_range 14, opcode_base 13, and the lengths of the standard opcodes
abbrev pub opcode_fields : List ℕ
opcode_fields = 1 ∷ 1 ∷ 1 ∷ 0xfb ∷ 0x0e ∷ 0x0d ∷ 0 ∷ 1 ∷ 1 ∷ 1 ∷ 1 ∷ 0 ∷ 0 ∷ 0 ∷ 1 ∷ 0 ∷ 0 ∷ 1 ∷ []

-- a format of one pair, DW_LNCT_path as DW_FORM_string, and one directory `.`
abbrev pub directory_bytes : List ℕ
directory_bytes = 1 ∷ 1 ∷ 8 ∷ 1 ∷ 0x2e ∷ 0 ∷ []

-- a format of two pairs, DW_LNCT_path as DW_FORM_string and DW_LNCT_directory_index as DW_FORM_udata
abbrev pub file_format : List ℕ
file_format = 2 ∷ 1 ∷ 8 ∷ 2 ∷ 0x0f ∷ []

-- a file: its path with a NUL, and the index of its directory, which is 0
abbrev pub file_bytes : List ℕ → List ℕ
file_bytes path = path ++ 0 ∷ 0 ∷ []

-- the number of files, and the files
abbrev pub files_bytes : List (List ℕ) → List ℕ
files_bytes paths = uleb_bytes (length paths) ++ flat_map file_bytes paths

-- what follows header_length
unfoldable pub field_bytes : List (List ℕ) → List ℕ
field_bytes paths = opcode_fields ++ (directory_bytes ++ (file_format ++ files_bytes paths))

-- a table with these fields after header_length: unit_length, version 5, address_size 8, segment_selector_size 0, header_length
unfoldable pub table_with : Bool → List ℕ → List ℕ
table_with wide fields = length_bytes wide (4 + offset_width wide + length fields) ++ 5 ∷ 0 ∷ 8 ∷ 0 ∷ (offset_bytes wide (length fields) ++ fields)

-- the whole table
abbrev pub table_bytes : Bool → List (List ℕ) → List ℕ
table_bytes wide paths = table_with wide (field_bytes paths)

-- no path has a byte 0
abbrev pub HaveNoNul : List (List ℕ) → Type 0
HaveNoNul paths = AllByRecursion (λ path. AllByRecursion (λ b. b ≢ 0) path) paths
