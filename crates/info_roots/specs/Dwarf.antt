-- The constants of DWARF that the first entry of a compilation unit is read by (DWARF 5, tables 7.2 to 7.6).
use Rattle.std.specs.Prelude.{ℕ}

-- the type of the header of a full compilation unit (table 7.2)
abbrev pub DW_UT_compile : ℕ
DW_UT_compile = 0x01

-- the tag of its first entry (table 7.3)
abbrev pub DW_TAG_compile_unit : ℕ
DW_TAG_compile_unit = 0x11

-- the attributes that are read (table 7.5)
abbrev pub DW_AT_name : ℕ
DW_AT_name = 0x03

abbrev pub DW_AT_stmt_list : ℕ
DW_AT_stmt_list = 0x10

abbrev pub DW_AT_comp_dir : ℕ
DW_AT_comp_dir = 0x1b

abbrev pub DW_AT_str_offsets_base : ℕ
DW_AT_str_offsets_base = 0x72

abbrev pub DW_AT_macros : ℕ
DW_AT_macros = 0x79

-- the form whose value is preceded by its own form, and the one whose value is in the abbreviation (table 7.6)
abbrev pub DW_FORM_indirect : ℕ
DW_FORM_indirect = 0x16

abbrev pub DW_FORM_implicit_const : ℕ
DW_FORM_implicit_const = 0x21
