-- The content types of directories and files by their names (DWARF 5, table 7.27).
use Rattle.std.specs.Prelude.{ℕ}

abbrev pub DW_LNCT_path : ℕ
DW_LNCT_path = 1

abbrev pub DW_LNCT_directory_index : ℕ
DW_LNCT_directory_index = 2
