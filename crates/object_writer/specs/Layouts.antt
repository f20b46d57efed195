-- The numbers of the sections of an object: for each piece .group, .debug_macro and .rela.debug_macro, and then the sections of the root. A section's symbol has the section's number.
use Rattle.std.specs.Prelude.{ℕ, ◌+◌, ◌*◌, if◌then◌else◌}
use Rattle.object_writer.specs.declared.layout.Layout.{Layout}

-- .group of piece k
abbrev pub group_number : ℕ → ℕ
group_number k = 3 * k + 1

-- and its .debug_macro, which .rela.debug_macro follows
abbrev pub piece_macro_number : ℕ → ℕ
piece_macro_number k = 3 * k + 2

-- .debug_macro of the root, which .rela.debug_macro follows
abbrev pub macro_number : Layout → ℕ
macro_number layout = 3 * layout.pieces + 1

-- .debug_str
abbrev pub str_number : Layout → ℕ
str_number layout = macro_number layout + 2

-- .debug_str_offsets, which its relocations follow, where definitions of the root are by index
abbrev pub offsets_number : Layout → ℕ
offsets_number layout = macro_number layout + 3

-- .debug_line
abbrev pub line_number : Layout → ℕ
line_number layout = macro_number layout + (if layout.indexed then 5 else 3)

-- .debug_info, which .rela.debug_info follows
abbrev pub info_number : Layout → ℕ
info_number layout = line_number layout + 1

-- .debug_abbrev, the last section that has a symbol
abbrev pub abbrev_number : Layout → ℕ
abbrev_number layout = line_number layout + 3

-- .symtab, which .strtab follows
abbrev pub symtab_number : Layout → ℕ
symtab_number layout = line_number layout + 4

-- the symbol of piece k, after those of sections
abbrev pub piece_symbol : Layout → ℕ → ℕ
piece_symbol layout k = abbrev_number layout + 1 + k
