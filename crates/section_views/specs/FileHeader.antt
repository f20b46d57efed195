-- The fields of the ELF header that lead to the sections of a file (gABI, "ELF Header", the 64-bit layout).
use Rattle.std.specs.Prelude.{ℕ, ◌==◌, nat_le, Bool, not, ◌&&◌, ◌||◌, List, length, take, drop}
use Rattle.std.specs.List.{starts_with}
use Rattle.std.specs.Prelude.{nat_eq}
use Rattle.mac_base.specs.Fields.{little_endian}
use Rattle.section_views.specs.Gabi.{ELFMAG, EI_CLASS, EI_DATA, ET_EXEC, ET_DYN, SHN_XINDEX}

-- the number in so many bytes from a place on, the lowest byte first
abbrev pub number_in : List ℕ → ℕ → ℕ → ℕ
number_in file at width = little_endian (take width (drop at file))

-- a whole header of 64 bytes, whose e_ident begins with ELFMAG
abbrev pub is_elf : List ℕ → Bool
is_elf file = nat_le 64 (length file) && starts_with nat_eq file ELFMAG

-- e_ident[EI_CLASS]: ELFCLASS64 for 64-bit files
abbrev pub class_of : List ℕ → ℕ
class_of file = number_in file EI_CLASS 1

-- e_ident[EI_DATA]: ELFDATA2LSB where numbers have the lowest byte first
abbrev pub order_of : List ℕ → ℕ
order_of file = number_in file EI_DATA 1

-- e_type
abbrev pub kind_of : List ℕ → ℕ
kind_of file = number_in file 16 2

-- an executable, or a shared object
abbrev pub is_linked : ℕ → Bool
is_linked kind = kind == ET_EXEC || kind == ET_DYN

-- e_shoff: where the table of sections begins
abbrev pub table_offset : List ℕ → ℕ
table_offset file = number_in file 40 8

-- a file whose e_shoff is 0 has no table
abbrev pub has_table : List ℕ → Bool
has_table file = not (table_offset file == 0)

-- e_shentsize: the length of an entry of the table
abbrev pub entry_size : List ℕ → ℕ
entry_size file = number_in file 58 2

-- e_shnum: how many entries the table has
abbrev pub entry_count : List ℕ → ℕ
entry_count file = number_in file 60 2

-- e_shstrndx: the number of the section that holds the names of sections
abbrev pub names_number : List ℕ → ℕ
names_number file = number_in file 62 2

-- more entries than e_shnum can count, or a number that e_shstrndx can't hold
abbrev pub is_extended : List ℕ → Bool
is_extended file = entry_count file == 0 || names_number file == SHN_XINDEX
