-- The constants of ELF that are read, by the gABI's names ("ELF Header" and "Sections").
use Rattle.std.specs.Prelude.{ℕ, List, [], ◌∷◌}

-- e_ident[EI_MAG0] to e_ident[EI_MAG3]: 7f and `ELF`
abbrev pub ELFMAG : List ℕ
ELFMAG = 0x7f ∷ 0x45 ∷ 0x4c ∷ 0x46 ∷ []

-- where fields of the ELF header of a 64-bit file are
abbrev pub EI_CLASS : ℕ
EI_CLASS = 4

abbrev pub EI_DATA : ℕ
EI_DATA = 5

-- e_ident[EI_CLASS] of a 64-bit file
abbrev pub ELFCLASS64 : ℕ
ELFCLASS64 = 2

-- e_ident[EI_DATA] of a file whose numbers have the lowest byte first
abbrev pub ELFDATA2LSB : ℕ
ELFDATA2LSB = 1

-- e_type of an executable, and of a shared object
abbrev pub ET_EXEC : ℕ
ET_EXEC = 2

abbrev pub ET_DYN : ℕ
ET_DYN = 3

-- e_shstrndx where there is no such section, and where the header can't hold the number
abbrev pub SHN_UNDEF : ℕ
SHN_UNDEF = 0

abbrev pub SHN_XINDEX : ℕ
SHN_XINDEX = 0xffff

-- values of sh_type
abbrev pub SHT_NULL : ℕ
SHT_NULL = 0

abbrev pub SHT_STRTAB : ℕ
SHT_STRTAB = 3

abbrev pub SHT_NOBITS : ℕ
SHT_NOBITS = 8

-- flags of sh_flags
abbrev pub SHF_GROUP : ℕ
SHF_GROUP = 0x200

abbrev pub SHF_COMPRESSED : ℕ
SHF_COMPRESSED = 0x800
