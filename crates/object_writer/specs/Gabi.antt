-- The constants of ELF that are written, by the names of the gABI ("ELF Header", "Sections", "Symbol Table") and of the processor supplement for x86-64 ("Relocation").
use Rattle.std.specs.Prelude.{ℕ}

-- e_ident[EI_CLASS] of a 64-bit file, and e_ident[EI_DATA] of one whose numbers have the lowest byte first
abbrev pub ELFCLASS64 : ℕ
ELFCLASS64 = 2

abbrev pub ELFDATA2LSB : ℕ
ELFDATA2LSB = 1

-- e_ident[EI_VERSION] and e_version
abbrev pub EV_CURRENT : ℕ
EV_CURRENT = 1

-- values of e_type
abbrev pub ET_REL : ℕ
ET_REL = 1

abbrev pub ET_EXEC : ℕ
ET_EXEC = 2

-- e_machine of x86-64
abbrev pub EM_X86_64 : ℕ
EM_X86_64 = 62

-- values of sh_type
abbrev pub SHT_PROGBITS : ℕ
SHT_PROGBITS = 1

abbrev pub SHT_SYMTAB : ℕ
SHT_SYMTAB = 2

abbrev pub SHT_STRTAB : ℕ
SHT_STRTAB = 3

abbrev pub SHT_RELA : ℕ
SHT_RELA = 4

abbrev pub SHT_GROUP : ℕ
SHT_GROUP = 17

-- flags of sh_flags
abbrev pub SHF_MERGE : ℕ
SHF_MERGE = 0x10

abbrev pub SHF_STRINGS : ℕ
SHF_STRINGS = 0x20

abbrev pub SHF_INFO_LINK : ℕ
SHF_INFO_LINK = 0x40

abbrev pub SHF_GROUP : ℕ
SHF_GROUP = 0x200

-- the first word of a group whose members are kept once
abbrev pub GRP_COMDAT : ℕ
GRP_COMDAT = 1

-- st_info of a local symbol without a type, and of the local symbol of a section
abbrev pub STT_NOTYPE : ℕ
STT_NOTYPE = 0

abbrev pub STT_SECTION : ℕ
STT_SECTION = 3

-- types of relocations: a field of 8 bytes, and one of 4, each of which gets the symbol's value and the addend
abbrev pub R_X86_64_64 : ℕ
R_X86_64_64 = 1

abbrev pub R_X86_64_32 : ℕ
R_X86_64_32 = 10
