-- An ELF file of 64 bits whose numbers have the lowest byte first (gABI, "ELF Header", "Sections", "String Table"), as the list of its sections.
use Rattle.std.specs.Prelude.{ℕ, ◌+◌, ◌-◌, ◌%◌, nat_lt, Bool, if◌then◌else◌, List, [], ◌∷◌, ◌++◌, length, map, replicate, codes, Result, Ok, Err}
use Rattle.std.specs.List.{flat_map, list_any}
use Rattle.mac_base.specs.Writing.{fixed_bytes}
use Rattle.string_sections.specs.Pool.{pool_of, pool_bytes, offset_in}
use Rattle.string_sections.specs.declared.pool.PoolFault.{PoolFault}
use Rattle.string_sections.specs.declared.pool.PoolFault.TheVariants.{TooLarge as StringsTooLarge, NoMemory as NoneLeft}
use Rattle.object_writer.specs.Gabi.{ELFCLASS64, ELFDATA2LSB, EV_CURRENT, ET_REL, ET_EXEC, EM_X86_64, SHT_PROGBITS, SHT_SYMTAB, SHT_STRTAB, SHT_RELA, SHT_GROUP}
use Rattle.object_writer.specs.declared.fault.WriteFault.{WriteFault}
use Rattle.object_writer.specs.declared.fault.WriteFault.TheVariants.{TooLarge, NoMemory}
use Rattle.object_writer.specs.declared.section.Section.{Section}
use Rattle.object_writer.specs.declared.section.SectionName.{SectionName}
use Rattle.object_writer.specs.declared.section.SectionName.TheVariants.{Group, Macro, RelaMacro, Str, StrOffsets, RelaStrOffsets, Line, Info, RelaInfo, Abbrev, Symtab, Strtab, Shstrtab}
use Rattle.object_writer.specs.declared.section.SectionType.{SectionType}
use Rattle.object_writer.specs.declared.section.SectionType.TheVariants.{Contents, Symbols, Strings, Relocations, Members}
use Rattle.object_writer.specs.declared.elf.FileType.{FileType}
use Rattle.object_writer.specs.declared.elf.FileType.TheVariants.{Relocatable, Executable}

-- a number of the type Elf64_Half
unfoldable pub half : ℕ → List ℕ
half n = fixed_bytes 2 n

-- a number of the type Elf64_Word
unfoldable pub word : ℕ → List ℕ
word n = fixed_bytes 4 n

-- a number of the type Elf64_Xword, Elf64_Addr or Elf64_Off
unfoldable pub xword : ℕ → List ℕ
xword n = fixed_bytes 8 n

-- the names of sections (DWARF 5, 7.3.2 and appendix F for those of macro information)
unfoldable pub name_of : SectionName → List ℕ
name_of Group = codes ".group"
name_of Macro = codes ".debug_macro"
name_of RelaMacro = codes ".rela.debug_macro"
name_of Str = codes ".debug_str"
name_of StrOffsets = codes ".debug_str_offsets"
name_of RelaStrOffsets = codes ".rela.debug_str_offsets"
name_of Line = codes ".debug_line"
name_of Info = codes ".debug_info"
name_of RelaInfo = codes ".rela.debug_info"
name_of Abbrev = codes ".debug_abbrev"
name_of Symtab = codes ".symtab"
name_of Strtab = codes ".strtab"
name_of Shstrtab = codes ".shstrtab"

-- sh_type
abbrev pub type_of : SectionType → ℕ
type_of Contents = SHT_PROGBITS
type_of Symbols = SHT_SYMTAB
type_of Strings = SHT_STRTAB
type_of Relocations = SHT_RELA
type_of Members = SHT_GROUP

-- e_type
abbrev pub file_type_of : FileType → ℕ
file_type_of Relocatable = ET_REL
file_type_of Executable = ET_EXEC

-- the different names of sections, in order of first section
abbrev pub names_of : List Section → List (List ℕ)
names_of sections = pool_of (map (λ s. name_of s.name) sections)

-- the string table of these names: a NUL, and each name with its NUL
abbrev pub name_table : List (List ℕ) → List ℕ
name_table names = 0 ∷ pool_bytes names

-- .shstrtab, which holds the names of these sections and its own
abbrev pub names_section : List Section → Section
names_section sections = record {
  name = Shstrtab;
  kind = Strings;
  flags = 0;
  link = 0;
  info = 0;
  entry_size = 0;
  contents = name_table (pool_of (map (λ s. name_of s.name) sections ++ name_of Shstrtab ∷ []));
}

-- these sections and .shstrtab after them
abbrev pub with_names : List Section → List Section
with_names sections = sections ++ names_section sections ∷ []

-- the contents of sections, one after another
abbrev pub contents_of : List Section → List ℕ
contents_of sections = flat_map (λ s. s.contents) sections

-- how many bytes are missing to a multiple of 8
abbrev pub padding : ℕ → ℕ
padding n = (8 - n % 8) % 8

-- where the contents of sections end, which begin after the header of 64 bytes
abbrev pub contents_end : List Section → ℕ
contents_end sections = 64 + length (contents_of sections)

-- e_ident, e_type, e_machine and e_version
unfoldable pub identification : FileType → List ℕ
identification kind =
    0x7f ∷ 0x45 ∷ 0x4c ∷ 0x46 ∷ ELFCLASS64 ∷ ELFDATA2LSB ∷ EV_CURRENT ∷ 0 ∷ 0 ∷ 0 ∷ 0 ∷ 0 ∷ 0 ∷ 0 ∷ 0 ∷ 0 ∷ (half (file_type_of kind) ++ (half EM_X86_64 ++ word EV_CURRENT))

-- e_entry, e_phoff, e_shoff, which is where the section header table begins, and e_flags
unfoldable pub places : ℕ → List ℕ
places table = xword 0 ++ (xword 0 ++ (xword table ++ word 0))

-- e_ehsize, e_phentsize, e_phnum, e_shentsize, e_shnum and e_shstrndx, where the last of so many sections is .shstrtab
unfoldable pub sizes : ℕ → List ℕ
sizes count = half 64 ++ (half 0 ++ (half 0 ++ (half 64 ++ (half count ++ half (count - 1)))))

-- The ELF header, by the place of the section header table and the number of its entries.
unfoldable pub file_header : FileType → ℕ → ℕ → List ℕ
file_header kind table count = identification kind ++ (places table ++ sizes count)

-- sh_name, where these are the names, sh_type, sh_flags and sh_addr
unfoldable pub header_start : List (List ℕ) → Section → List ℕ
header_start names s = word (1 + offset_in names (name_of s.name)) ++ (word (type_of s.kind) ++ (xword s.flags ++ xword 0))

-- sh_offset, sh_size, sh_link, sh_info, sh_addralign and sh_entsize of a section whose contents are at a place
unfoldable pub header_rest : ℕ → Section → List ℕ
header_rest at s = xword at ++ (xword (length s.contents) ++ (word s.link ++ (word s.info ++ (xword 1 ++ xword s.entry_size))))

-- the header of a section
unfoldable pub section_header : List (List ℕ) → ℕ → Section → List ℕ
section_header names at s = header_start names s ++ header_rest at s

-- the headers of sections whose contents follow each other from a place on
abbrev pub headers_from : List (List ℕ) → ℕ → List Section → List ℕ
headers_from names at [] = []
headers_from names at (s ∷ sections) = section_header names at s ++ headers_from names (at + length s.contents) sections

-- where the section header table begins
abbrev pub table_place : List Section → ℕ
table_place sections = contents_end sections + padding (contents_end sections)

-- The file of these sections, of which the last is .shstrtab: the ELF header, the contents one after another, zero bytes up to a multiple of 8, and the section header table, whose entry 0 has 64 zero bytes.
unfoldable pub elf_file : FileType → List Section → List ℕ
elf_file kind sections =
    file_header kind (table_place sections) (1 + length sections)
    ++ (contents_of sections
    ++ (replicate (padding (contents_end sections)) 0
    ++ (replicate 64 0 ++ headers_from (names_of sections) 64 sections)))

-- the most bytes of a section: the project's own limit
abbrev pub section_limit : ℕ
section_limit = 1_073_741_824

-- whether a section has more
abbrev pub is_too_large : Section → Bool
is_too_large s = nat_lt section_limit (length s.contents)

-- the file of these sections and .shstrtab, or the fault where one of them is too large
abbrev pub written : FileType → List Section → Result (List ℕ) WriteFault
written kind sections = if list_any is_too_large (with_names sections) then Err TooLarge else Ok (elf_file kind (with_names sections))

-- the fault for want of memory
abbrev pub ran_out : WriteFault
ran_out = NoMemory

-- a fault of a pool of strings
abbrev pub pool_fault : PoolFault → WriteFault
pool_fault StringsTooLarge = TooLarge
pool_fault NoneLeft = NoMemory
