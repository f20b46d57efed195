-- Why a file is rejected: the faults of its headers, each tested over the whole file before the next.
use Rattle.std.specs.Prelude.{ℕ, ◌+◌, ◌*◌, ◌==◌, nat_lt, nat_le, Bool, not, ◌||◌, if◌then◌else◌, List, [], ◌∷◌, length, find, Option, None, Some}
use Rattle.std.specs.Option.{option_map, option_or, is_none}
use Rattle.section_views.specs.declared.fault.ElfFault.{ElfFault}
use Rattle.section_views.specs.declared.fault.ElfFault.TheVariants.{NotElf, Class, Order, Kind, Extended, Table, Range, Name, Compressed, Twice}
use Rattle.section_views.specs.declared.header.SectionHeader.{SectionHeader}
use Rattle.section_views.specs.Gabi.{ELFCLASS64, ELFDATA2LSB, SHN_UNDEF, SHT_STRTAB}
use Rattle.section_views.specs.FileHeader.{is_elf, class_of, order_of, kind_of, is_linked, table_offset, has_table, entry_size, entry_count, names_number, is_extended}
use Rattle.section_views.specs.SectionTable.{section_count, header_at, sections_of, is_outside, names_of, name_in}
use Rattle.section_views.specs.Family.{is_compressed_family, is_second}

-- a fault, where a test holds
abbrev pub where_true : Bool → ElfFault → Option ElfFault
where_true test fault = if test then Some fault else None

-- a fault with the number of the first section for which a test holds
abbrev pub at_first : (SectionHeader → Bool) → (ℕ → ElfFault) → List SectionHeader → Option ElfFault
at_first test fault sections = option_map (λ s. fault s.number) (find test sections)

-- the first of these that is one
abbrev pub first_of : List (Option ElfFault) → Option ElfFault
first_of [] = None
first_of (fault ∷ faults) = option_or fault (first_of faults)

-- no 64-bit file with the lowest byte first that is linked
unfoldable pub header_fault : List ℕ → Option ElfFault
header_fault file =
    first_of (
    where_true (not (is_elf file)) NotElf
    ∷ where_true (not (class_of file == ELFCLASS64)) Class
    ∷ where_true (not (order_of file == ELFDATA2LSB)) Order
    ∷ where_true (not (is_linked (kind_of file))) Kind
    ∷ [])

-- a table of sections whose size isn't told in the header, whose entries haven't 64 bytes (e_shentsize is at 58), or that isn't inside the file
unfoldable pub table_fault : List ℕ → Option ElfFault
table_fault file =
    if has_table file
    then
    first_of (
    where_true (is_extended file) Extended
    ∷ where_true (not (entry_size file == 64)) (Table 58)
    ∷ where_true (nat_lt (length file) (table_offset file + 64 * entry_count file)) (Table (table_offset file))
    ∷ [])
    else None

-- contents that aren't inside the file
unfoldable pub range_fault : List ℕ → Option ElfFault
range_fault file = at_first (is_outside (length file)) Range (sections_of file)

-- the number of the section of names is that of no section, as SHN_UNDEF is, or the section is no string table
abbrev pub lacks_names : List ℕ → Bool
lacks_names file = names_number file == SHN_UNDEF || nat_le (section_count file) (names_number file) || not ((header_at file (names_number file)).kind == SHT_STRTAB)

-- a section whose name no NUL ends
abbrev pub is_nameless : List ℕ → SectionHeader → Bool
is_nameless names s = is_none (name_in names s)

-- sections without a section of names, or without a name in it
unfoldable pub name_fault : List ℕ → Option ElfFault
name_fault file =
    if section_count file == 0
    then None
    else
    first_of (
    where_true (lacks_names file) (Name (names_number file))
    ∷ at_first (is_nameless (names_of file)) Name (sections_of file)
    ∷ [])

-- a section of the family that is compressed
unfoldable pub compression_fault : List ℕ → Option ElfFault
compression_fault file = at_first (is_compressed_family (names_of file)) Compressed (sections_of file)

-- a second section of one name of the family
unfoldable pub second_fault : List ℕ → Option ElfFault
second_fault file = at_first (is_second file) Twice (sections_of file)

-- the fault for which a file is rejected
abbrev pub first_fault : List ℕ → Option ElfFault
first_fault file =
    first_of (
    header_fault file
    ∷ table_fault file
    ∷ range_fault file
    ∷ name_fault file
    ∷ compression_fault file
    ∷ second_fault file
    ∷ [])
