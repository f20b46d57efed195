-- The sections of a file (gABI, "Sections": the section header table, and the string table that holds the names).
use Rattle.std.specs.Prelude.{ℕ, ◌+◌, ◌-◌, ◌*◌, ◌==◌, nat_lt, bit_and, Bool, not, ◌&&◌, if◌then◌else◌, Option, List, [], map, take, drop}
use Rattle.std.specs.List.{range_with_len}
use Rattle.mac_base.specs.Fields.{before_nul}
use Rattle.section_views.specs.declared.header.SectionHeader.{SectionHeader}
use Rattle.section_views.specs.Gabi.{SHT_NULL, SHT_NOBITS, SHF_GROUP, SHF_COMPRESSED}
use Rattle.section_views.specs.FileHeader.{number_in, table_offset, has_table, entry_count, names_number}

-- how many entries there are
abbrev pub section_count : List ℕ → ℕ
section_count file = if has_table file then entry_count file else 0

-- entry n of the table, which has 64 bytes: sh_name, sh_type, sh_flags, sh_offset and sh_size
unfoldable pub header_at : List ℕ → ℕ → SectionHeader
header_at file n =
    let at = table_offset file + 64 * n in
    record {
      number = n;
      name = number_in file at 4;
      kind = number_in file (at + 4) 4;
      flags = number_in file (at + 8) 8;
      offset = number_in file (at + 24) 8;
      size = number_in file (at + 32) 8;
    }

-- the sections before number n; they are counted from 1 on, since entry 0 is no section
abbrev pub sections_before : List ℕ → ℕ → List SectionHeader
sections_before file n = map (header_at file) (range_with_len 1 (n - 1))

-- all of them
abbrev pub sections_of : List ℕ → List SectionHeader
sections_of file = sections_before file (section_count file)

-- a section of type SHT_NULL or SHT_NOBITS has no bytes in the file
abbrev pub has_contents : SectionHeader → Bool
has_contents s = not (s.kind == SHT_NULL) && not (s.kind == SHT_NOBITS)

-- the bytes of a section, from sh_offset on
abbrev pub contents_of : List ℕ → SectionHeader → List ℕ
contents_of file s = take s.size (drop s.offset file)

-- by sh_offset and sh_size the contents aren't inside a file of this length
abbrev pub is_outside : ℕ → SectionHeader → Bool
is_outside len s = has_contents s && nat_lt len (s.offset + s.size)

-- the flag SHF_GROUP: the section belongs to a group
abbrev pub is_grouped : SectionHeader → Bool
is_grouped s = not (bit_and s.flags SHF_GROUP == 0)

-- the flag SHF_COMPRESSED
abbrev pub is_compressed : SectionHeader → Bool
is_compressed s = not (bit_and s.flags SHF_COMPRESSED == 0)

-- the names of all sections, each with a NUL, are the contents of one of them; a file without sections has none
abbrev pub names_of : List ℕ → List ℕ
names_of file = if section_count file == 0 then [] else contents_of file (header_at file (names_number file))

-- the name of a section: the bytes before the first NUL from sh_name on
abbrev pub name_in : List ℕ → SectionHeader → Option (List ℕ)
name_in names s = before_nul (drop s.name names)
