-- What a file that isn't rejected gives: the sections of the family outside groups, by name.
use Rattle.std.specs.Prelude.{ℕ, Bool, if◌then◌else◌, List, [], Option, None}
use Rattle.std.specs.Prelude.{codes}
use Rattle.std.specs.Option.{option_map, unwrap_or}
use Rattle.std.specs.List.{list_any}
use Rattle.std.specs.Str.{bytes_eq}
use Rattle.mac_base.specs.SectionBytes.{SectionBytes}
use Rattle.section_views.specs.declared.header.SectionHeader.{SectionHeader}
use Rattle.section_views.specs.SectionTable.{section_count, contents_of}
use Rattle.section_views.specs.Family.{family_names, first_member}

-- one of the seven names
abbrev pub is_family_name : List ℕ → Bool
is_family_name name = list_any (bytes_eq name) family_names

-- the section of a name of the family; another name has none
abbrev pub section_named : List ℕ → List ℕ → Option SectionHeader
section_named file name = if is_family_name name then first_member file (section_count file) name else None

-- its number
abbrev pub number_of : List ℕ → List ℕ → Option ℕ
number_of file name = option_map (λ s. s.number) (section_named file name)

-- its contents
abbrev pub section_of : List ℕ → List ℕ → Option (List ℕ)
section_of file name = option_map (contents_of file) (section_named file name)

-- its contents, or nothing where the file lacks it
abbrev pub bytes_named : List ℕ → List ℕ → List ℕ
bytes_named file name = unwrap_or (section_of file name) []

-- the seven of them
abbrev pub view_of : List ℕ → SectionBytes
view_of file = record {
  macros = bytes_named file (codes ".debug_macro");
  strs = bytes_named file (codes ".debug_str");
  str_offsets = bytes_named file (codes ".debug_str_offsets");
  lines = bytes_named file (codes ".debug_line");
  line_strs = bytes_named file (codes ".debug_line_str");
  info = bytes_named file (codes ".debug_info");
  abbrevs = bytes_named file (codes ".debug_abbrev");
}
