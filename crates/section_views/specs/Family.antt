-- The sections that macro information rests on, among those of a file (DWARF 5, 6.3; gABI, "Sections").
use Rattle.std.specs.Prelude.{ℕ, Bool, false, not, ◌&&◌, List, [], ◌∷◌, find, Option}
use Rattle.std.specs.Option.{option_map_or, is_some}
use Rattle.std.specs.List.{list_any}
use Rattle.std.specs.Str.{bytes_eq}
use Rattle.std.specs.Prelude.{codes}
use Rattle.section_views.specs.declared.header.SectionHeader.{SectionHeader}
use Rattle.section_views.specs.SectionTable.{sections_before, has_contents, is_grouped, is_compressed, names_of, name_in}

-- their names
abbrev pub family_names : List (List ℕ)
family_names =
    codes ".debug_macro"
    ∷ codes ".debug_str"
    ∷ codes ".debug_str_offsets"
    ∷ codes ".debug_line"
    ∷ codes ".debug_line_str"
    ∷ codes ".debug_info"
    ∷ codes ".debug_abbrev"
    ∷ []

-- whether there is a text, and it is this one
abbrev pub is_text : List ℕ → Option (List ℕ) → Bool
is_text name text = option_map_or (bytes_eq name) text false

-- a section has this name
abbrev pub is_named : List ℕ → List ℕ → SectionHeader → Bool
is_named names name s = is_text name (name_in names s)

-- a section of the family; one without contents counts as absent
abbrev pub is_family : List ℕ → SectionHeader → Bool
is_family names s = has_contents s && list_any (λ name. is_named names name s) family_names

-- a section outside groups that has contents and this name: a member of the family, where the name is one of its names
abbrev pub is_member : List ℕ → List ℕ → SectionHeader → Bool
is_member names name s = has_contents s && not (is_grouped s) && is_named names name s

-- the first of this name before number n
abbrev pub first_member : List ℕ → ℕ → List ℕ → Option SectionHeader
first_member file n name = find (is_member (names_of file) name) (sections_before file n)

-- a section of the family with the flag of compression, in a group or not
abbrev pub is_compressed_family : List ℕ → SectionHeader → Bool
is_compressed_family names s = is_compressed s && is_family names s

-- a section of the family outside groups, whose name an earlier one has too
abbrev pub is_second : List ℕ → SectionHeader → Bool
is_second file s = list_any (λ name. is_member (names_of file) name s && is_some (first_member file s.number name)) family_names
