-- The strings of a root: those with an offset are looked up first, then those with an index (DWARF 5, 7.5.5).
use Rattle.std.specs.Prelude.{ℕ, Bool, if◌then◌else◌, List, [], Option, Some, None, Result, Ok, Err}
use Rattle.mac_base.specs.Input.{◌>>=◌}
use Rattle.mac_base.specs.SectionBytes.{SectionBytes}
use Rattle.string_sections.specs.Strings.{string_of}
use Rattle.string_sections.specs.Offsets.{offset_of}
use Rattle.info_roots.specs.declared.fault.InfoFault.{InfoFault}
use Rattle.info_roots.specs.declared.fault.InfoKind.TheVariants.{StrRange, NoStrBase, StrxRange}
use Rattle.info_roots.specs.declared.root.Root.{Root}
use Rattle.info_roots.specs.Faults.{fault_at}
use Rattle.info_roots.specs.Entries.{Text, Here, Str, LineStr, Index, Entry}

-- the string that was looked up for the unit at this place
abbrev pub found_at : ℕ → Option (List ℕ) → Result (List ℕ) InfoFault
found_at at None = Err (fault_at at StrRange)
found_at at (Some text) = Ok text

-- the string at this offset of a section; at is the place of the fault where there is none
abbrev pub string_by : List ℕ → ℕ → ℕ → Result Text InfoFault
string_by section off at = found_at at (string_of section off) >>= λ text. Ok (Here text)

-- a string with an offset as the string itself; one that the entry lacks is empty
abbrev pub offset_text : SectionBytes → ℕ → Option Text → Result Text InfoFault
offset_text s at None = Ok (Here [])
offset_text s at (Some (Here text)) = Ok (Here text)
offset_text s at (Some (Str off)) = string_by s.strs off at
offset_text s at (Some (LineStr off)) = string_by s.line_strs off at
offset_text s at (Some (Index index)) = Ok (Index index)

-- the string at the offset that the table of offsets has
abbrev pub listed_text : SectionBytes → ℕ → Option ℕ → Result (List ℕ) InfoFault
listed_text s at None = Err (fault_at at StrxRange)
listed_text s at (Some off) = found_at at (string_of s.strs off)

-- the entries of the table begin at the unit's base
abbrev pub based_text : SectionBytes → ℕ → Bool → Option ℕ → ℕ → Result (List ℕ) InfoFault
based_text s at wide None index = Err (fault_at at NoStrBase)
based_text s at wide (Some base) index = listed_text s at (offset_of (record { section = s.str_offsets; wide = wide }) base index)

-- a string with an index as the string itself
abbrev pub index_text : SectionBytes → ℕ → Bool → Option ℕ → Text → Result (List ℕ) InfoFault
index_text s at wide base (Here text) = Ok text
index_text s at wide base (Index index) = based_text s at wide base index
index_text s at wide base _ = Ok []

-- those with an index, in the order of the entry: the name and the directory
abbrev pub index_texts : SectionBytes → ℕ → Bool → Entry → Text → Text → Result (List ℕ × List ℕ) InfoFault
index_texts s at wide e name dir =
    if e.dir_first then (index_text s at wide e.str_base dir >>= λ d. index_text s at wide e.str_base name >>= λ n. Ok (n, d))
    else (index_text s at wide e.str_base name >>= λ n. index_text s at wide e.str_base dir >>= λ d. Ok (n, d))

-- the name and the directory of an entry. A fault of an offset is the same whichever comes first.
unfoldable pub texts_by : SectionBytes → ℕ → Bool → Entry → Result (List ℕ × List ℕ) InfoFault
texts_by s at wide e = do
  name ← offset_text s at e.name
  dir ← offset_text s at e.dir
  index_texts s at wide e name dir

-- the root of an entry
abbrev pub root_by : SectionBytes → ℕ → Bool → Entry → ℕ → Result Root InfoFault
root_by s at wide e macros = texts_by s at wide e >>= λ texts. Ok (record { name = texts.0; dir = texts.1; macros = macros; line = e.line; str_base = e.str_base; wide = wide })
