-- The units of .debug_info and their roots (DWARF 5, 7.5.1.1).
use Rattle.std.specs.Prelude.{ℕ, ◌==◌, ◌&&◌, nat_lt, nat_le, Bool, if◌then◌else◌, length, Option, Some, None, Result, Ok, Err}
use Rattle.mac_base.specs.Input.{Input, ◌>>=◌}
use Rattle.mac_base.specs.Fields.{number_at, uleb_at}
use Rattle.mac_base.specs.SectionBytes.{SectionBytes}
use Rattle.mac_base.specs.declared.value.Sizes.{Sizes}
use Rattle.mac_base.specs.Values.{offset_at}
use Rattle.info_roots.specs.declared.fault.InfoFault.{InfoFault}
use Rattle.info_roots.specs.declared.fault.InfoKind.TheVariants.{Version, AbbrevRange, Abbrev}
use Rattle.info_roots.specs.declared.root.Root.{Root}
use Rattle.info_roots.specs.Dwarf.{DW_UT_compile, DW_TAG_compile_unit}
use Rattle.info_roots.specs.Faults.{field, fault_at}
use Rattle.info_roots.specs.Abbreviations.{Abbreviation, abbreviation_in}
use Rattle.info_roots.specs.Entries.{Entry, entry_at, no_entry}
use Rattle.info_roots.specs.Texts.{root_by}

-- an entry without DW_AT_macros is no root
abbrev pub root_in : SectionBytes → ℕ → Bool → Entry → Option ℕ → Result (Option Root) InfoFault
root_in s at wide e None = Ok None
root_in s at wide e (Some macros) = root_by s at wide e macros >>= λ root. Ok (Some root)

-- the attributes of an entry of another tag than DW_TAG_compile_unit are not read
abbrev pub entry_root : SectionBytes → ℕ → Sizes → ℕ → Input → Option Abbreviation → Result (Option Root) InfoFault
entry_root s at sizes place p None = Err (fault_at place Abbrev)
entry_root s at sizes place p (Some abbreviation) =
    if abbreviation.tag == DW_TAG_compile_unit then (entry_at sizes abbreviation.attributes no_entry p >>= λ e. root_in s at sizes.wide e.0 e.0.macros)
    else Ok None

-- the first entry, whose abbreviation is in the table at this offset; an entry with code 0 is none
unfoldable pub first_at : SectionBytes → ℕ → Sizes → ℕ → Input → Result (Option Root) InfoFault
first_at s at sizes table p = do
  code ← field (uleb_at p)
  if code.0 == 0 then Ok None else entry_root s at sizes p.at code.1 (abbreviation_in s.abbrevs table code.0)

-- address_size and debug_abbrev_offset
abbrev pub compile_at : SectionBytes → ℕ → Bool → Input → Result (Option Root) InfoFault
compile_at s at wide p = do
  address ← field (number_at 1 p)
  table ← field (offset_at wide address.1)
  if nat_lt table.0 (length s.abbrevs) then first_at s at (record { wide = wide; address = address.0 }) table.0 table.1 else Err (fault_at address.1.at AbbrevRange)

-- unit_type: units of other types than DW_UT_compile are passed over
unfoldable pub fields_at : SectionBytes → ℕ → Bool → Input → Result (Option Root) InfoFault
fields_at s at wide p = do
  kind ← field (number_at 1 p)
  if kind.0 == DW_UT_compile then compile_at s at wide kind.1 else Ok None

-- the root of the unit at this place, whose version is next: units of versions 2 to 4 are passed over
abbrev pub unit_at : SectionBytes → ℕ → Bool → Input → Result (Option Root) InfoFault
unit_at s at wide p = do
  version ← field (number_at 2 p)
  if version.0 == 5 then fields_at s at wide version.1
      else if nat_le 2 version.0 && nat_le version.0 4 then Ok None
      else Err (fault_at p.at Version)
