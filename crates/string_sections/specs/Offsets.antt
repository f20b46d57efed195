-- The entries of a section of string offsets (DWARF 5, 7.4 and 7.26).
use Rattle.std.specs.Prelude.{ℕ, ◌+◌, ◌*◌, nat_le, Bool, if◌then◌else◌, List, length, take, drop, Option, Some, None}
use Rattle.mac_base.specs.Fields.{little_endian}

-- a section of string offsets, and whether its entries have 8 bytes
pub record OffsetTable : Type 0 where
  pub section : List ℕ
  pub wide : Bool

-- the bytes of an entry
abbrev pub entry_width : Bool → ℕ
entry_width wide = if wide then 8 else 4

-- where the entry of an index begins, after those before it
abbrev pub entry_place : Bool → ℕ → ℕ → ℕ
entry_place wide base index = base + index * entry_width wide

-- the number of so many bytes at a place of the section, where they are inside it
abbrev pub number_of : List ℕ → ℕ → ℕ → Option ℕ
number_of section width place = if nat_le (place + width) (length section) then Some (little_endian (take width (drop place section))) else None

-- the entry of an index, counted from the base
abbrev pub offset_of : OffsetTable → ℕ → ℕ → Option ℕ
offset_of t base index = number_of t.section (entry_width t.wide) (entry_place t.wide base index)
