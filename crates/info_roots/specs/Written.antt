-- The bytes of .debug_info and .debug_abbrev that are written of roots: one compilation unit for each, with one entry (DWARF 5, 3.1.1, 7.5.1.1 and 7.5.3).
use Rattle.std.specs.Prelude.{◌≢◌, ℕ, ◌<◌, ◌^◌, Bool, List, [], ◌∷◌, ◌++◌, length, flat_map, Option, Some, None}
use Rattle.std.specs.List.{AllByRecursion}
use Rattle.mac_base.specs.Values.{offset_width}
use Rattle.mac_base.specs.Writing.{length_bytes, offset_bytes, string_bytes}
use Rattle.info_roots.specs.declared.root.Root.{Root}

-- The table of abbreviations of a written file: four of DW_TAG_compile_unit without children, with codes 1 to 4, and the 0 that ends the table. Each has DW_AT_name and DW_AT_comp_dir in DW_FORM_string and DW_AT_macros in DW_FORM_sec_offset. Codes 1 and 2 have DW_AT_stmt_list too, and codes 2 and 4 DW_AT_str_offsets_base, in the same form.
unfoldable pub abbrev_bytes : List ℕ
abbrev_bytes =
    0x01 ∷ 0x11 ∷ 0x00 ∷ 0x03 ∷ 0x08 ∷ 0x1b ∷ 0x08 ∷ 0x79 ∷ 0x17 ∷ 0x10 ∷ 0x17 ∷ 0x00 ∷ 0x00 ∷ 0x02 ∷ 0x11 ∷ 0x00 ∷ 0x03 ∷ 0x08 ∷ 0x1b ∷ 0x08 ∷ 0x79 ∷ 0x17 ∷ 0x10 ∷ 0x17 ∷ 0x72 ∷ 0x17 ∷ 0x00 ∷ 0x00 ∷ 0x03 ∷ 0x11 ∷ 0x00 ∷ 0x03 ∷ 0x08 ∷ 0x1b ∷ 0x08 ∷ 0x79 ∷ 0x17 ∷ 0x00 ∷ 0x00 ∷ 0x04 ∷ 0x11 ∷ 0x00 ∷ 0x03 ∷ 0x08 ∷ 0x1b ∷ 0x08 ∷ 0x79 ∷ 0x17 ∷ 0x72 ∷ 0x17 ∷ 0x00 ∷ 0x00 ∷ 0x00 ∷ []

-- the code of the abbreviation that has what a root has: a line table, a base of string offsets
abbrev pub code_for : Option ℕ → Option ℕ → ℕ
code_for (Some line) None = 1
code_for (Some line) (Some base) = 2
code_for None None = 3
code_for None (Some base) = 4

-- an offset where there is one
abbrev pub optional_bytes : Bool → Option ℕ → List ℕ
optional_bytes wide None = []
optional_bytes wide (Some n) = offset_bytes wide n

-- version 5, DW_UT_compile, addresses of 8 bytes, the table of abbreviations at 0, and the entry: its code, and its values in the order of the abbreviation
unfoldable pub body_bytes : Root → List ℕ
body_bytes root =
    5 ∷ 0 ∷ 1 ∷ 8 ∷ (offset_bytes root.wide 0 ++ (code_for root.line root.str_base ∷ (string_bytes root.name ++ (string_bytes root.dir ++ (offset_bytes root.wide root.macros ++ (optional_bytes root.wide root.line ++ optional_bytes root.wide root.str_base))))))

-- the unit of a root, whose length doesn't count itself
unfoldable pub unit_bytes : Root → List ℕ
unit_bytes root = length_bytes root.wide (length (body_bytes root)) ++ body_bytes root

-- the units of roots, in order
abbrev pub info_bytes : List Root → List ℕ
info_bytes roots = flat_map unit_bytes roots

-- an offset, where there is one, fits the width of the unit's offsets
abbrev pub Fits : Bool → Option ℕ → Type 0
Fits wide None = Unit {0}
Fits wide (Some n) = n < 256 ^ offset_width wide

-- the offsets of a root fit the width of those of its unit
pub record OffsetsFit (root : Root) : Type 0 where
  pub macros : root.macros < 256 ^ offset_width root.wide
  pub line : Fits root.wide root.line
  pub str_base : Fits root.wide root.str_base

-- a root that is read again as it was written: its offsets fit, and its texts have no byte 0
pub record IsWritable (root : Root) : Type 0 where
  pub name : AllByRecursion (λ b. b ≢ 0) root.name
  pub dir : AllByRecursion (λ b. b ≢ 0) root.dir
  pub macros : root.macros < 256 ^ offset_width root.wide
  pub line : Fits root.wide root.line
  pub str_base : Fits root.wide root.str_base
