-- The roots of a file as a relation between bytes and roots (DWARF 5, 7.5.1.1): .debug_info is units, one after another.
use Rattle.std.specs.Prelude.{◌≡◌, ◌≢◌, ℕ, ◌<◌, ◌≤◌, Bool, List, [], ◌∷◌, ◌++◌, length, drop, map, filter_map, Option, None}
use Rattle.mac_base.specs.declared.value.Sizes.{Sizes}
use Rattle.mac_base.specs.SectionBytes.{SectionBytes}
use Rattle.mac_base.specs.Spelling.{IsFixed}
use Rattle.mac_base.specs.LengthSpelling.{IsLength}
use Rattle.mac_base.specs.Values.{offset_width}
use Rattle.info_roots.specs.declared.root.Root.{Root}
use Rattle.info_roots.specs.Dwarf.{DW_UT_compile, DW_TAG_compile_unit}
use Rattle.info_roots.specs.Abbreviations.{Abbreviation}
use Rattle.info_roots.specs.AbbreviationSpelling.{IsUnsigned, IsDeclared}
use Rattle.info_roots.specs.EntrySpelling.{AttributeValue, AreValues, HaveForms, IsRootOrNone}

-- The bytes begin with the first entry of a unit, whose abbreviation is in this table. It says the root, or none.
pub data IsFirstEntry (s : SectionBytes) (sizes : Sizes) (table bytes : List ℕ) : Option Root → Type 0 where
  -- code 0 is no entry
  NoEntry : (code after : List ℕ) → bytes ≡ code ++ after → IsUnsigned code 0 → IsFirstEntry s sizes table bytes None
  -- the attributes of an entry of another tag are not read
  OtherTag : (code after : List ℕ) (n : ℕ) (a : Abbreviation) → bytes ≡ code ++ after → IsUnsigned code n → n ≢ 0 → IsDeclared table n a →
      a.tag ≢ DW_TAG_compile_unit → IsFirstEntry s sizes table bytes None
  CompileUnit : (code body after : List ℕ) (n : ℕ) (a : Abbreviation) (values : List AttributeValue) (root : Option Root) →
      bytes ≡ code ++ (body ++ after) → IsUnsigned code n → n ≢ 0 → IsDeclared table n a → a.tag ≡ DW_TAG_compile_unit →
      map (λ v. v.attribute) values ≡ a.attributes → AreValues sizes body values → HaveForms values → IsRootOrNone s sizes.wide values root →
      IsFirstEntry s sizes table bytes root

-- the bytes are a unit from its version on
pub data IsUnitBody (s : SectionBytes) (wide : Bool) (bytes : List ℕ) : Option Root → Type 0 where
  -- units of versions 2 to 4 are passed over
  Older : (version after : List ℕ) (n : ℕ) → bytes ≡ version ++ after → IsFixed 2 version n → 2 ≤ n → n ≤ 4 → IsUnitBody s wide bytes None
  -- and units of other types
  OtherType : (version after : List ℕ) (type : ℕ) → bytes ≡ version ++ (type ∷ after) → IsFixed 2 version 5 → type ≢ DW_UT_compile → IsUnitBody s wide bytes None
  -- unit_type, address_size, debug_abbrev_offset, and the entries
  Compile : (version offset entries : List ℕ) (address table : ℕ) (root : Option Root) →
      bytes ≡ version ++ (DW_UT_compile ∷ address ∷ (offset ++ entries)) → IsFixed 2 version 5 → IsFixed (offset_width wide) offset table → table < length s.abbrevs →
      IsFirstEntry s (record { wide = wide; address = address }) (drop table s.abbrevs) entries root → IsUnitBody s wide bytes root

-- the bytes are a whole unit: the number of its bytes, and these
pub record IsUnit (s : SectionBytes) (bytes : List ℕ) (root : Option Root) : Type 0 where
  pub wide : Bool
  pub front : List ℕ
  pub body : List ℕ
  pub spelled : bytes ≡ front ++ body
  pub is_length : IsLength wide front (length body)
  pub is_body : IsUnitBody s wide body root

-- the bytes are these units, one after another; each is what it is whatever units follow
abbrev pub AreUnits : SectionBytes → List ℕ → List (Option Root) → Type 0
AreUnits s bytes [] = bytes ≡ []
AreUnits s bytes (unit ∷ units) = (front back : List ℕ) × (bytes ≡ front ++ back) × IsUnit s front unit × AreUnits s back units

-- The roots of a file: those of the units of .debug_info that have one, in order. There are at most 65,536.
pub record AreRoots (s : SectionBytes) (roots : List Root) : Type 0 where
  pub units : List (Option Root)
  pub are_units : AreUnits s s.info units
  pub has_roots : roots ≡ filter_map (λ unit. unit) units
  pub few : length roots ≤ 65536
