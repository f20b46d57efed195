-- Which bytes spell a contribution of string offsets (DWARF 5, 7.26), apart from how an entry is found, and the bytes that are written of one.
use Rattle.std.specs.Prelude.{◌≡◌, ℕ, ◌+◌, ◌*◌, Bool, if◌then◌else◌, List, [], ◌∷◌, ◌++◌, length, replicate}
use Rattle.mac_base.specs.Spelling.{IsFixed}
use Rattle.mac_base.specs.LengthSpelling.{IsLength}
use Rattle.mac_base.specs.Writing.{length_bytes}
use Rattle.string_sections.specs.Offsets.{entry_width}

-- the bytes spell these offsets, each in so many bytes
abbrev pub AreEntries : ℕ → List ℕ → List ℕ → Type 0
AreEntries width bytes [] = bytes ≡ []
AreEntries width bytes (offset ∷ offsets) = (front back : List ℕ) × (bytes ≡ front ++ back) × IsFixed width front offset × AreEntries width back offsets

-- The bytes spell a contribution with these offsets: the length of what follows, version 5 and padding, of two bytes each, and the entries.
pub record IsContribution (wide : Bool) (bytes offsets : List ℕ) : Type 0 where
  pub unit_length : List ℕ
  pub entries : List ℕ
  pub spelled : bytes ≡ unit_length ++ 5 ∷ 0 ∷ 0 ∷ 0 ∷ entries
  pub is_length : IsLength wide unit_length (4 + length entries)
  pub are_entries : AreEntries (entry_width wide) entries offsets

-- the bytes before the entries of a contribution
abbrev pub header_size : Bool → ℕ
header_size wide = if wide then 16 else 8

-- the bytes that are written before entries of so many bytes
unfoldable pub header_bytes : Bool → ℕ → List ℕ
header_bytes wide size = length_bytes wide (4 + size) ++ 5 ∷ 0 ∷ 0 ∷ 0 ∷ []

-- the bytes that are written of a contribution with so many entries, each 0
abbrev pub offsets_bytes : Bool → ℕ → List ℕ
offsets_bytes wide count = header_bytes wide (count * entry_width wide) ++ replicate (count * entry_width wide) 0
