-- The bytes that are written of the header of a macro unit (DWARF 5, 6.3.1): version 5, without an operand table.
use Rattle.std.specs.Prelude.{ℕ, ◌<◌, ◌^◌, Bool, false, List, [], ◌∷◌, Option, Some, None, is_some}
use Rattle.mac_base.specs.Values.{offset_width}
use Rattle.mac_base.specs.Writing.{offset_bytes}
use Rattle.unit_header.specs.Header.{Header}
use Rattle.unit_header.specs.Spelling.{flags_of}

-- the offset of the line table, where there is one
abbrev pub line_bytes : Bool → Option ℕ → List ℕ
line_bytes wide None = []
line_bytes wide (Some offset) = offset_bytes wide offset

-- the version in two bytes, the flags, and the offset of the line table
abbrev pub header_bytes : Option ℕ → Bool → List ℕ
header_bytes line wide = 5 ∷ 0 ∷ flags_of wide (is_some line) false ∷ line_bytes wide line

-- the header that these bytes spell
abbrev pub plain_header : Option ℕ → Bool → Header
plain_header line wide = record { version = 5; wide = wide; line = line; operands = [] }

-- an offset of the line table fits the width of offsets
abbrev pub FitsWidth : Bool → Option ℕ → Type 0
FitsWidth wide None = Unit {0}
FitsWidth wide (Some offset) = offset < 256 ^ offset_width wide
