-- The name of a piece, by which equal pieces of different objects are one (DWARF 5, appendix E.1, names such a section group by its content): a digest of its entries.
use Rattle.std.specs.Prelude.{ℕ, Bool, if◌then◌else◌, List, [], ◌∷◌, ◌++◌, codes}
use Rattle.std.specs.List.{flat_map}
use Rattle.mac_base.specs.Items.{Item, Define, Undef, Start, End}
use Rattle.mac_base.specs.ItemLines.{item_of}
use Rattle.mac_base.specs.Writing.{uleb_bytes}
use Rattle.mac_base.specs.declared.events.Event.{Event}
use Rattle.sha2.specs.Sha256.{sha256}
use Rattle.hex.specs.Hex.{encode_lower}

-- An entry as the opcodes 01 to 04 spell it, with its text in place (6.3.2.1, 6.3.2.2 and 7.23): the opcode, the line in its shortest spelling, and the text with its NUL or the number of the file.
abbrev pub plain_bytes : Item ℕ → List ℕ
plain_bytes (Define line text) = 0x01 ∷ (uleb_bytes line ++ (text ++ 0 ∷ []))
plain_bytes (Undef line name) = 0x02 ∷ (uleb_bytes line ++ (name ++ 0 ∷ []))
plain_bytes (Start line file) = 0x03 ∷ (uleb_bytes line ++ uleb_bytes file)
plain_bytes End = 0x04 ∷ []

-- the entries that an event list spells, without the header of a unit and without its closing 0
abbrev pub spelled_plainly : List Event → List ℕ
spelled_plainly events = flat_map (λ event. plain_bytes (item_of event)) events

-- what a name begins with: pieces with offsets of 8 bytes differ from those of 4
abbrev pub prefix_of : Bool → List ℕ
prefix_of wide = if wide then codes "dwm5w." else codes "dwm5."

-- The name: the prefix, and the SHA-256 digest (FIPS 180-4) of the entries in lower-case hexadecimal digits.
abbrev pub piece_name_of : Bool → List Event → List ℕ
piece_name_of wide entries = prefix_of wide ++ encode_lower (sha256 (spelled_plainly entries))
