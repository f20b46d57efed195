-- The name with which the text of a macro definition begins (C17 6.4.2.1, with `$` and the bytes from 0x80 on as other compilers take them; DWARF 5, 6.3.2.1).
use Rattle.std.specs.Prelude.{ℕ, ◌==◌, nat_le, Bool, ◌||◌, ◌&&◌, List, take_while}

-- a number between two others, both included
abbrev pub is_between : ℕ → ℕ → ℕ → Bool
is_between low high n = nat_le low n && nat_le n high

-- a byte of an identifier: A to Z, a to z, 0 to 9, `_`, `$`, and 0x80 to 0xff
abbrev pub is_identifier_byte : ℕ → Bool
is_identifier_byte byte = is_between 65 90 byte || is_between 97 122 byte || is_between 48 57 byte || byte == 95 || byte == 36 || is_between 128 255 byte

-- the longest prefix of such bytes
abbrev pub name_of : List ℕ → List ℕ
name_of text = take_while is_identifier_byte text
