-- The bytes that are written of a number, a unit's length, an offset and a string (DWARF 5, 7.4 to 7.6).
use Rattle.std.specs.Prelude.{ℕ, zero, suc, ◌+◌, ◌/◌, ◌%◌, ◌==◌, nat_lt, Bool, ◌||◌, if◌then◌else◌, List, [], ◌∷◌, ◌++◌}
use Rattle.mac_base.specs.Values.{offset_width}

-- at most so many digits of seven bits, the lowest first, where all but the last have their highest bit set
abbrev pub seven_bit_digits : ℕ → ℕ → List ℕ
seven_bit_digits zero n = []
seven_bit_digits (suc k) n = if nat_lt n 128 then n ∷ [] else (128 + n % 128) ∷ seven_bit_digits k (n / 128)

-- the shortest spelling of a number below 2^64 in ULEB128: it has at most ten digits
unfoldable pub uleb_bytes : ℕ → List ℕ
uleb_bytes n = seven_bit_digits 10 n

-- a number in so many bytes, the lowest first
abbrev pub fixed_bytes : ℕ → ℕ → List ℕ
fixed_bytes zero n = []
fixed_bytes (suc k) n = n % 256 ∷ fixed_bytes k (n / 256)

-- how many bytes a number is written in
abbrev pub is_width : ℕ → Bool
is_width width = width == 1 || width == 2 || width == 4 || width == 8

-- the length of a unit (7.2.2 and 7.4): after ffffffff in eight bytes in the 64-bit format, in four bytes in the 32-bit format
abbrev pub length_bytes : Bool → ℕ → List ℕ
length_bytes wide n = if wide then fixed_bytes 4 0xffff_ffff ++ fixed_bytes 8 n else fixed_bytes 4 n

-- an offset into a section (7.4)
abbrev pub offset_bytes : Bool → ℕ → List ℕ
offset_bytes wide n = fixed_bytes (offset_width wide) n

-- a string and its NUL (7.5.5)
abbrev pub string_bytes : List ℕ → List ℕ
string_bytes text = text ++ 0 ∷ []
