-- The fields of DWARF's sections (DWARF 5, 7.4 and 7.6): what is at a place and where the next field begins, or the fault, which names the field's first byte.
use Rattle.std.specs.Prelude.{ℕ, ◌+◌, ◌*◌, ◌%◌, ◌^◌, ◌==◌, nat_lt, Bool, if◌then◌else◌, List, [], ◌∷◌, length, take, Option, None, Some, Result, Ok, Err, ℤ, pos, negsuc, ◌+ℤ◌, ◌-ℤ◌, ◌*ℤ◌}
use Rattle.std.specs.Option.{option_map}
use Rattle.mac_base.specs.Input.{Input, rest, ahead}
use Rattle.mac_base.specs.declared.cursor.CursorFault.{CursorFault}
use Rattle.mac_base.specs.declared.cursor.CursorFault.TheVariants.{Cut, Leb, NoNul}

-- n bytes as they are
abbrev pub bytes_at : ℕ → Input → Result (List ℕ × Input) CursorFault
bytes_at n p = if nat_lt (length (rest p)) n then Err (Cut p.at) else Ok (take n (rest p), ahead p n)

-- the number of these bytes, the lowest first
abbrev pub little_endian : List ℕ → ℕ
little_endian [] = 0
little_endian (b ∷ bs) = b + 256 * little_endian bs

-- a number of n bytes (7.4)
abbrev pub number_at : ℕ → Input → Result (ℕ × Input) CursorFault
number_at n p = if nat_lt (length (rest p)) n then Err (Cut p.at) else Ok (little_endian (take n (rest p)), ahead p n)

-- the bytes of the LEB128 number at the beginning: all up to and with the first below 128 (7.6)
abbrev pub leb_digits : List ℕ → Option (List ℕ)
leb_digits [] = None
leb_digits (b ∷ bs) = if nat_lt b 128 then Some (b ∷ []) else option_map (λ digits. b ∷ digits) (leb_digits bs)

-- the unsigned number of these bytes: each has seven bits of it, the lowest first (7.6)
abbrev pub unsigned_leb : List ℕ → ℕ
unsigned_leb [] = 0
unsigned_leb (b ∷ bs) = b % 128 + 128 * unsigned_leb bs

-- the signed one: the highest of the seven bits of the last byte is the sign (7.6)
abbrev pub signed_leb : List ℕ → ℤ
signed_leb [] = pos 0
signed_leb (b ∷ []) = if nat_lt b 64 then pos b else pos b -ℤ pos 128
signed_leb (b ∷ c ∷ bs) = pos (b % 128) +ℤ pos 128 *ℤ signed_leb (c ∷ bs)

-- no last byte comes, or the number doesn't fit 64 bits; a number may end in needless zeros
abbrev pub uleb_of : Input → Option (List ℕ) → Result (ℕ × Input) CursorFault
uleb_of p None = Err (Cut p.at)
uleb_of p (Some digits) = if nat_lt (unsigned_leb digits) (2 ^ 64) then Ok (unsigned_leb digits, ahead p (length digits)) else Err (Leb p.at)

-- a number in ULEB128
abbrev pub uleb_at : Input → Result (ℕ × Input) CursorFault
uleb_at p = uleb_of p (leb_digits (rest p))

-- from -2^63 to 2^63 - 1
abbrev pub fits_i64 : ℤ → Bool
fits_i64 (pos n) = nat_lt n (2 ^ 63)
fits_i64 (negsuc n) = nat_lt n (2 ^ 63)

-- no last byte comes, or the number doesn't fit 64 bits with a sign
abbrev pub sleb_of : Input → Option (List ℕ) → Result (ℤ × Input) CursorFault
sleb_of p None = Err (Cut p.at)
sleb_of p (Some digits) = if fits_i64 (signed_leb digits) then Ok (signed_leb digits, ahead p (length digits)) else Err (Leb p.at)

-- a number in SLEB128
abbrev pub sleb_at : Input → Result (ℤ × Input) CursorFault
sleb_at p = sleb_of p (leb_digits (rest p))

-- the bytes before the first NUL, where there is one
abbrev pub before_nul : List ℕ → Option (List ℕ)
before_nul [] = None
before_nul (b ∷ bs) = if b == 0 then Some [] else option_map (λ text. b ∷ text) (before_nul bs)

-- no NUL comes
abbrev pub text_of : Input → Option (List ℕ) → Result (List ℕ × Input) CursorFault
text_of p None = Err (NoNul p.at)
text_of p (Some text) = Ok (text, ahead p (length text + 1))

-- a string with its NUL (7.5.5)
abbrev pub text_at : Input → Result (List ℕ × Input) CursorFault
text_at p = text_of p (before_nul (rest p))
