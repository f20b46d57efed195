-- The offset that a word spells.
use Rattle.std.specs.Prelude.{ℕ, ◌+◌, ◌*◌, ◌-◌, nat_le, ◌==◌, ◌&&◌, if◌then◌else◌, List, [], ◌∷◌, length, Option, Some, None}

-- the value of a hexadecimal digit of either case
abbrev pub hex_value : ℕ → Option ℕ
hex_value b =
    if nat_le 48 b && nat_le b 57 then Some (b - 48)
    else if nat_le 97 b && nat_le b 102 then Some (b - 87)
    else if nat_le 65 b && nat_le b 70 then Some (b - 55)
    else None

-- with one more digit, if it is one, and then what follows
abbrev pub hex_step : ℕ → Option ℕ → (ℕ → Option ℕ) → Option ℕ
hex_step n None more = None
hex_step n (Some digit) more = more (n * 16 + digit)

-- the number of these digits after those of a number, if all are digits
abbrev pub hex_after : ℕ → List ℕ → Option ℕ
hex_after n [] = Some n
hex_after n (b ∷ bytes) = hex_step n (hex_value b) (λ m. hex_after m bytes)

-- an offset: `0x` and 1 to 16 hexadecimal digits
abbrev pub offset_of : List ℕ → Option ℕ
offset_of [] = None
offset_of (a ∷ []) = None
offset_of (a ∷ b ∷ digits) =
    if a == 48 && (b == 120 && (nat_le 1 (length digits) && nat_le (length digits) 16)) then hex_after 0 digits else None
