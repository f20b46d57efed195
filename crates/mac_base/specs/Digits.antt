-- Numbers that are spelled in digits of a base up to 16.
use Rattle.std.specs.Prelude.{ℕ, ◌+◌, ◌-◌, ◌*◌, ◌^◌, nat_lt, nat_le, Bool, ◌&&◌, if◌then◌else◌, List, [], ◌∷◌, Option, None, Some}
use Rattle.std.specs.List.{list_all}

-- the value of `0` to `9`, `a` to `f` and `A` to `F`; 16, which is a digit of no base, for other bytes
abbrev pub digit_value : ℕ → ℕ
digit_value b =
    if nat_le 48 b && nat_le b 57 then b - 48
    else (if nat_le 97 b && nat_le b 102 then b - 87
    else (if nat_le 65 b && nat_le b 70 then b - 55
    else 16))

-- a digit of that base
abbrev pub is_digit_of : ℕ → ℕ → Bool
is_digit_of base b = nat_lt (digit_value b) base

-- the number that digits spell which follow those of a number
abbrev pub spelled_after : ℕ → ℕ → List ℕ → ℕ
spelled_after base n [] = n
spelled_after base n (d ∷ ds) = spelled_after base (n * base + digit_value d) ds

-- the number that digits of that base spell, the highest first
abbrev pub spelled_in : ℕ → List ℕ → ℕ
spelled_in base digits = spelled_after base 0 digits

-- that number, if all are digits of that base and it is below 2^64; no digits spell 0
abbrev pub number_in : ℕ → List ℕ → Option ℕ
number_in base digits = if list_all (is_digit_of base) digits && nat_lt (spelled_in base digits) (2 ^ 64) then Some (spelled_in base digits) else None
