-- The numbers of a condition and their arithmetic (C17 6.10.1 p4 and 6.5): integers of 64 bits, signed as intmax_t or unsigned as uintmax_t.
use Rattle.std.specs.Prelude.{ℕ, ◌+◌, ◌-◌, ◌*◌, ◌/◌, ◌%◌, ◌^◌, ◌==◌, nat_lt, Bool, true, false, ◌||◌, if◌then◌else◌, ℤ, pos, negsuc, ◌+ℤ◌, ◌-ℤ◌, ◌*ℤ◌, neg_ℤ, int_lt, int_div, int_rem, Option, None, Some, Result, Ok, Err}
use Rattle.std.specs.Int.{w64, cast_signed, cast_unsigned}
use Rattle.pp_directives.specs.declared.fault.ExprFault.{ExprFault}
use Rattle.pp_directives.specs.declared.fault.ExprFault.TheVariants.{Overflow, ZeroDivisor, BadShift}
use Rattle.pp_directives.specs.declared.expression.number.Number.{Number}
use Rattle.pp_directives.specs.declared.expression.number.Number.TheVariants.{Signed, Unsigned}

-- what an operation gives: a number, or why there is none
abbrev pub Computed : Type 0
Computed = Result Number ExprFault

-- the number is of the unsigned type
abbrev pub is_unsigned : Number → Bool
is_unsigned (Signed z) = false
is_unsigned (Unsigned n) = true

-- the number in the unsigned type: a negative one plus 2^64 (6.3.1.3 p2)
abbrev pub bits_of : Number → ℕ
bits_of (Signed z) = cast_unsigned w64 z
bits_of (Unsigned n) = n

-- the number is 0
abbrev pub is_zero : Number → Bool
is_zero a = bits_of a == 0

-- the number that has these 64 bits, in the unsigned type or in the signed one, which is two's complement
abbrev pub of_bits : Bool → ℕ → Number
of_bits true n = Unsigned n
of_bits false n = Signed (cast_signed w64 n)

-- the number in that type (6.3.1.8)
abbrev pub converted : Bool → Number → Number
converted true a = Unsigned (bits_of a)
converted false a = a

-- from -2^63 to 2^63 - 1
abbrev pub is_in_range : ℤ → Bool
is_in_range (pos n) = nat_lt n (2 ^ 63)
is_in_range (negsuc n) = nat_lt n (2 ^ 63)

-- a signed result has to be in range (6.5 p5)
abbrev pub signed : ℤ → Computed
signed z = if is_in_range z then Ok (Signed z) else Err Overflow

-- an unsigned result is reduced to 64 bits (6.2.5 p9)
abbrev pub unsigned : ℕ → Computed
unsigned n = Ok (Unsigned (n % 2 ^ 64))

-- what a test gives: 1 or 0 of the signed type (6.5.8 p6)
abbrev pub truth : Bool → Computed
truth test = Ok (Signed (pos (if test then 1 else 0)))

-- an operation in the common type of its operands (6.3.1.8): the first where both are signed, else the second in the unsigned type
abbrev pub in_common_type : {A : Type 0} → (ℤ → ℤ → A) → (ℕ → ℕ → A) → Number → Number → A
in_common_type f g (Signed x) (Signed y) = f x y
in_common_type f g (Signed x) (Unsigned n) = g (bits_of (Signed x)) n
in_common_type f g (Unsigned m) (Signed y) = g m (bits_of (Signed y))
in_common_type f g (Unsigned m) (Unsigned n) = g m n

-- `+` (6.5.6)
abbrev pub sum_of : Number → Number → Computed
sum_of = in_common_type (λ x y. signed (x +ℤ y)) (λ m n. unsigned (m + n))

-- `-` (6.5.6)
abbrev pub difference_of : Number → Number → Computed
difference_of = in_common_type (λ x y. signed (x -ℤ y)) (λ m n. unsigned (m + (2 ^ 64 - n)))

-- `*` (6.5.5)
abbrev pub product_of : Number → Number → Computed
product_of = in_common_type (λ x y. signed (x *ℤ y)) (λ m n. unsigned (m * n))

-- a result, unless the divisor is 0 (6.5.5 p5)
abbrev pub divided : Number → Computed → Computed
divided divisor result = if is_zero divisor then Err ZeroDivisor else result

-- `/` rounds toward 0 (6.5.5 p6)
abbrev pub quotient_of : Number → Number → Computed
quotient_of a b = divided b (in_common_type (λ x y. signed (int_div x y)) (λ m n. Ok (Unsigned (m / n))) a b)

-- `%` has the sign of the dividend (6.5.5 p6); it always fits. The project's own: the least number `%` -1 is 0, which 6.5.5 p6 leaves undefined.
abbrev pub remainder_of : Number → Number → Computed
remainder_of a b = divided b (in_common_type (λ x y. Ok (Signed (int_rem x y))) (λ m n. Ok (Unsigned (m % n))) a b)

-- `&`, `^` and `|`: bit by bit, in the common type (6.5.10 to 6.5.12)
abbrev pub bitwise : (ℕ → ℕ → ℕ) → Number → Number → Computed
bitwise op a b = Ok (of_bits (is_unsigned a || is_unsigned b) (op (bits_of a) (bits_of b)))

-- the first is less, in the common type (6.5.8)
abbrev pub is_less : Number → Number → Bool
is_less = in_common_type int_lt nat_lt

-- the two are equal, in the common type (6.5.9): so are their bits
abbrev pub is_equal : Number → Number → Bool
is_equal a b = bits_of a == bits_of b

-- a number of places from 0 to 63
abbrev pub small : ℕ → Option ℕ
small n = if nat_lt n 64 then Some n else None

-- how far a right operand shifts, if its value, whatever its type, may shift (6.5.7 p3)
abbrev pub places_of : Number → Option ℕ
places_of (Signed (pos n)) = small n
places_of (Signed (negsuc n)) = None
places_of (Unsigned n) = small n

-- an operation by a number of places, if there is one
abbrev pub shifted_by : Option ℕ → (ℕ → Computed) → Computed
shifted_by None f = Err BadShift
shifted_by (Some places) f = f places

-- The product by the power of two, in the type of the left operand (6.5.7 p4). The project's own: also of a negative left operand, where 6.5.7 p4 leaves it undefined.
abbrev pub times_power : Number → ℕ → Computed
times_power (Signed z) places = signed (z *ℤ pos (2 ^ places))
times_power (Unsigned n) places = unsigned (n * 2 ^ places)

-- The quotient by the power of two, rounded down, in the type of the left operand (6.5.7 p5, which leaves that of a negative number to the implementation).
abbrev pub over_power : Number → ℕ → Computed
over_power (Signed (pos n)) places = Ok (Signed (pos (n / 2 ^ places)))
over_power (Signed (negsuc n)) places = Ok (Signed (negsuc (n / 2 ^ places)))
over_power (Unsigned n) places = Ok (Unsigned (n / 2 ^ places))

-- `<<`
abbrev pub left_shift_of : Number → Number → Computed
left_shift_of a b = shifted_by (places_of b) (times_power a)

-- `>>`
abbrev pub right_shift_of : Number → Number → Computed
right_shift_of a b = shifted_by (places_of b) (over_power a)

-- unary `-` (6.5.3.3 p3)
abbrev pub negated : Number → Computed
negated (Signed z) = signed (neg_ℤ z)
negated (Unsigned n) = unsigned (2 ^ 64 - n)

-- `~` turns each bit over (6.5.3.3 p4)
abbrev pub complement_of : Number → Computed
complement_of a = Ok (of_bits (is_unsigned a) (2 ^ 64 - 1 - bits_of a))
