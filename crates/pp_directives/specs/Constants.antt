-- The values of the constants of a condition: integer constants (C17 6.4.4.1) and character constants (6.4.4.4), as functions on their spelling.
use Rattle.std.specs.Prelude.{ℕ, zero, suc, ◌^◌, ◌==◌, nat_lt, nat_le, Bool, true, false, not, ◌&&◌, ◌||◌, if◌then◌else◌, List, [], ◌∷◌, length, take, drop, pos, Option, None, Some}
use Rattle.std.specs.Int.{w8, cast_signed}
use Rattle.std.specs.List.{list_all, prefix_len}
use Rattle.std.specs.Option.{option_map, option_and_then}
use Rattle.mac_base.specs.Digits.{is_digit_of, spelled_in}
use Rattle.pp_directives.specs.declared.expression.number.Number.{Number}
use Rattle.pp_directives.specs.declared.expression.number.Number.TheVariants.{Signed, Unsigned}

-- `u` or `U`
abbrev pub is_u : ℕ → Bool
is_u b = (b == 117) || (b == 85)

-- `l` or `L`
abbrev pub is_l : ℕ → Bool
is_l b = (b == 108) || (b == 76)

-- `ll` or `LL`
abbrev pub is_ll : ℕ → ℕ → Bool
is_ll a b = is_l a && (a == b)

-- where the test holds, a suffix, with `u` or without
abbrev pub suffix_if : Bool → Bool → Option Bool → Option Bool
suffix_if test with_u other = if test then Some with_u else other

-- Whether a suffix has the `u` of unsigned constants: none, `u`, `l`, `ul` and `lu`, `ll`, `ull` and `llu`, each letter in either case, are the suffixes
abbrev pub suffix_of : List ℕ → Option Bool
suffix_of [] = Some false
suffix_of (a ∷ []) = suffix_if (is_u a) true (suffix_if (is_l a) false None)
suffix_of (a ∷ b ∷ []) = suffix_if ((is_u a && is_l b) || (is_l a && is_u b)) true (suffix_if (is_ll a b) false None)
suffix_of (a ∷ b ∷ c ∷ []) = suffix_if ((is_u a && is_ll b c) || (is_ll a b && is_u c)) true None
suffix_of _ = None

-- begins with `0x` or `0X`
abbrev pub is_hexadecimal : List ℕ → Bool
is_hexadecimal (a ∷ b ∷ bs) = (a == 48) && ((b == 120) || (b == 88))
is_hexadecimal _ = false

-- begins with `0`
abbrev pub has_zero : List ℕ → Bool
has_zero [] = false
has_zero (b ∷ bs) = b == 48

-- the base of a number that is spelled so
abbrev pub base_of : List ℕ → ℕ
base_of text = if is_hexadecimal text then 16 else (if has_zero text then 8 else 10)

-- the digits and the suffix of a number that is spelled so
abbrev pub after_prefix : List ℕ → List ℕ
after_prefix text = if is_hexadecimal text then drop 2 text else text

-- A constant with `u` is unsigned. Another is signed where it fits, else unsigned where it isn't decimal (6.4.4.1 p5, with both types of 64 bits).
abbrev pub typed : ℕ → Bool → ℕ → Option Number
typed base with_u n =
    if not with_u && nat_lt n (2 ^ 63) then Some (Signed (pos n))
    else (if nat_lt n (2 ^ 64) && (with_u || not (base == 10)) then Some (Unsigned n)
    else None)

-- so many digits of that base, one at least, and a suffix
abbrev pub integer : ℕ → ℕ → List ℕ → Option Number
integer base zero text = None
integer base (suc n) text = option_and_then (λ with_u. typed base with_u (spelled_in base (take (suc n) text))) (suffix_of (drop (suc n) text))

-- the longest prefix of digits of that base, and a suffix
abbrev pub integer_of : ℕ → List ℕ → Option Number
integer_of base text = integer base (prefix_len (is_digit_of base) text) text

-- the value of a number token; none where it is no integer constant, or one that has no type
abbrev pub number_of : List ℕ → Option Number
number_of text = integer_of (base_of text) (after_prefix text)

-- what a simple escape sequence stands for: `'`, `"`, `?`, `\`, `a`, `b`, `f`, `n`, `r`, `t` and `v` after `\` (5.2.2)
abbrev pub simple_escape : ℕ → Option ℕ
simple_escape b =
    if (b == 39) || (b == 34) || (b == 63) || (b == 92) then Some b
    else (if b == 97 then Some 7
    else (if b == 98 then Some 8
    else (if b == 102 then Some 12
    else (if b == 110 then Some 10
    else (if b == 114 then Some 13
    else (if b == 116 then Some 9
    else (if b == 118 then Some 11
    else None)))))))

-- the number that digits of that base spell, if they are at least one
abbrev pub digits_of : ℕ → List ℕ → Option ℕ
digits_of base [] = None
digits_of base (d ∷ ds) = if list_all (is_digit_of base) (d ∷ ds) then Some (spelled_in base (d ∷ ds)) else None

-- a simple escape sequence that nothing follows
abbrev pub simple_alone : ℕ → List ℕ → Option ℕ
simple_alone b [] = simple_escape b
simple_alone b (c ∷ cs) = None

-- what an escape sequence is after its `\`: a byte alone, one to three octal digits, or `x` and hexadecimal digits
abbrev pub escape : List ℕ → Option ℕ
escape [] = None
escape (b ∷ bs) =
    if b == 120 then digits_of 16 bs
    else (if is_digit_of 8 b then (if nat_le (length bs) 2 then digits_of 8 (b ∷ bs) else None)
    else simple_alone b bs)

-- a byte that may stand for itself: below 128, and no `'`, `\` or line feed
abbrev pub is_plain : ℕ → Bool
is_plain b = nat_lt b 128 && not ((b == 39) || (b == 92) || (b == 10))

-- such a byte that nothing follows
abbrev pub plain_alone : ℕ → List ℕ → Option ℕ
plain_alone b [] = if is_plain b then Some b else None
plain_alone b (c ∷ cs) = None

-- The value of what is between the quotes: exactly one byte, or one escape sequence. The project's own: several characters have no value, where 6.4.4.4 p10 and p11 leave it to the implementation.
abbrev pub element : List ℕ → Option ℕ
element [] = None
element (b ∷ bs) = if b == 92 then escape bs else plain_alone b bs

-- the bytes before a `'` that ends the list
abbrev pub before_quote : List ℕ → Option (List ℕ)
before_quote [] = None
before_quote (b ∷ []) = if b == 39 then Some [] else None
before_quote (b ∷ c ∷ cs) = option_map (λ front. b ∷ front) (before_quote (c ∷ cs))

-- the value between a `'` at the beginning and a `'` at the end
abbrev pub quoted : List ℕ → Option ℕ
quoted [] = None
quoted (b ∷ bs) = if b == 39 then option_and_then element (before_quote bs) else None

-- a value that is below the limit
abbrev pub below : ℕ → ℕ → Option ℕ
below limit n = if nat_lt n limit then Some n else None

-- The value of a character constant. One without a prefix has one byte, which is read as a signed char; with `L` it is a wchar_t of 32 bits, which is signed; with `u` a char16_t and with `U` a char32_t, which are unsigned (6.4.4.4 p9 to p11).
abbrev pub character_of : List ℕ → Option Number
character_of [] = None
character_of (b ∷ bs) =
    if b == 76 then option_map (λ n. Signed (pos n)) (option_and_then (below (2 ^ 31)) (quoted bs))
    else (if b == 117 then option_map Unsigned (option_and_then (below (2 ^ 16)) (quoted bs))
    else (if b == 85 then option_map Unsigned (option_and_then (below (2 ^ 32)) (quoted bs))
    else option_map (λ n. Signed (cast_signed w8 n)) (option_and_then (below (2 ^ 8)) (quoted (b ∷ bs)))))
