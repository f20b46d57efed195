-- Positions as text. `u:l1:..:lk:l` is line l of the file that is included in line lk of the one that is included in line l1 .. of the primary file of root u; any other text is `PATH:LINE`.
use Rattle.std.specs.Prelude.{ℕ, ◌-◌, ◌==◌, nat_le, nat_lt, Bool, true, false, not, ◌&&◌, if◌then◌else◌, List, [], ◌∷◌, length, slice_index, slice_range, Option, Some, None, option_and_then}
use Rattle.std.specs.Option.{option_map, option_or}
use Rattle.std.specs.List.{list_all, slice_split, before_last, after_last}
use Rattle.mac_base.specs.Digits.{is_digit_of, spelled_in}
use Rattle.position_table.specs.declared.position.Position.{Position}
use Rattle.position_table.specs.declared.position.Position.TheVariants.{Chain, Named}

-- the byte between two fields
abbrev pub is_colon : ℕ → Bool
is_colon byte = byte == 58

-- a decimal digit
abbrev pub is_digit : ℕ → Bool
is_digit = is_digit_of 10

-- the largest number of a position
abbrev pub largest_number : ℕ
largest_number = 4294967295

-- the number that a row of digits spells
abbrev pub digits_value : List ℕ → ℕ
digits_value = spelled_in 10

-- a digit at least, and no zero before another one
abbrev pub begins_well : List ℕ → Bool
begins_well [] = false
begins_well (first ∷ []) = true
begins_well (first ∷ second ∷ more) = not (first == 48)

-- a field that is a number
abbrev pub is_number : List ℕ → Bool
is_number field = begins_well field && list_all is_digit field && nat_le (digits_value field) largest_number

-- the number of a field, if it is one
abbrev pub number_of : List ℕ → Option ℕ
number_of field = if is_number field then Some (digits_value field) else None

-- the numbers of some fields, if all are numbers
abbrev pub numbers_of : List (List ℕ) → Option (List ℕ)
numbers_of [] = Some []
numbers_of (field ∷ fields) = option_and_then (λ number. option_map (λ numbers. number ∷ numbers) (numbers_of fields)) (number_of field)

-- The position of some numbers, which are two at least: the first is that of the root, the last is the line, and those between are the lines of the inclusions.
abbrev pub chain_of : List ℕ → Option Position
chain_of numbers =
    if nat_lt (length numbers) 2 then None
    else Some (Chain (slice_index numbers 0) (slice_range numbers 1 (length numbers - 1)) (slice_index numbers (length numbers - 1)))

-- a path that is not empty
abbrev pub is_path : List ℕ → Bool
is_path [] = false
is_path (byte ∷ bytes) = true

-- the position of a path and a field, if there is a path and the field is a number
abbrev pub named_by : List ℕ → List ℕ → Option Position
named_by path field = if is_path path then option_map (λ line. Named path line) (number_of field) else None

-- the position of a text that is no chain: what stands before the last colon is the path, and what stands behind it the line
abbrev pub named_of : List ℕ → Option Position
named_of text = named_by (before_last is_colon text) (after_last is_colon text)

-- the position that a text is, if it is one
abbrev pub position_of : List ℕ → Option Position
position_of text = option_or (option_and_then chain_of (numbers_of (slice_split is_colon text))) (named_of text)
