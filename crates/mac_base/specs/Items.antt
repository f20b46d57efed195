-- The macro information of a unit as a plain list, with imported macro units in their places (DWARF 5, 6.3.2 and 6.3.3).
use Rattle.std.specs.Prelude.{ℕ, ◌+◌, ◌-◌, ◌==◌, nat_le, Bool, true, false, ◌&&◌, if◌then◌else◌, List, [], ◌∷◌, Option, None, Some}
use Rattle.std.specs.Option.{option_map, option_and_then}

-- An entry. P names a file: by its path, or by the number of its path.
pub data Item (P : Type 0) : Type 0 where
  Define : (line : ℕ) (text : List ℕ) → Item P
  Undef : (line : ℕ) (name : List ℕ) → Item P
  Start : (line : ℕ) (path : P) → Item P
  End : Item P

-- the same entry, where files are named otherwise
abbrev pub renamed : {P Q : Type 0} → (P → Q) → Item P → Item Q
renamed name_of_file (Define line text) = Define line text
renamed name_of_file (Undef line name) = Undef line name
renamed name_of_file (Start line path) = Start line (name_of_file path)
renamed name_of_file End = End

-- an entry that begins a file
abbrev pub is_start : {P : Type 0} → Item P → Bool
is_start (Define line text) = false
is_start (Undef line name) = false
is_start (Start line path) = true
is_start End = false

-- an entry that begins a file, which is included in this line
abbrev pub starts_at : {P : Type 0} → ℕ → Item P → Bool
starts_at l (Define line text) = false
starts_at l (Undef line name) = false
starts_at l (Start line path) = line == l
starts_at l End = false

-- an entry in this line or a later one, or the end of a file
abbrev pub ends_or_reaches : {P : Type 0} → ℕ → Item P → Bool
ends_or_reaches l (Define line text) = nat_le l line
ends_or_reaches l (Undef line name) = nat_le l line
ends_or_reaches l (Start line path) = nat_le l line
ends_or_reaches l End = true

-- of a file, how many files that began in it are open after an entry; none where the entry ends the file itself
abbrev pub depth_behind : {P : Type 0} → Item P → ℕ → Option ℕ
depth_behind (Define line text) depth = Some depth
depth_behind (Undef line name) depth = Some depth
depth_behind (Start line path) depth = Some (depth + 1)
depth_behind End depth = if depth == 0 then None else Some (depth - 1)

-- Of a file, in which so many files are open now, the entries that follow: the number of the first one that is directly in the file and passes the test. None where the file ends before.
abbrev pub first_inside : {P : Type 0} → (Item P → Bool) → List (Item P) → ℕ → Option ℕ
first_inside test [] depth = None
first_inside test (item ∷ items) depth =
    if depth == 0 && test item then Some 0 else option_and_then (λ inner. option_map (λ n. n + 1) (first_inside test items inner)) (depth_behind item depth)
