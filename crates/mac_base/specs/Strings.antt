-- Which strings of a string table have an end (DWARF 5, 7.26; gABI, "String Table").
use Rattle.std.specs.Prelude.{◌≡◌, ℕ, nat_le, nat_lt, List, drop, is_some}
use Rattle.std.specs.Option.{is_none}
use Rattle.mac_base.specs.Fields.{before_nul}

-- a NUL follows exactly the places before this end
abbrev pub IsStringsEnd : List ℕ → ℕ → Type 0
IsStringsEnd table end = (at : ℕ) → is_some (before_nul (drop at table)) ≡ nat_lt at end

-- and no NUL follows exactly the others
abbrev pub AreOpenFrom : List ℕ → ℕ → Type 0
AreOpenFrom table end = (at : ℕ) → is_none (before_nul (drop at table)) ≡ nat_le end at
