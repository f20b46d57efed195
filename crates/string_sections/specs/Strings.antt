-- The strings of a string section (DWARF 5, 7.5.5 and 7.26), and how a call answers what it looks up.
use Rattle.std.specs.Prelude.{◌≡◌, ℕ, List, drop, Option, Some, None, Result, Ok, Err}
use Rattle.mac_base.specs.Fields.{before_nul}
use Rattle.string_sections.specs.declared.fault.StrFault.{StrFault}
use Rattle.string_sections.specs.declared.fault.StrFault.TheVariants.{Range}

-- the string at an offset: the bytes before the first NUL from there on. Nothing follows an offset that is not inside.
abbrev pub string_of : List ℕ → ℕ → Option (List ℕ)
string_of section off = before_nul (drop off section)

-- a call answers what is found, seen by view, and Range exactly where nothing is
abbrev pub Finds : {X Y : Type 0} → (X → Y) → Result X StrFault → Option Y → Type 0
Finds view (Ok x) found = found ≡ Some (view x)
Finds view (Err Range) found = found ≡ None
