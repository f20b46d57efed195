-- How a call that reads a table of abbreviations answers what reading gives.
use Rattle.std.specs.Prelude.{◌≡◌, Result, Ok, Err}
use Rattle.mac_base.specs.Input.{Input}
use Rattle.mac_base.specs.declared.cursor.CursorFault.{CursorFault}
use Rattle.info_roots.specs.declared.abbreviation.TableFault.{TableFault}
use Rattle.info_roots.specs.declared.abbreviation.TableFault.TheVariants.{NoMemory, Field}

-- exactly what reading gives, seen by view, and the place after it, unless memory ran out
abbrev pub TakesTable : {X Y : Type 0} → (X → Y) → Input → Result X TableFault → Result (Y × Input) CursorFault → Type 0
TakesTable view new (Ok x) reading = reading ≡ Ok (view x, new)
TakesTable view new (Err NoMemory) reading = Unit {0}
TakesTable view new (Err (Field fault)) reading = reading ≡ Err fault
