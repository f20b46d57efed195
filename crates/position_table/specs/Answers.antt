-- What the calls answer. Want of memory alone is free.
use Rattle.std.specs.Prelude.{◌≡◌, ℕ, List, Some, None, Result, Ok, Err}
use Rattle.mac_base.specs.Items.{Item}
use Rattle.macro_table.specs.FileTable.{instance}
use Rattle.position_table.specs.declared.position.Position.{Position}
use Rattle.position_table.specs.declared.fault.PositionText.{PositionText}
use Rattle.position_table.specs.declared.fault.PositionText.TheVariants.{Bad, NoMemory as NoMemoryForText}
use Rattle.position_table.specs.declared.fault.PosFault.{PosFault}
use Rattle.position_table.specs.declared.fault.PosFault.TheVariants.{NoSuchPosition, NoMemory}
use Rattle.position_table.specs.declared.spot.Spot.{Spot}
use Rattle.position_table.specs.Positions.{position_of}

-- the position that a text is; it is bad exactly where it is none
abbrev pub IsPositionOf : List ℕ → Result Position PositionText → Type 0
IsPositionOf text (Ok position) = position_of text ≡ Some position
IsPositionOf text (Err Bad) = position_of text ≡ None
IsPositionOf text (Err NoMemoryForText) = Unit {0}

-- the line in the instance of a chain of lines, or how many of the chain's files there are
abbrev pub IsSpotOf : List (Item ℕ) → List ℕ → ℕ → Result Spot PosFault → Type 0
IsSpotOf items lines line (Ok spot) = (instance items lines ≡ Ok spot.start) × (spot.line ≡ line)
IsSpotOf items lines line (Err (NoSuchPosition depth)) = instance items lines ≡ Err depth
IsSpotOf items lines line (Err NoMemory) = Unit {0}
