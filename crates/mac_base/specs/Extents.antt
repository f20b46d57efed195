-- The length of a unit, and where the unit ends (DWARF 5, 7.2.2 and 7.4).
use Rattle.std.specs.Prelude.{ℕ, ◌+◌, ◌==◌, nat_lt, Bool, true, false, if◌then◌else◌, List, length, Result, Ok, Err}
use Rattle.mac_base.specs.Input.{Input}
use Rattle.mac_base.specs.Fields.{number_at}
use Rattle.mac_base.specs.declared.cursor.CursorFault.{CursorFault}
use Rattle.mac_base.specs.declared.extent.Extent.{Extent}
use Rattle.mac_base.specs.declared.extent.ExtentFault.{ExtentFault}
use Rattle.mac_base.specs.declared.extent.ExtentFault.TheVariants.{Cut, Length}

-- a unit with so many bytes from start on is in a section of this length, or is cut off
abbrev pub bounded_by : ℕ → ℕ → Bool → ℕ → ℕ → Result Extent ExtentFault
bounded_by section at wide start long = if nat_lt section (start + long) then Err (Cut at) else Ok (record { wide = wide; start = start; end = start + long })

-- after ffffffff comes a length of 8 bytes
abbrev pub wide_extent : List ℕ → ℕ → ℕ → Result (ℕ × Input) CursorFault → Result Extent ExtentFault
wide_extent section at after (Ok long) = bounded_by (length section) at true long.1.at long.0
wide_extent section at after (Err fault) = Err (Cut after)

-- A length of 4 bytes is below fffffff0. ffffffff comes before one of 8 bytes, and the others are reserved.
abbrev pub extent_by : List ℕ → ℕ → Result (ℕ × Input) CursorFault → Result Extent ExtentFault
extent_by section at (Ok long) =
    if nat_lt long.0 0xffff_fff0 then bounded_by (length section) at false long.1.at long.0
    else if long.0 == 0xffff_ffff then wide_extent section at long.1.at (number_at 8 long.1)
    else Err (Length at)
extent_by section at (Err fault) = Err (Cut at)

-- the extent of the unit at a place
abbrev pub extent_of : List ℕ → ℕ → Result Extent ExtentFault
extent_of section at = extent_by section at (number_at 4 (record { bytes = section; at = at }))
