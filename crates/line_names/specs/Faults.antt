-- The faults of a line table, and how a call answers what reading gives.
use Rattle.std.specs.Prelude.{◌≡◌, ℕ, Result, Ok, Err}
use Rattle.mac_base.specs.declared.cursor.CursorFault.{CursorFault}
use Rattle.mac_base.specs.declared.cursor.CursorFault.TheVariants.{Cut as CutField, Leb as LongNumber, NoNul as OpenString}
use Rattle.mac_base.specs.declared.extent.ExtentFault.{ExtentFault}
use Rattle.mac_base.specs.declared.extent.ExtentFault.TheVariants.{Cut as CutUnit, Length as ReservedLength}
use Rattle.line_names.specs.declared.fault.LineFault.{LineFault}
use Rattle.line_names.specs.declared.fault.LineKind.{LineKind}
use Rattle.line_names.specs.declared.fault.LineKind.TheVariants.{Cut, Leb, NoNul, Length, NoMemory}

-- a fault at a place
abbrev pub fault_at : ℕ → LineKind → LineFault
fault_at at what = record { at = at; what = what }

-- a fault of a field
abbrev pub line_fault : CursorFault → LineFault
line_fault (CutField at) = fault_at at Cut
line_fault (LongNumber at) = fault_at at Leb
line_fault (OpenString at) = fault_at at NoNul

-- a field of a line table
abbrev pub field : {A : Type 0} → Result A CursorFault → Result A LineFault
field (Ok x) = Ok x
field (Err fault) = Err (line_fault fault)

-- a fault of the unit's length
abbrev pub extent_fault : ExtentFault → LineFault
extent_fault (CutUnit at) = fault_at at Cut
extent_fault (ReservedLength at) = fault_at at Length

-- a field that is a unit's length
abbrev pub extent_field : {A : Type 0} → Result A ExtentFault → Result A LineFault
extent_field (Ok x) = Ok x
extent_field (Err fault) = Err (extent_fault fault)

-- want of memory, which says nothing of the table
abbrev pub ran_out : LineFault
ran_out = fault_at 0 NoMemory

-- a call that takes no memory answers exactly what reading gives, seen by view
abbrev pub Says : {X Y : Type 0} → (X → Y) → Result X LineFault → Result Y LineFault → Type 0
Says view (Ok x) reading = reading ≡ Ok (view x)
Says view (Err fault) reading = reading ≡ Err fault
