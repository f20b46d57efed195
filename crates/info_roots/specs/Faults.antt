-- How a fault of a field is one of the unit, and how a call answers what reading gives, by the forms that all crates share.
use Rattle.std.specs.Prelude.{◌≡◌, ℕ, Result, Ok, Err}
use Rattle.mac_base.specs.Input.{Input}
use Rattle.mac_base.specs.Answers.{AnswersAs, IsFaultOf as IsFaultUnless}
use Rattle.mac_base.specs.declared.cursor.CursorFault.{CursorFault}
use Rattle.mac_base.specs.declared.cursor.CursorFault.TheVariants.{Cut as CutField, Leb as LongNumber, NoNul as OpenString}
use Rattle.mac_base.specs.declared.extent.ExtentFault.{ExtentFault}
use Rattle.mac_base.specs.declared.extent.ExtentFault.TheVariants.{Cut as CutUnit, Length as ReservedLength}
use Rattle.info_roots.specs.declared.fault.InfoFault.{InfoFault}
use Rattle.info_roots.specs.declared.fault.InfoKind.{InfoKind}
use Rattle.info_roots.specs.declared.fault.InfoKind.TheVariants.{Cut, Leb, NoNul, Length, NoMemory}

-- a fault at a place
abbrev pub fault_at : ℕ → InfoKind → InfoFault
fault_at at what = record { at = at; what = what }

-- a fault of a field
abbrev pub info_fault : CursorFault → InfoFault
info_fault (CutField at) = fault_at at Cut
info_fault (LongNumber at) = fault_at at Leb
info_fault (OpenString at) = fault_at at NoNul

-- a field of a unit
abbrev pub field : {A : Type 0} → Result A CursorFault → Result A InfoFault
field (Ok x) = Ok x
field (Err fault) = Err (info_fault fault)

-- a fault of the unit's length
abbrev pub extent_fault : ExtentFault → InfoFault
extent_fault (CutUnit at) = fault_at at Cut
extent_fault (ReservedLength at) = fault_at at Length

-- a field that is a unit's length
abbrev pub extent_field : {A : Type 0} → Result A ExtentFault → Result A InfoFault
extent_field (Ok x) = Ok x
extent_field (Err fault) = Err (extent_fault fault)

-- want of memory, which says nothing of the sections
abbrev pub ran_out : InfoFault
ran_out = fault_at 0 NoMemory

-- a fault that is answered is the one that reading gives, unless memory ran out
abbrev pub IsFaultOf : {Y : Type 0} → Result Y InfoFault → InfoFault → Type 0
IsFaultOf reading fault = IsFaultUnless ran_out reading fault

-- a call answers exactly what reading gives, seen by view, or that memory ran out
abbrev pub Answers : {X Y : Type 0} → (X → Y) → Result X InfoFault → Result Y InfoFault → Type 0
Answers view result reading = AnswersAs ran_out view result reading

-- the same of a call that takes no memory and reads nothing
abbrev pub Says : {X Y : Type 0} → (X → Y) → Result X InfoFault → Result Y InfoFault → Type 0
Says view (Ok x) reading = reading ≡ Ok (view x)
Says view (Err fault) reading = reading ≡ Err fault

-- the same of a call that passes over what it reads
abbrev pub Passes : {X : Type 0} → Input → Result X InfoFault → Result Input InfoFault → Type 0
Passes new (Ok x) reading = reading ≡ Ok new
Passes new (Err fault) reading = reading ≡ Err fault
