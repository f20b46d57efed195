-- The faults of a macro unit.
use Rattle.std.specs.Prelude.{Result, Ok, Err}
use Rattle.mac_base.specs.declared.cursor.CursorFault.{CursorFault}
use Rattle.mac_base.specs.declared.cursor.CursorFault.TheVariants.{Cut as CutField, Leb as LongNumber, NoNul as OpenString}
use Rattle.unit_header.specs.declared.fault.UnitFault.{UnitFault}
use Rattle.unit_header.specs.declared.fault.UnitKind.TheVariants.{Cut, Leb, NoNul}

-- a fault of a field, as one of the macro unit
abbrev pub unit_fault : CursorFault → UnitFault
unit_fault (CutField at) = record { at = at; what = Cut }
unit_fault (LongNumber at) = record { at = at; what = Leb }
unit_fault (OpenString at) = record { at = at; what = NoNul }

-- a field of a macro unit
abbrev pub field : {A : Type 0} → Result A CursorFault → Result A UnitFault
field (Ok x) = Ok x
field (Err fault) = Err (unit_fault fault)
