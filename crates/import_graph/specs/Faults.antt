-- How a fault of a line table, or of a macro unit, is one of a file's macro information.
use Rattle.std.specs.Prelude.{◌≡◌, ◌⊎◌, ℕ, Result, Ok, Err}
use Rattle.line_names.specs.declared.fault.LineFault.{LineFault}
use Rattle.line_names.specs.declared.fault.LineKind.{LineKind}
use Rattle.line_names.specs.declared.fault.LineKind.TheVariants.{NoMemory}
use Rattle.unit_header.specs.declared.fault.UnitFault.{UnitFault}
use Rattle.unit_header.specs.declared.fault.UnitKind.{UnitKind}
use Rattle.import_graph.specs.declared.fault.FileFault.{FileFault}
use Rattle.import_graph.specs.declared.fault.FileFault.TheVariants.{Line, Unit as BadUnit, NoMemory as RanOut}

-- a fault of a macro unit, of a kind at a place
abbrev pub fault_at : ℕ → UnitKind → FileFault
fault_at at what = BadUnit (record { at = at; what = what })

-- what is looked up for an entry that stands here
abbrev pub entry_part : {A : Type 0} → ℕ → Result A UnitKind → Result A FileFault
entry_part at (Ok x) = Ok x
entry_part at (Err what) = Err (fault_at at what)

-- a part of a macro unit
abbrev pub unit_part : {A : Type 0} → Result A UnitFault → Result A FileFault
unit_part (Ok x) = Ok x
unit_part (Err fault) = Err (BadUnit fault)

-- a line table
abbrev pub line_part : {A : Type 0} → Result A LineFault → Result A FileFault
line_part (Ok x) = Ok x
line_part (Err fault) = Err (Line fault)

-- want of memory while a line table is read says nothing of the table
abbrev pub from_kind : LineKind → LineFault → FileFault
from_kind NoMemory fault = RanOut
from_kind _ fault = Line fault

-- how a fault of reading a line table is answered
abbrev pub from_line : LineFault → FileFault
from_line fault = from_kind fault.what fault

-- a fault that is answered is the one that reading gives, unless memory ran out
abbrev pub IsFaultOf : {Y : Type 0} → Result Y FileFault → FileFault → Type 0
IsFaultOf reading fault = (fault ≡ RanOut) ⊎ (reading ≡ Err fault)
