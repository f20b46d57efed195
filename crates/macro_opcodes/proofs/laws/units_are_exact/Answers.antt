use Rattle.macro_opcodes.proofs.UnitLemmas.{header_refused}
use Rattle.macro_opcodes.proofs.WholeUnitLemmas.{unit_read, unit_is_spelled, fault_excludes, one_entry_at}
use Rattle.macro_opcodes.proofs.laws.units_are_exact.Goals as goal

pub returns : goal.returns
returns c = record { complete = unit_read; sound = unit_is_spelled; no_header = header_refused; no_entry = fault_excludes; one_entry = one_entry_at }
