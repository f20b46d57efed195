use Rattle.std.proofs.Common.{◌≡◌, ◌-◌}
use Rattle.unit_header.specs.Rows.{rows_from, listed_forms}
use Rattle.unit_header.proofs.operands.forms_in.Given as goal

-- what the rows that are left list is what all rows list
abbrev pub invariant-loop : goal.invariant-loop
invariant-loop l = listed_forms (rows_from (l.count - l.counter) l.rows) l.opcode ≡ listed_forms (rows_from l.count l.fn.rows) l.opcode
