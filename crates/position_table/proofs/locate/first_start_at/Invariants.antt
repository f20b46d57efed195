use Rattle.std.proofs.Common.{◌≡◌, ◌+◌, ◌≤◌, drop, length}
use Rattle.mac_base.specs.Items.{starts_at, first_inside}
use Rattle.position_table.proofs.ScanLemmas.{inside_from}
use Rattle.position_table.proofs.locate.first_start_at.Given as goal

abbrev pub invariant-loop-entry : goal.invariant-loop-entry
invariant-loop-entry l = record {
  result : inside_from (starts_at l.line) l.passed l.entries l.depth ≡ first_inside (starts_at l.line) l.initial.entries 0;
  rest : l.entries ≡ drop l.passed l.initial.entries;
  count : l.passed + length l.entries ≡ length l.initial.entries;
  within : l.depth ≤ l.passed;
}

abbrev pub decreases-loop-entry : goal.decreases-loop-entry
decreases-loop-entry l = length l.entries
