use Rattle.std.proofs.Common.{◌≡◌, ◌+◌, drop, length, position}
use Rattle.std.specs.List.{position_from}
use Rattle.mac_base.specs.Items.{is_start}
use Rattle.position_table.proofs.locate.first_start.Given as goal

abbrev pub invariant-loop-entry : goal.invariant-loop-entry
invariant-loop-entry l = record {
  result : position_from is_start l.passed l.entries ≡ position is_start l.initial.entries;
  rest : l.entries ≡ drop l.passed l.initial.entries;
  count : l.passed + length l.entries ≡ length l.initial.entries;
}

abbrev pub decreases-loop-entry : goal.decreases-loop-entry
decreases-loop-entry l = length l.entries
