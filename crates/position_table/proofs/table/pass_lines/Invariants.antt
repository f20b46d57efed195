use Rattle.std.proofs.Common.{◌≡◌, ◌+◌, ◌≤◌, length}
use Rattle.mac_base.specs.Items.{ends_or_reaches}
use Rattle.position_table.specs.Standing.{behind_all}
use Rattle.position_table.proofs.TableLemmas.{upto}
use Rattle.position_table.proofs.table.pass_lines.Given as goal

abbrev pub invariant-loop-entry : goal.invariant-loop-entry
invariant-loop-entry l = record {
  passed : behind_all l.draft (upto (ends_or_reaches l.line) l.entries l.depth) ≡ behind_all l.initial.draft (upto (ends_or_reaches l.line) l.initial.entries 0);
  within : l.depth + length l.entries ≤ length l.initial.entries;
}

abbrev pub decreases-loop-entry : goal.decreases-loop-entry
decreases-loop-entry l = length l.entries
