use Rattle.std.proofs.Common.{◌≡◌, ◌+◌, take, drop, length}
use Rattle.std.specs.Prelude.{slice_get}
use Rattle.position_table.specs.Standing.{behind_all}
use Rattle.position_table.proofs.table.pass_start.Given as goal

abbrev pub invariant-loop-entry : goal.invariant-loop-entry
invariant-loop-entry l = record {
  passed : behind_all l.draft (take (l.before + 1) l.entries) ≡ behind_all l.initial.draft (take (l.initial.before + 1) l.initial.entries);
  place : slice_get l.entries l.before ≡ slice_get l.initial.entries l.initial.before;
  left : drop (l.before + 1) l.entries ≡ drop (l.initial.before + 1) l.initial.entries;
}

abbrev pub decreases-loop-entry : goal.decreases-loop-entry
decreases-loop-entry l = length l.entries
