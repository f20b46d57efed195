use Rattle.std.proofs.Common.{◌≡◌, ◌≤◌}
use Rattle.macro_expand.specs.Macros.{macros_of}
use Rattle.macro_expand.specs.Calls.{first_list}
use Rattle.macro_expand.specs.Expansion.{limit, single_level}
use Rattle.macro_expand.specs.Slots.{lists}
use Rattle.macro_expand.specs.Levels.{level_meaning, level_size}
use Rattle.macro_expand.proofs.rescan.once.run.Given as goal

abbrev pub invariant-loop-level : goal.invariant-loop-level
invariant-loop-level l = record {
  same : level_meaning (macros_of l.definitions) l.here l.level ≡ single_level (macros_of l.fn.definitions) l.here (first_list (lists l.fn.slots)) 0;
  kept : l.definitions ≡ l.fn.definitions;
  work : l.level.work ≤ limit;
}

abbrev pub decreases-loop-level : goal.decreases-loop-level
decreases-loop-level l = level_size l.level
