use Rattle.std.proofs.Common.{◌≡◌, ◌≤◌}
use Rattle.macro_expand.specs.Macros.{macros_of}
use Rattle.macro_expand.specs.Calls.{first_list}
use Rattle.macro_expand.specs.Expansion.{limit, expansion, tokens_of}
use Rattle.macro_expand.specs.Slots.{lists}
use Rattle.macro_expand.specs.Machine.{meaning, size, with_put}
use Rattle.macro_expand.proofs.rescan.machine.run.Given as goal

abbrev pub invariant-loop-text : goal.invariant-loop-text
invariant-loop-text l = record {
  same : with_put l.text.items (meaning (macros_of l.definitions) l.here l.machine) ≡ tokens_of (expansion (macros_of l.fn.definitions) l.here (first_list (lists l.fn.slots)) 0);
  kept : l.definitions ≡ l.fn.definitions;
  work : l.machine.work ≤ limit;
}

abbrev pub decreases-loop-text : goal.decreases-loop-text
decreases-loop-text l = size l.machine
