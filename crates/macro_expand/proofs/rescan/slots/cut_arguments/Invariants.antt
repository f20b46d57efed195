use Rattle.std.proofs.Common.{◌≡◌, ◌+◌, ◌≤◌, take, drop, length}
use Rattle.macro_expand.specs.Slots.{places, opened, passed, turned, AreRight}
use Rattle.macro_expand.proofs.rescan.slots.cut_arguments.Given as goal

abbrev pub invariant-loop-at : goal.invariant-loop-at
invariant-loop-at l = record {
  same : passed l.count (places (drop l.at l.slots.items)) (opened (places (take l.at l.slots.items)) l.left l.depth) ≡ opened (places l.fn.slots.items) l.fn.commas 0;
  within : l.at ≤ length l.slots.items;
  few : l.count + l.at ≤ length l.slots.items;
  deep : l.depth + l.at ≤ length l.slots.items;
  above : AreRight (turned (drop l.at l.slots.items));
  below : AreRight (turned (take l.at l.slots.items));
}

abbrev pub decreases-loop-at : goal.decreases-loop-at
decreases-loop-at l = l.at
