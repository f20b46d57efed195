use Rattle.std.proofs.Common.{◌≡◌, map, vec_len}
use Rattle.macro_expand.specs.States.{marked}
use Rattle.macro_expand.specs.Slots.{lists, in_front, AllRight}
use Rattle.macro_expand.proofs.rescan.slots.put_back.Given as goal

abbrev pub invariant-loop-hidden : goal.invariant-loop-hidden
invariant-loop-hidden l = record {
  put : in_front (map marked l.list.items) (lists l.slots.items) ≡ in_front (map marked l.fn.list.items) (lists l.fn.slots.items);
  right : AllRight l.slots.items;
}

abbrev pub decreases-loop-hidden : goal.decreases-loop-hidden
decreases-loop-hidden l = vec_len l.list
