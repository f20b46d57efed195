use Rattle.std.proofs.Common.{◌≡◌, ◌++◌, map, vec_len}
use Rattle.macro_expand.specs.Calls.{first_list, other_lists}
use Rattle.macro_expand.specs.States.{marked}
use Rattle.macro_expand.specs.Slots.{lists, AllRight}
use Rattle.macro_expand.proofs.rescan.slots.take_list.Given as goal

abbrev pub invariant-loop-hidden : goal.invariant-loop-hidden
invariant-loop-hidden l = record {
  first : map marked l.list.items ++ first_list (lists l.slots.items) ≡ first_list (lists l.fn.slots.items);
  others : other_lists (lists l.slots.items) ≡ other_lists (lists l.fn.slots.items);
  right : AllRight l.slots.items;
}

abbrev pub decreases-loop-hidden : goal.decreases-loop-hidden
decreases-loop-hidden l = vec_len l.slots
