use Rattle.std.proofs.Common.{◌≡◌, ◌-◌, drop}
use Rattle.macro_expand.specs.Slots.{lists, AllRight}
use Rattle.macro_expand.proofs.rescan.slots.drop_lists.Given as goal

abbrev pub invariant-loop : goal.invariant-loop
invariant-loop l = record {
  dropped : drop (l.count - l.counter) (lists l.slots.items) ≡ drop l.count (lists l.fn.slots.items);
  right : AllRight l.slots.items;
}
