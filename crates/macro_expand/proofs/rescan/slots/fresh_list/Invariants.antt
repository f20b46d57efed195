use Rattle.std.proofs.Common.{◌≡◌, map, ◌∷◌, [], length}
use Rattle.macro_expand.specs.Marked.{fresh}
use Rattle.macro_expand.specs.Slots.{lists, in_front, AllRight}
use Rattle.macro_expand.proofs.rescan.slots.fresh_list.Given as goal

abbrev pub invariant-loop-token : goal.invariant-loop-token
invariant-loop-token l = record {
  list : in_front (map fresh l.left) (lists l.slots.items) ≡ map fresh l.tokens ∷ [];
  right : AllRight l.slots.items;
}

abbrev pub decreases-loop-token : goal.decreases-loop-token
decreases-loop-token l = length l.left
