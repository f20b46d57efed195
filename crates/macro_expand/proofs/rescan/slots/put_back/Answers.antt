use Rattle.std.proofs.Common.{◌∙◌}
use Rattle.macro_expand.specs.Slots.{lists}
use Rattle.macro_expand.proofs.SlotLemmas.{back_one}
use Rattle.macro_expand.proofs.rescan.slots.put_back.Goals as goal

pub loop-hidden-preserved : goal.loop-hidden-preserved
loop-hidden-preserved c = record {
  put = back_one c.loop-hidden.list.items c.pop.new.self.items (lists c.loop-hidden.slots.items) (lists c.push_word.new.slots.items) c.in-Some.hidden c.in-Some.ensures.items c.in_ok-push_word.ensures.put ∙ c.loop-hidden.invariant.put;
  right = c.push_word.ensures.right;
}
