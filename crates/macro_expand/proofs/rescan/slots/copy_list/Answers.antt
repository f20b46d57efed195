use Rattle.std.proofs.Common.{ap, map}
use Rattle.macro_expand.specs.States.{marked}
use Rattle.macro_expand.specs.Slots.{place_of, lists}
use Rattle.macro_expand.proofs.SlotLemmas.{top_end, ended, copy_one, list_end}
use Rattle.macro_expand.proofs.rescan.slots.copy_list.Goals as goal

pub returns-in-End : goal.returns-in-End
returns-in-End c = list_end (map marked c.loop-slot.list.items) (lists c.loop-slot.left.now) _ (ended (lists c.in-Some.rest.now) (lists c.loop-slot.left.now) (top_end c.loop-slot.left.now c.in-Some.rest.now c.in-Some.slot.now c.in-Some.ensures.cases.0 (ap place_of c.in-End.is))).0 c.loop-slot.invariant

pub loop-slot-preserved : goal.loop-slot-preserved
loop-slot-preserved c = copy_one c.loop-slot.list.items c.push.new.self.items c.in-Word.hidden c.in_ok-copy_hidden-in-Word.field-0 c.loop-slot.left.now c.in-Some.rest.now c.in-Some.slot.now _ c.in_ok-copy_hidden-in-Word.ensures c.in_ok-push-in-Word.ensures.items c.in-Some.ensures.cases.0 (ap place_of c.in-Word.is) c.loop-slot.invariant
