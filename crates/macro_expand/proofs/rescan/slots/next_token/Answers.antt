use Rattle.std.proofs.Common.{ap}
use Rattle.macro_expand.specs.States.{marked}
use Rattle.macro_expand.specs.Slots.{place_of, lists}
use Rattle.macro_expand.proofs.SlotLemmas.{top_word, top_end, ended}
use Rattle.macro_expand.proofs.LeapLemmas.{popped_right}
use Rattle.macro_expand.proofs.rescan.slots.next_token.Goals as goal

pub returns-in-Some-Word-clause-takes : goal.returns-in-Some-Word-clause-takes
returns-in-Some-Word-clause-takes c = top_word c.args.slots.now.items c.pop.new.self.items c.in-Some-Word.field-0 (marked c.in-Some-Word.hidden) c.in-Some-Word.ensures.items (ap place_of c.in-Some-Word.field-0-is)

pub returns-in-Some-End-clause-takes : goal.returns-in-Some-End-clause-takes
returns-in-Some-End-clause-takes c =
    ended (lists c.pop.new.self.items) (lists c.args.slots.now.items) (top_end c.args.slots.now.items c.pop.new.self.items c.in-Some-End.field-0 c.in-Some-End.ensures.items (ap place_of c.in-Some-End.field-0-is))

pub returns-in-Some-Word-clause-right : goal.returns-in-Some-Word-clause-right
returns-in-Some-Word-clause-right c = popped_right c.args.slots.now.items c.pop.new.self.items c.in-Some-Word.field-0 c.in-Some-Word.ensures.items c.requires.right

pub returns-in-Some-End-clause-right : goal.returns-in-Some-End-clause-right
returns-in-Some-End-clause-right c = popped_right c.args.slots.now.items c.pop.new.self.items c.in-Some-End.field-0 c.in-Some-End.ensures.items c.requires.right
