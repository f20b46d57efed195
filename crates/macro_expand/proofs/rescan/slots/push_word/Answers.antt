use Rattle.std.proofs.Common.{subst}
use Rattle.macro_expand.specs.declared.rescan.slots.Slot.TheVariants as slot
use Rattle.macro_expand.specs.Slots.{IsRight, turned}
use Rattle.macro_expand.proofs.SlotLemmas.{word_on}
use Rattle.macro_expand.proofs.LeapLemmas.{pushed_right}
use Rattle.macro_expand.proofs.rescan.slots.push_word.Goals as goal

pub returns-clause-right : goal.returns-clause-right
returns-clause-right c =
    pushed_right c.args.slots.now.items c.push.new.self.items (slot.Word c.args.hidden c.leap_of-leap.result) c.in_ok-push.ensures.items
    (subst (λ l. IsRight (slot.Word c.args.hidden c.leap_of-leap.result) (turned l)) c.as_slice.ensures.value c.leap_of-leap.ensures) c.requires.right

pub returns-clause-put : goal.returns-clause-put
returns-clause-put c = word_on c.args.slots.now.items c.push.new.self.items c.args.hidden c.leap_of-leap.result c.in_ok-push.ensures.items
