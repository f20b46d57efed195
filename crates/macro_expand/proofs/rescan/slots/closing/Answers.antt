use Rattle.std.proofs.Common.{◌∙◌, sym, ap, Some}
use Rattle.macro_expand.specs.declared.delimiter.Delimiter.TheVariants.{Comma, Inner}
use Rattle.macro_expand.proofs.LeapLemmas.{seen_close, seen_word, seen_over, leaps_within, comma_same, inner_same, comma_no, inner_no}
use Rattle.macro_expand.proofs.rescan.slots.closing.Goals as goal

pub returns-in-Some-Closes : goal.returns-in-Some-Closes
returns-in-Some-Closes c = seen_close c.args.slots.now c.loop-slot.left.now c.in-Some.rest.now c.in-Some.slot.now c.in-Some-Closes.field-0 c.in-Some.ensures.cases.0 (sym c.slot_delimiter.ensures ∙ c.in-Some-Closes.is) c.loop-slot.invariant c.in-Some-Closes.field-0-is

pub slice_bounds-left-count : goal.slice_bounds-left-count
slice_bounds-left-count c = leaps_within c.args.slots.now c.loop-slot.left.now c.in-Some.rest.now c.in-Some.slot.now c.in-Some.ensures.cases.0 (sym c.slot_delimiter.ensures ∙ c.in-Some-Opens.is ∙ ap Some c.in-Some-Opens.field-0-is) c.loop-slot.invariant c.leap-leap.result c.leap-leap.ensures c.if-leap-eq0.false

pub loop-slot-preserved-else-leap-eq0 : goal.loop-slot-preserved-else-leap-eq0
loop-slot-preserved-else-leap-eq0 c = seen_over c.args.slots.now c.loop-slot.left.now c.in-Some.rest.now c.in-Some.slot.now c.in-Some.ensures.cases.0 (sym c.slot_delimiter.ensures ∙ c.in-Some-Opens.is ∙ ap Some c.in-Some-Opens.field-0-is) c.loop-slot.invariant c.leap-leap.result c.leap-leap.ensures c.if-leap-eq0.false

pub loop-slot-preserved-in-Some-Comma : goal.loop-slot-preserved-in-Some-Comma
loop-slot-preserved-in-Some-Comma c = seen_word c.args.slots.now c.loop-slot.left.now c.in-Some.rest.now c.in-Some.slot.now Comma c.in-Some.ensures.cases.0 (sym c.slot_delimiter.ensures ∙ c.in-Some-Comma.is ∙ ap Some c.in-Some-Comma.field-0-is) c.loop-slot.invariant (λ k. comma_same k _) comma_no

pub loop-slot-preserved : goal.loop-slot-preserved
loop-slot-preserved c = seen_word c.args.slots.now c.loop-slot.left.now c.in-Some.rest.now c.in-Some.slot.now Inner c.in-Some.ensures.cases.0 (sym c.slot_delimiter.ensures ∙ c.in-Some-Inner.is ∙ ap Some c.in-Some-Inner.field-0-is) c.loop-slot.invariant (λ k. inner_same k _) inner_no
