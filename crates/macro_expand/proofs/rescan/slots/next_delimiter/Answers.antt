use Rattle.std.proofs.Common.{◌∙◌, ap, sym}
use Rattle.macro_expand.specs.Calls.{first_list}
use Rattle.macro_expand.specs.Slots.{lists_of, first_delimiter, place_of, places}
use Rattle.macro_expand.proofs.SlotLemmas.{top, next_is}
use Rattle.macro_expand.proofs.rescan.slots.next_delimiter.Goals as goal

pub returns : goal.returns
returns c = c.slot_delimiter.ensures ∙ next_is (place_of c.in-Some.slot.now) (places c.in-Some.field-0-1.now) ∙ ap (λ l. first_delimiter (first_list (lists_of l))) (sym (top c.args.slots.now c.in-Some.field-0-1.now c.in-Some.slot.now c.in-Some.ensures.cases.0))
