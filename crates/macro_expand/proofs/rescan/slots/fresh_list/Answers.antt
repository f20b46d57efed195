use Rattle.std.proofs.Common.{◌∙◌, ◌++◌, ◌∷◌, [], ap, map, sym, subst, inl, refl}
use Rattle.macro_expand.specs.declared.rescan.slots.Slot.TheVariants as slot
use Rattle.macro_expand.specs.Marked.{fresh}
use Rattle.macro_expand.specs.States.{marked}
use Rattle.macro_expand.specs.Slots.{in_front, lists, AllRight}
use Rattle.macro_expand.proofs.SlotLemmas.{fresh_one, front_alone}
use Rattle.macro_expand.proofs.rescan.slots.fresh_list.Goals as goal

pub loop-token-init : goal.loop-token-init
loop-token-init c = record {
  list = ap (λ s. in_front (map fresh c.args.tokens.now) (lists s)) c.in_ok-push.ensures.items ∙ ap (λ s. in_front (map fresh c.args.tokens.now) (lists (s ++ slot.End ∷ []))) c.new-slots.ensures.items ∙ front_alone (map fresh c.args.tokens.now);
  right = subst AllRight (sym (c.in_ok-push.ensures.items ∙ ap (λ s. s ++ slot.End ∷ []) c.new-slots.ensures.items)) (inl refl, tt);
}

pub loop-token-preserved : goal.loop-token-preserved
loop-token-preserved c = record {
  list = fresh_one c.loop-token.left.now c.in-Some.rest.now (lists c.loop-token.slots.items) (lists c.push_word.new.slots.items) c.in-Some.token.now (marked c.in_ok-fresh_copy.field-0) c.in-Some.ensures.cases.0 c.in_ok-fresh_copy.ensures c.in_ok-push_word.ensures.put ∙ c.loop-token.invariant.list;
  right = c.push_word.ensures.right;
}
