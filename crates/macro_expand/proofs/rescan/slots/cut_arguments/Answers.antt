use Rattle.std.proofs.Common.{◌∙◌, ap, sym, arith, ◌≡◌, ◌<◌, ◌+◌, ◌-◌, length, length-set, drop, take, set, Some}
use Rattle.macro_expand.specs.declared.rescan.slots.Slot.TheVariants as slot
use Rattle.macro_expand.specs.Slots.{places, opened, passed}
use Rattle.macro_expand.proofs.SlotLemmas.{cut_none, cut_here, cut_comma, cut_word, less_deep}
use Rattle.macro_expand.proofs.CutLemmas.{whole_right, below_word, above_word, below_end, above_end, end_right, group_within, below_group, above_group, cut_group}
use Rattle.macro_expand.proofs.rescan.slots.cut_arguments.Goals as goal

pub returns-in_default-clause-cut : goal.returns-in_default-clause-cut
returns-in_default-clause-cut c =
    let a : c.loop-at.at ≡ c.loop-at.at - 1 + 1 = omega arith in
    let h : c.loop-at.at - 1 < length c.loop-at.slots.items = omega arith in
    cut_none c.loop-at.slots.items (c.loop-at.at - 1) c.loop-at.at c.index-slot.result.now c.index-slot.result.now a h c.index-slot.ensures c.loop-at.count c.loop-at.left c.loop-at.depth _ c.loop-at.invariant.same (sym c.slot_delimiter.ensures ∙ c.in_default.is)

pub returns-then-ends_call-clause-cut : goal.returns-then-ends_call-clause-cut
returns-then-ends_call-clause-cut c =
    let a : c.loop-at.at ≡ c.loop-at.at - 1 + 1 = omega arith in
    let h : c.loop-at.at - 1 < length c.loop-at.slots.items = omega arith in
    cut_here c.loop-at.slots.items (c.loop-at.at - 1) c.loop-at.at c.index-slot.result.now c.index-slot.result.now a h c.index-slot.ensures c.loop-at.count c.loop-at.left c.loop-at.depth _ c.loop-at.invariant.same c.in-Some.kind (sym c.slot_delimiter.ensures ∙ c.in-Some.is) (sym c.ends_call.ensures ∙ c.if-ends_call.true)
    ∙ ap (λ n. Some (record { count = c.loop-at.count + 1; close = n; places = places (set c.loop-at.slots.items (c.loop-at.at - 1) slot.End) })) (sym c.in_ok-hides.ensures)

pub loop-at-preserved-then-parts_arguments : goal.loop-at-preserved-then-parts_arguments
loop-at-preserved-then-parts_arguments c =
    let a : c.loop-at.at ≡ c.loop-at.at - 1 + 1 = omega arith in
    let h : c.loop-at.at - 1 < length c.loop-at.slots.items = omega arith in
    record {
      same = ap (λ l. passed (c.loop-at.count + 1) (places (drop (c.loop-at.at - 1) (set c.loop-at.slots.items (c.loop-at.at - 1) slot.End))) (opened (places (take (c.loop-at.at - 1) (set c.loop-at.slots.items (c.loop-at.at - 1) slot.End))) l c.loop-at.depth)) c.saturating_sub-left.ensures
          ∙ cut_comma c.loop-at.slots.items (c.loop-at.at - 1) c.loop-at.at c.index-slot.result.now c.index-slot.result.now a h c.index-slot.ensures c.loop-at.count c.loop-at.left c.loop-at.depth _ c.loop-at.invariant.same c.in-Some.kind (sym c.slot_delimiter.ensures ∙ c.in-Some.is) (sym c.ends_call.ensures ∙ c.if-ends_call.false) (sym c.parts_arguments.ensures ∙ c.if-parts_arguments.true);
      within = simp length-set (omega arith);
      few = simp length-set (omega arith);
      deep = simp length-set (omega arith);
      above = above_end c.loop-at.slots.items (c.loop-at.at - 1) c.loop-at.at c.index-slot.result.now c.index-slot.result.now a h c.index-slot.ensures c.loop-at.invariant.above c.loop-at.invariant.below;
      below = below_end c.loop-at.slots.items (c.loop-at.at - 1) c.loop-at.at c.index-slot.result.now c.index-slot.result.now a h c.index-slot.ensures c.loop-at.invariant.above c.loop-at.invariant.below;
    }

pub loop-at-preserved-then-group-eq0 : goal.loop-at-preserved-then-group-eq0
loop-at-preserved-then-group-eq0 c =
    let a : c.loop-at.at ≡ c.loop-at.at - 1 + 1 = omega arith in
    let h : c.loop-at.at - 1 < length c.loop-at.slots.items = omega arith in
    record {
      same = cut_word c.loop-at.slots.items (c.loop-at.at - 1) c.loop-at.at c.index-slot.result.now c.index-slot.result.now a h c.index-slot.ensures c.loop-at.count c.loop-at.left c.loop-at.depth _ c.loop-at.invariant.same c.in-Some.kind c.depth_behind-depth.result (sym c.slot_delimiter.ensures ∙ c.in-Some.is) (sym c.ends_call.ensures ∙ c.if-ends_call.false) (sym c.parts_arguments.ensures ∙ c.if-parts_arguments.false) c.depth_behind-depth.ensures;
      within = omega arith;
      few = omega arith;
      deep = less_deep c.in-Some.kind c.depth_behind-depth.result c.loop-at.depth (c.loop-at.at - 1) c.loop-at.at (length c.loop-at.slots.items) c.depth_behind-depth.ensures a c.loop-at.invariant.deep;
      above = above_word c.loop-at.slots.items (c.loop-at.at - 1) c.loop-at.at c.index-slot.result.now c.index-slot.result.now a h c.index-slot.ensures c.loop-at.invariant.above c.loop-at.invariant.below (sym c.leap-group.ensures ∙ c.if-group-eq0.true);
      below = below_word c.loop-at.slots.items (c.loop-at.at - 1) c.loop-at.at c.index-slot.result.now c.index-slot.result.now a h c.index-slot.ensures c.loop-at.invariant.above c.loop-at.invariant.below;
    }

pub returns-in_default-clause-right : goal.returns-in_default-clause-right
returns-in_default-clause-right c = whole_right c.loop-at.slots.items c.loop-at.at c.loop-at.invariant.above c.loop-at.invariant.below

pub returns-in_err-hides-clause-right : goal.returns-in_err-hides-clause-right
returns-in_err-hides-clause-right c = whole_right c.loop-at.slots.items c.loop-at.at c.loop-at.invariant.above c.loop-at.invariant.below

pub returns-then-ends_call-clause-right : goal.returns-then-ends_call-clause-right
returns-then-ends_call-clause-right c =
    let a : c.loop-at.at ≡ c.loop-at.at - 1 + 1 = omega arith in
    let h : c.loop-at.at - 1 < length c.loop-at.slots.items = omega arith in
    end_right c.loop-at.slots.items (c.loop-at.at - 1) c.loop-at.at c.index-slot.result.now c.index-slot.result.now a h c.index-slot.ensures c.loop-at.invariant.above c.loop-at.invariant.below

pub overflow_sub-at-else-group-eq0 : goal.overflow_sub-at-else-group-eq0
overflow_sub-at-else-group-eq0 c =
    let a : c.loop-at.at ≡ c.loop-at.at - 1 + 1 = omega arith in
    let h : c.loop-at.at - 1 < length c.loop-at.slots.items = omega arith in
    group_within c.loop-at.slots.items (c.loop-at.at - 1) c.loop-at.at c.index-slot.result.now c.index-slot.result.now a h c.index-slot.ensures c.loop-at.invariant.above c.loop-at.invariant.below c.leap-group.result c.leap-group.ensures c.if-group-eq0.false

pub loop-at-preserved : goal.loop-at-preserved
loop-at-preserved c =
    let a : c.loop-at.at ≡ c.loop-at.at - 1 + 1 = omega arith in
    let h : c.loop-at.at - 1 < length c.loop-at.slots.items = omega arith in
    record {
      same = cut_group c.loop-at.slots.items (c.loop-at.at - 1) c.loop-at.at c.index-slot.result.now c.index-slot.result.now a h c.index-slot.ensures c.loop-at.invariant.above c.loop-at.invariant.below c.leap-group.result c.leap-group.ensures c.if-group-eq0.false c.loop-at.count c.loop-at.left c.loop-at.depth _ c.loop-at.invariant.same;
      within = omega arith;
      few = omega arith;
      deep = omega (arith, c.loop-at.invariant.deep);
      above = above_group c.loop-at.slots.items (c.loop-at.at - 1) c.loop-at.at c.index-slot.result.now c.index-slot.result.now a h c.index-slot.ensures c.loop-at.invariant.above c.loop-at.invariant.below c.leap-group.result c.leap-group.ensures c.if-group-eq0.false;
      below = below_group c.loop-at.slots.items (c.loop-at.at - 1) c.loop-at.at c.index-slot.result.now c.index-slot.result.now a h c.index-slot.ensures c.loop-at.invariant.above c.loop-at.invariant.below c.leap-group.result c.leap-group.ensures c.if-group-eq0.false;
    }
