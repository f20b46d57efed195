use Rattle.std.proofs.Common.{◌≡◌, ℕ, ◌<◌, List, length, get_or, map, Some, ap, sym, ◌∙◌, rules, tests}
use Rattle.std.specs.Borrow.{Bor}
use Rattle.std.specs.List.{slice_split}
use Rattle.std.proofs.lemmas.List.{map_push}
use Rattle.std.proofs.lemmas.Iterator.Consumers.{YieldsList-turn, YieldsList-end}
use Rattle.std.proofs.lemmas.Iterator.Splits.{YieldsList-from_slice_split}
use Rattle.std.specs.Slice.Iter.{split_rest, split_done, split_callee}
use Rattle.position_table.specs.Positions.{is_colon, numbers_of}
use Rattle.position_table.proofs.ParseLemmas.{numbers_push, numbers_bad}
use Rattle.position_table.proofs.parse.numbers.Goals as goal

pub returns-in_default : goal.returns-in_default
returns-in_default c =
    let field = c.in-Some.field in
    let turn : (length c.loop-field.yielded < length (slice_split is_colon c.args.text.now)) × (field.now ≡ get_or (slice_split is_colon c.args.text.now) (length c.loop-field.yielded) field.now) =
    YieldsList-turn {s = c.into_iter-field-iterator.result} (YieldsList-from_slice_split {s = c.into_iter-field-iterator.result} _ is_colon c.args.text.now (ap split_rest c.into_iter-field-iterator.ensures.into_iter_gives ∙ c.split-field-items.ensures.rest) (ap split_done c.into_iter-field-iterator.ensures.into_iter_gives ∙ c.split-field-items.ensures.done) (ap split_callee c.into_iter-field-iterator.ensures.into_iter_gives ∙ c.split-field-items.ensures.closure) (λ x r q k. search (rules, tests)))
    c.loop-field.yielded c.loop-field.field-iterator c.loop-field.yielded_by c.next.result c.next.new.self field c.in-Some.is c.next.ensures.steps in
    numbers_bad (slice_split is_colon c.args.text.now) (length c.loop-field.yielded) field.now turn.0 turn.1 c.in_default.ensures

pub loop-field-preserved : goal.loop-field-preserved
loop-field-preserved c =
    ap numbers_of (map_push (λ (field : Bor (List ℕ)). field.now) c.loop-field.yielded c.in-Some.field)
    ∙ numbers_push (map (λ (field : Bor (List ℕ)). field.now) c.loop-field.yielded) c.in-Some.field.now c.loop-field.numbers.items c.in-Some-number.number c.loop-field.invariant c.in-Some-number.ensures
    ∙ ap Some (sym c.in_ok-push.ensures.items)

pub returns : goal.returns
returns c =
    let end : (map (λ (field : Bor (List ℕ)). field.now) c.loop-field.yielded ≡ slice_split is_colon c.args.text.now) × (length c.loop-field.yielded ≡ length (slice_split is_colon c.args.text.now)) =
    YieldsList-end {s = c.into_iter-field-iterator.result} (YieldsList-from_slice_split {s = c.into_iter-field-iterator.result} _ is_colon c.args.text.now (ap split_rest c.into_iter-field-iterator.ensures.into_iter_gives ∙ c.split-field-items.ensures.rest) (ap split_done c.into_iter-field-iterator.ensures.into_iter_gives ∙ c.split-field-items.ensures.done) (ap split_callee c.into_iter-field-iterator.ensures.into_iter_gives ∙ c.split-field-items.ensures.closure) (λ x r q k. search (rules, tests)))
    c.loop-field.yielded c.loop-field.field-iterator c.loop-field.yielded_by c.next.result c.next.new.self c.in-None.is c.next.ensures.steps in
    sym c.loop-field.invariant ∙ ap numbers_of end.0
