use Rattle.std.proofs.Common.{◌≡◌, ◌+◌, ◌-◌, true, false, sym, ◌∙◌, arith}
use Rattle.std.proofs.lemmas.Result.{err_from_is_err_and}
use Rattle.info_roots.specs.Abbreviations.{ends}
use Rattle.info_roots.proofs.AbbreviationLemmas.{attributes_more, attributes_end, attributes_stop}
use Rattle.info_roots.proofs.abbreviation.read_attributes.Goals as goal

pub returns-in_err-attribute : goal.returns-in_err-attribute
returns-in_err-attribute c =
    let p = err_from_is_err_and c.from_residual.result c.from_residual.ensures.1 in
    let stop = attributes_stop (c.args.most - c.loop-index._index) c.loop-index.attributes.items c.loop-index.cursor c.in_err-attribute.field-0.0 (omega arith) c.in_err-attribute.ensures in
    rw (p.1, p.2) (sym c.loop-index.invariant ∙ stop)

pub returns-then-is_end : goal.returns-then-is_end
returns-then-is_end c =
    let is : ends c.in_ok-attribute.attribute ≡ true = sym c.is_end.ensures ∙ c.if-is_end.true in
    let end = attributes_end (c.args.most - c.loop-index._index) c.loop-index.attributes.items c.loop-index.cursor c.read_attribute.new.cursor c.in_ok-attribute.attribute (omega arith) c.in_ok-attribute.ensures is in
    sym c.loop-index.invariant ∙ end

pub loop-index-preserved : goal.loop-index-preserved
loop-index-preserved c =
    let less : c.args.most - (c.loop-index._index + 1) ≡ c.args.most - c.loop-index._index - 1 = omega arith in
    let not : ends c.in_ok-attribute.attribute ≡ false = sym c.is_end.ensures ∙ c.if-is_end.false in
    let more = attributes_more (c.args.most - c.loop-index._index) c.loop-index.attributes.items c.loop-index.cursor c.read_attribute.new.cursor c.in_ok-attribute.attribute (omega arith) c.in_ok-attribute.ensures not in
    rw (c.in_ok-push.ensures.items, less) (sym more ∙ c.loop-index.invariant)
