use Rattle.std.proofs.Common.{inr, ◌∙◌, ap}
use Rattle.std.specs.FinMap as finite
use Rattle.std.proofs.lemmas.List.{nil_from_length}
use Rattle.macro_query.proofs.TableLemmas.{listed_first, listed_more, listed_all}
use Rattle.macro_query.proofs.table_report.list_of.Goals as goal

pub loop-name-init : goal.loop-name-init
loop-name-init c = listed_first c.args.table.now c.new-report.result.is_long c.new-report.result.text.items c.as_slice-left.result.now c.new-report.ensures (c.as_slice-left.ensures ∙ c.in_ok-names.ensures)

pub loop-name-preserved : goal.loop-name-preserved
loop-name-preserved c =
    listed_more c.args.table.now _ _ _ _ c.loop-name.left.now c.in-Some.behind.now c.in-Some.name.now _ c.loop-name.invariant c.in-Some.ensures.cases.0 (c.get.ensures ∙ ap (finite.get c.args.table.now) c.as_slice.ensures) c.in_ok-add_definition.ensures

pub returns : goal.returns
returns c = inr (listed_all c.args.table.now c.loop-name.report.is_long c.loop-name.report.text.items c.loop-name.left.now c.finished.result c.loop-name.invariant (nil_from_length c.loop-name.left.now c.in_default.ensures.cases) c.finished.ensures)
