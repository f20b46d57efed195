use Rattle.std.proofs.Common.{◌++◌, List, ℕ, ap, sym, ◌∙◌, map}
use Rattle.std.proofs.lemmas.List.{nil_from_length}
use Rattle.mac_base.specs.declared.frames.Frame.{Frame}
use Rattle.macro_query.specs.Tables.{inclusions, included_at, named_frame}
use Rattle.macro_query.proofs.TableLemmas.{inclusions_next, inclusions_done}
use Rattle.macro_query.proofs.table_report.push_inclusions.Goals as goal

pub loop-around-init : goal.loop-around-init
loop-around-init c = ap (λ (fs : List Frame). c.args.text.now.items ++ inclusions (map (named_frame c.args.graph.now.paths) fs)) (sym c.in-Some.ensures.cases.0)

pub loop-around-preserved : goal.loop-around-preserved
loop-around-preserved c =
    inclusions_next c.args.graph.now.paths _ _ _ c.loop-around.outer.now c.in-Some-split_last.further.now c.in-Some-split_last.around.now c.loop-around.file.now c.in-Some-split_last.ensures.cases.0
    (c.in_ok-push_inclusion.ensures ∙ ap (λ (path : List ℕ). c.loop-around.text.items ++ included_at (path, 0) (named_frame c.args.graph.now.paths c.loop-around.file.now)) c.path_of.ensures) c.loop-around.invariant

pub returns : goal.returns
returns c = inclusions_done c.args.graph.now.paths c.loop-around.text.items _ c.loop-around.outer.now c.loop-around.file.now (nil_from_length c.loop-around.outer.now c.in_default-split_last.ensures.cases) c.loop-around.invariant
