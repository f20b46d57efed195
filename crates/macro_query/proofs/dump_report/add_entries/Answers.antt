use Rattle.macro_query.proofs.DumpLemmas.{told_none, told_more, told_all}
use Rattle.macro_query.proofs.dump_report.add_entries.Goals as goal

pub loop-entry-init : goal.loop-entry-init
loop-entry-init c = told_none c.args.graph.now.paths c.args.graph.now.items c.in_ok-entries.entries _ _ c.in_ok-entries.ensures

pub loop-entry-preserved : goal.loop-entry-preserved
loop-entry-preserved c =
    told_more c.args.graph.now.paths c.args.graph.now.items c.loop-entry.entries c.next.new.self _ _ _ _ _ _ c.in-Some.entry c.in_ok-entry.field-0
    c.loop-entry.invariant c.in_ok-entry.was c.in-Some.ensures.steps c.in_ok-add_entry.ensures

pub returns : goal.returns
returns c = told_all c.args.graph.now.paths c.args.graph.now.items c.loop-entry.entries c.next.new.self _ _ _ _ c.loop-entry.invariant c.in_default.ensures.steps
