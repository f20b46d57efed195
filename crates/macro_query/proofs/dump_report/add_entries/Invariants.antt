use Rattle.std.proofs.Common.{length}
use Rattle.macro_query.proofs.DumpLemmas.{Tolds}
use Rattle.macro_query.proofs.dump_report.add_entries.Given as goal

-- the entries before those that are left are told
abbrev pub invariant-loop-entry : goal.invariant-loop-entry
invariant-loop-entry l = Tolds l.graph.paths l.graph.items l.initial.report.is_long l.initial.report.text.items l.report.is_long l.report.text.items l.entries

abbrev pub decreases-loop-entry : goal.decreases-loop-entry
decreases-loop-entry l = length l.entries
