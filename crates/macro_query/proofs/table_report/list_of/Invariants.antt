use Rattle.std.proofs.Common.{length}
use Rattle.macro_query.proofs.TableLemmas.{Listed}
use Rattle.macro_query.proofs.table_report.list_of.Given as goal

abbrev pub invariant-loop-name : goal.invariant-loop-name
invariant-loop-name l = Listed l.table l.report.is_long l.report.text.items l.left

abbrev pub decreases-loop-name : goal.decreases-loop-name
decreases-loop-name l = length l.left
