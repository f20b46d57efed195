use Rattle.std.proofs.Common.{◌≡◌, ◌+◌, List, ℕ, length}
use Rattle.mac_base.specs.SectionBytes.{bytes_of}
use Rattle.mac_base.specs.ReportText.{Tells}
use Rattle.macro_query.proofs.DumpLemmas.{Reaches}
use Rattle.macro_query.proofs.dump_report.dump_roots.Given as goal

-- the roots before those that are left are told
abbrev pub invariant-loop-root : goal.invariant-loop-root
invariant-loop-root l = (whole : List ℕ) × Tells l.report.is_long l.report.text.items whole × (l.number + length l.left ≡ length l.roots) × Reaches (bytes_of l.s) l.roots whole l.number l.left

abbrev pub decreases-loop-root : goal.decreases-loop-root
decreases-loop-root l = length l.left
