use Rattle.std.proofs.Common.{List, length}
use Rattle.std.specs.Option.{option_map}
use Rattle.mac_base.specs.Input.{rest}
use Rattle.unit_header.specs.Header.{header_of}
use Rattle.macro_opcodes.specs.Entry.{Entry}
use Rattle.macro_query.specs.UnitLines.{report}
use Rattle.mac_base.specs.ReportText.{Tells}
use Rattle.macro_query.proofs.ReadingLemmas.{ReadSoFar}
use Rattle.macro_query.proofs.unit_report.report_of.Given as goal

-- the entries up to the cursor were read, and their lines told
abbrev pub invariant-loop-report : goal.invariant-loop-report
invariant-loop-report g l = (lines : List Entry) × ReadSoFar (option_map (λ s. s.now.bytes.now) l.strs) l.section l.fn.offset (header_of l.header) l.cursor lines × Tells l.report.is_long l.report.text.items (report lines)

abbrev pub decreases-loop-report : goal.decreases-loop-report
decreases-loop-report g l = length (rest l.cursor)
