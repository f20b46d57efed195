use Rattle.std.proofs.Common.{take}
use Rattle.mac_base.specs.ReportText.{Tells}
use Rattle.dwmac_run.specs.Units.{event_lines}
use Rattle.dwmac_run.proofs.units.text_of.Given as goal

-- the report tells the events so far
abbrev pub invariant-loop-event : goal.invariant-loop-event
invariant-loop-event l = Tells l.report.is_long l.report.text.items (event_lines l.files (take l.event-index l.events))
