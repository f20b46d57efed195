-- What there is to be said of a translation unit: its events, or its first fault.
use Rattle.std.specs.Prelude.{◌≡◌, ℕ, nat_lt, map, if◌then◌else◌, List, [], length, Option, Some, Result, Ok, Err}
use Rattle.std.specs.List.{All}
use Rattle.mac_io.specs.Files.{Files}
use Rattle.import_graph.specs.Graph.{named}
use Rattle.mac_base.specs.ReportText.{most_report}
use Rattle.mac_base.specs.ItemLines.{item_lines}
use Rattle.pp_unit.specs.declared.request.UnitSpec.{UnitSpec}
use Rattle.pp_unit.specs.declared.fault.PpFault.{PpFault}
use Rattle.pp_unit.specs.declared.fault.PpKind.{PpKind}
use Rattle.pp_unit.specs.declared.fault.PpKind.TheVariants.{StoreFault, NoMemory}
use Rattle.pp_unit.specs.Seen.{Seen, Marked}
use Rattle.mac_base.specs.ItemLines.{item_of}
use Rattle.mac_base.specs.declared.events.Event.{Event}
use Rattle.pp_unit.specs.Files.{Stores}
use Rattle.pp_unit.specs.Walk.{Walk}
use Rattle.dwmac_run.specs.declared.refusal.Refusal.TheVariants.{TranslationUnit, ReportTooLong}
use Rattle.dwmac_run.specs.Refusals.{refusal_line}
use Rattle.dwmac_run.specs.Answers.{Answer, Prints, Refuses}

-- the lines of what was seen, with the paths of files
abbrev pub events_text : Seen → List ℕ
events_text seen = item_lines (named seen.files seen.items)

-- the lines of events, where these are the paths of files
abbrev pub event_lines : List (List ℕ) → List Event → List ℕ
event_lines files events = item_lines (named files (map item_of events))

-- a report within the limit, or that it is too long
abbrev pub reported : List ℕ → Answer
reported text = if nat_lt most_report (length text) then Refuses (refusal_line ReportTooLong) else Prints [] text

-- the answer that a fault is; that a store failed, or memory ran out, is none
abbrev pub FaultSays : PpKind → PpFault → Answer → Type 0
FaultSays StoreFault fault answer = ⊥
FaultSays NoMemory fault answer = ⊥
FaultSays kind fault answer = answer ≡ Refuses (refusal_line (TranslationUnit fault))

-- the answer that a walk is, where this is said of what an accepted translation unit has seen
abbrev pub WalkSays : (Seen → Answer) → Result Marked PpFault → Answer → Type 0
WalkSays says (Ok m) answer = answer ≡ says m.seen
WalkSays says (Err fault) answer = FaultSays fault.what fault answer

-- the answer to a translation unit over the stores of the path, of which this is said
abbrev pub UnitSays : (Seen → Answer) → Stores → UnitSpec → Answer → Type 0
UnitSays says stores unit answer = (result : Result Marked PpFault) × Walk stores unit result × WalkSays says result answer

-- its events
abbrev pub reported_events : Seen → Answer
reported_events seen = reported (events_text seen)

-- the answer that has its events
abbrev pub UnitAnswer : Stores → UnitSpec → Answer → Type 0
UnitAnswer = UnitSays reported_events

-- each store tells its files
abbrev pub AllTold : Stores → Type 0
AllTold stores = All (λ (store : List ℕ × Option Files). (files : Files) × (store.1 ≡ Some files)) stores
