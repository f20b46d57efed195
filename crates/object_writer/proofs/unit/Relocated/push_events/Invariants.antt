use Rattle.std.proofs.Common.{◌≡◌, ℕ, List, map, take}
use Rattle.std.specs.List.{flat_map}
use Rattle.object_writer.specs.Strings.{texts_in, note_all}
use Rattle.object_writer.specs.Units.{event_item}
use Rattle.object_writer.specs.Growing.{Appends}
use Rattle.object_writer.proofs.unit.Relocated.push_events.Given as goal

abbrev pub invariant-loop-event : goal.invariant-loop-event
invariant-loop-event l = record {
  noted : l.strings ≡ note_all l.fn.strings (flat_map texts_in (take l.event-index l.events));
  items : (later : List (List ℕ)) → Appends l.wide l.fn.self l.self (map (event_item l.symbol (note_all l.strings later)) (take l.event-index l.events));
}
