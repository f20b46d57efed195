use Rattle.std.proofs.Common.{◌≡◌, ℕ, List, map, take}
use Rattle.std.specs.List.{flat_map}
use Rattle.object_writer.specs.Strings.{own_texts, note_all}
use Rattle.object_writer.specs.Units.{root_item}
use Rattle.object_writer.specs.Growing.{Appends}
use Rattle.object_writer.proofs.unit.Relocated.push_root_entries.Given as goal

abbrev pub invariant-loop-entry : goal.invariant-loop-entry
invariant-loop-entry l = record {
  noted : l.strings ≡ note_all l.fn.strings (flat_map own_texts (take l.entry-index l.entries));
  items : (later : List (List ℕ)) → Appends l.wide l.fn.self l.self (map (root_item l.layout (note_all l.strings later)) (take l.entry-index l.entries));
}
