use Rattle.std.proofs.Common.{◌≡◌, ◌+◌, length, position}
use Rattle.std.specs.List.{position_from}
use Rattle.import_graph.specs.Nodes.{AreNumbered}
use Rattle.position_table.specs.Paths.{begins_path}
use Rattle.position_table.proofs.by_path.locate_path.Given as goal

abbrev pub invariant-loop-entry : goal.invariant-loop-entry
invariant-loop-entry l = record {
  result : position_from (begins_path l.graph.paths l.path) l.passed l.entries ≡ position (begins_path l.graph.paths l.path) l.graph.items;
  count : l.passed + length l.entries ≡ length l.graph.items;
  numbered : AreNumbered (length l.graph.paths) l.entries;
}

abbrev pub decreases-loop-entry : goal.decreases-loop-entry
decreases-loop-entry l = length l.entries
