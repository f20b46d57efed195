use Rattle.std.proofs.Common.{◌≡◌, length}
use Rattle.import_graph.specs.Nodes.{AreNumbered}
use Rattle.import_graph.proofs.entry_tests.printed.Given as goal

abbrev pub invariant-loop-entry : goal.invariant-loop-entry
invariant-loop-entry l =
    (goal.iterator-loop-entry).can_next l.entry-iterator × (goal.iterator-loop-entry).is_finite l.entry-iterator × AreNumbered (length l.graph.paths) l.entry-iterator × (l.paths ≡ length l.graph.paths)
