use Rattle.std.proofs.Common.{◌≡◌, ◌+◌, ◌<◌, ◌≤◌, drop, length, Some}
use Rattle.macro_table.specs.FileTable.{levels, instance}
use Rattle.position_table.proofs.locate.locate_chain.Given as goal

abbrev pub invariant-loop-included : goal.invariant-loop-included
invariant-loop-included l = record {
  result : levels l.graph.items (drop l.included-index l.lines) l.depth (Some l.start) ≡ instance l.graph.items l.lines;
  rest : l.entries ≡ drop (l.start + 1) l.graph.items;
  within : l.start < length l.graph.items;
  few : l.depth ≤ l.start;
}
