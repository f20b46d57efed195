use Rattle.std.proofs.Common.{◌≡◌, ◌∷◌, ◌++◌, [], map, length}
use Rattle.macro_query.specs.Tables.{inclusions, named_frame}
use Rattle.macro_query.proofs.table_report.push_inclusions.Given as goal

-- the inclusions of this file and those around it are to be told
abbrev pub invariant-loop-around : goal.invariant-loop-around
invariant-loop-around l = l.text.items ++ inclusions (map (named_frame l.graph.paths) (l.outer ++ l.file ∷ [])) ≡ l.initial.text.items ++ inclusions (map (named_frame l.graph.paths) l.frames)

abbrev pub decreases-loop-around : goal.decreases-loop-around
decreases-loop-around l = length l.outer
