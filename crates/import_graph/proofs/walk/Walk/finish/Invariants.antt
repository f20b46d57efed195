use Rattle.std.proofs.Common.{ℕ, reverse}
use Rattle.mac_base.specs.SectionBytes.{SectionBytes}
use Rattle.import_graph.specs.Meaning.{Lent}
use Rattle.import_graph.specs.Progress.{WalkStands, effort_of}
use Rattle.import_graph.proofs.walk.Walk.finish.Given as goal

abbrev pub invariant-loop-unit : goal.invariant-loop-unit
invariant-loop-unit g l =
    (s : SectionBytes) (lent : Lent) (root : ℕ) → WalkStands s lent root l.initial.walk (reverse l.initial.walk.open.items) → WalkStands s lent root l.walk (reverse l.walk.open.items)

abbrev pub decreases-loop-unit : goal.decreases-loop-unit
decreases-loop-unit g l = effort_of l.walk
