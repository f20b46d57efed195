use Rattle.std.proofs.Common.{length}
use Rattle.mac_base.specs.SectionBytes.{bytes_of}
use Rattle.macro_query.proofs.PositionLemmas.{Passes}
use Rattle.macro_query.proofs.position.find_named.Given as goal

-- no file of this path begins in the roots before those that are left
abbrev pub invariant-loop-root : goal.invariant-loop-root
invariant-loop-root l = Passes (bytes_of l.s) l.path l.line l.roots l.left

abbrev pub decreases-loop-root : goal.decreases-loop-root
decreases-loop-root l = length l.left
