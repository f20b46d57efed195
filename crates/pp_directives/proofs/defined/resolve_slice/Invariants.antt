-- What is done, before what the rest comes to, is what the whole comes to.
use Rattle.std.proofs.Common.{◌≡◌, length}
use Rattle.pp_directives.specs.Defined.{is_defined, resolved}
use Rattle.pp_directives.proofs.DefinedLemmas.{onto}
use Rattle.pp_directives.proofs.defined.resolve_slice.Given as goal

abbrev pub invariant-loop-done : goal.invariant-loop-done
invariant-loop-done l = onto l.done (resolved (is_defined l.table) l.left) ≡ resolved (is_defined l.table) l.tokens

abbrev pub decreases-loop-done : goal.decreases-loop-done
decreases-loop-done l = length l.left
