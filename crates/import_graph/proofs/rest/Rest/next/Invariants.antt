use Rattle.std.proofs.Common.{◌≡◌}
use Rattle.import_graph.specs.Rest.{rest_items}
use Rattle.import_graph.proofs.StepLemmas.{rest_steps}
use Rattle.import_graph.proofs.rest.Rest.next.Given as goal

abbrev pub invariant-loop-spliced : goal.invariant-loop-spliced
invariant-loop-spliced l = rest_items l.nodes l.self ≡ rest_items l.nodes l.initial.self

abbrev pub decreases-loop-spliced : goal.decreases-loop-spliced
decreases-loop-spliced l = rest_steps l.nodes l.self
