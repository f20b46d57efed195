use Rattle.std.proofs.Common.{length, sym, ap, ◌∙◌}
use Rattle.import_graph.proofs.RestLemmas.{begins}
use Rattle.import_graph.proofs.entries.Entries.new.Goals as goal

pub invariant_of-result : goal.invariant_of-result
invariant_of-result c =
    (c.requires.ordered, c.requires.count ∙ ap length (sym (begins c.args.nodes.now c.args.node c.new.result c.requires.ordered c.new.ensures.here c.new.ensures.outer)))

pub returns : goal.returns
returns c = begins c.args.nodes.now c.args.node c.new.result c.requires.ordered c.new.ensures.here c.new.ensures.outer
