use Rattle.std.proofs.Common.{◌≡◌, vec_len, reverse}
use Rattle.pp_directives.specs.OperandContexts.{meanings, reduced}
use Rattle.pp_directives.proofs.expression.operand_context.reduce.Given as goal

abbrev pub invariant-loop-context : goal.invariant-loop-context
invariant-loop-context l =
    reduced meanings l.pull (reverse l.contexts.items) l.operand ≡ reduced meanings l.pull (reverse l.initial.contexts.items) l.initial.operand

abbrev pub decreases-loop-context : goal.decreases-loop-context
decreases-loop-context l = vec_len l.contexts
