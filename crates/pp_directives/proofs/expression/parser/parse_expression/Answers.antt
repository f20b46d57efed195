use Rattle.std.proofs.Common.{reverse, arith}
use Rattle.std.proofs.lemmas.Result.{err_from_is_err_and}
use Rattle.pp_directives.proofs.OperandContextLemmas.{step-fault}
use Rattle.pp_directives.proofs.expression.parser.parse_expression.Goals as goal

pub returns-in_err-operand : goal.returns-in_err-operand
returns-in_err-operand c =
    let p = err_from_is_err_and c.from_residual.result c.from_residual.ensures.1 in
    rw (p.1, p.2) (step-fault (reverse c.loop-symbol.contexts.items) c.loop-symbol.operand c.args.symbols.now c.loop-symbol.symbol-index _ _ _ (omega arith) c.in_err-operand.ensures c.loop-symbol.invariant)
