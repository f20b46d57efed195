use Rattle.std.proofs.Common.{◌≡◌, Some, reverse, drop}
use Rattle.pp_directives.specs.OperandContexts.{meanings, run, spelled_by}
use Rattle.pp_directives.proofs.expression.parser.parse_expression.Given as goal

abbrev pub invariant-loop-symbol : goal.invariant-loop-symbol
invariant-loop-symbol l =
    run meanings (drop l.symbol-index l.symbols) (Some (record { contexts = reverse l.contexts.items; operand = l.operand })) ≡ spelled_by meanings l.symbols
