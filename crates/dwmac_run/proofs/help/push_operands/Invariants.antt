use Rattle.std.proofs.Common.{◌≡◌, ◌++◌, take}
use Rattle.std.specs.List.{flat_map}
use Rattle.dwmac_run.specs.Commands.{operand_help}
use Rattle.dwmac_run.proofs.help.push_operands.Given as goal

abbrev pub invariant-loop-operand : goal.invariant-loop-operand
invariant-loop-operand l = l.text.items ≡ l.fn.text.items ++ flat_map operand_help (take l.operand-index l.operands)
