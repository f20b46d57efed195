use Rattle.std.proofs.Common.{take}
use Rattle.pp_tokens.specs.Printing.{Prints}
use Rattle.pp_tokens.proofs.printing.print_tokens.Given as goal

abbrev pub invariant-loop-i : goal.invariant-loop-i
invariant-loop-i l = Prints (take l.i l.tokens) l.text.items
