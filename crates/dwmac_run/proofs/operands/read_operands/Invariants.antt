use Rattle.std.proofs.Common.{◌≡◌, drop}
use Rattle.dwmac_run.specs.Operands.{no_operands, read_operands}
use Rattle.dwmac_run.proofs.operands.read_operands.Given as goal

-- what is read with the words that are left is what is read with all
abbrev pub invariant-loop-word : goal.invariant-loop-word
invariant-loop-word l = read_operands l.left l.read (drop l.word-index l.words) ≡ read_operands l.operands no_operands l.words
