-- Operands for which there is no word.
use Rattle.std.proofs.Common.{◌≡◌, ℕ, ◌≤◌, List, [], ◌∷◌, length, drop, Option, None, subst, arith}
use Rattle.std.proofs.lemmas.List.{drop_all}
use Rattle.dwmac_run.specs.declared.commands.Operand.{Operand}
use Rattle.dwmac_run.specs.declared.operands.Operands.{Operands}
use Rattle.dwmac_run.specs.Operands.{read_operands}

-- where operands are left after the last word, nothing is read
pub none_left : (left : List Operand) (read : Operands) (words : List (List ℕ)) (i : ℕ) (whole : Option Operands) → 1 ≤ length left → length words ≤ i → read_operands left read (drop i words) ≡ whole → None ≡ whole
none_left [] read words i whole some all is = absurd (omega arith)
none_left (operand ∷ left) read words i whole some all is = subst (λ (ws : List (List ℕ)). read_operands (operand ∷ left) read ws ≡ whole) (drop_all i words all) is
