use Rattle.std.proofs.Common.{arith}
use Rattle.pp_tokens.proofs.PrintLemmas.{not_two}
use Rattle.pp_tokens.proofs.printing.are_both.Goals as goal

pub returns-in_default : goal.returns-in_default
returns-in_default c = (λ is. cc, λ same. absurd (not_two c.args.found.now c.args.first.now c.args.second.now (λ two. absurd (omega arith)) same))

pub returns-in_default-2 : goal.returns-in_default-2
returns-in_default-2 c = (λ is. cc, λ same. absurd (not_two c.args.found.now c.args.first.now c.args.second.now (λ two. absurd (omega arith)) same))
