use Rattle.std.proofs.Common.{arith}
use Rattle.pp_tokens.proofs.CleanLemmas.{left-short}
use Rattle.pp_tokens.proofs.chars.Chars.fork.Goals as goal

pub returns-clause-bound : goal.returns-clause-bound
returns-clause-bound c = omega (arith, left-short c.self.inside.cleans c.self.inside.line c.self.inside.rest.now)
