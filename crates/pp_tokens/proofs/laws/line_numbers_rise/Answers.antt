use Rattle.pp_tokens.proofs.RiseLemmas.{numbers-rise}
use Rattle.pp_tokens.proofs.laws.line_numbers_rise.Goals as goal

pub returns : goal.returns
returns c = numbers-rise
