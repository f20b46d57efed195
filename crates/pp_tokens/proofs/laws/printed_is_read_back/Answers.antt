use Rattle.pp_tokens.proofs.ReadBackLemmas.{printed-lexes}
use Rattle.pp_tokens.proofs.PrintedLemmas.{tokens-printed}
use Rattle.pp_tokens.proofs.laws.printed_is_read_back.Goals as goal

pub returns-clause-text : goal.returns-clause-text
returns-clause-text c = tokens-printed

pub returns-clause-again : goal.returns-clause-again
returns-clause-again c = printed-lexes
