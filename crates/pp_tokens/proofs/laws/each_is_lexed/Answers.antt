use Rattle.pp_tokens.proofs.ExistLemmas.{cut-exists, file-lexed, text-lexed}
use Rattle.pp_tokens.proofs.laws.each_is_lexed.Goals as goal

pub returns-clause-cut : goal.returns-clause-cut
returns-clause-cut c = cut-exists

pub returns-clause-file : goal.returns-clause-file
returns-clause-file c = file-lexed

pub returns-clause-text : goal.returns-clause-text
returns-clause-text c = text-lexed
