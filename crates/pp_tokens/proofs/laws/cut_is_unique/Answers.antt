use Rattle.pp_tokens.proofs.UniqueLemmas.{cut-unique, file-unique, text-unique}
use Rattle.pp_tokens.proofs.laws.cut_is_unique.Goals as goal

pub returns-clause-cut : goal.returns-clause-cut
returns-clause-cut c = cut-unique

pub returns-clause-file : goal.returns-clause-file
returns-clause-file c = file-unique

pub returns-clause-text : goal.returns-clause-text
returns-clause-text c = text-unique
