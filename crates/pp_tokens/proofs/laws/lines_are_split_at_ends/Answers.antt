use Rattle.pp_tokens.proofs.LineLemmas.{file-split, text-split, open-split}
use Rattle.pp_tokens.proofs.laws.lines_are_split_at_ends.Goals as goal

pub returns-clause-file : goal.returns-clause-file
returns-clause-file c = file-split

pub returns-clause-text : goal.returns-clause-text
returns-clause-text c = text-split

pub returns-clause-open : goal.returns-clause-open
returns-clause-open c = open-split
