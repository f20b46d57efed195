use Rattle.std.proofs.Common.{ℕ, List}
use Rattle.macro_table.proofs.FileTableLemmas as lemma
use Rattle.macro_table.proofs.laws.table_has_last_word.Goals as goal

pub returns-clause-numbers : goal.returns-clause-numbers
returns-clause-numbers c = lemma.table_has_last_word {P = ℕ}

pub returns-clause-paths : goal.returns-clause-paths
returns-clause-paths c = lemma.table_has_last_word {P = List ℕ}
