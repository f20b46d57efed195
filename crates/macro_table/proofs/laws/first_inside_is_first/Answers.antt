use Rattle.std.proofs.Common.{ℕ, List}
use Rattle.macro_table.proofs.InsideLemmas.{first-inside}
use Rattle.macro_table.proofs.laws.first_inside_is_first.Goals as goal

pub returns-clause-numbers : goal.returns-clause-numbers
returns-clause-numbers c = first-inside ℕ

pub returns-clause-paths : goal.returns-clause-paths
returns-clause-paths c = first-inside (List ℕ)
