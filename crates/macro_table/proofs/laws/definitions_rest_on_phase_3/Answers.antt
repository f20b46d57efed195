use Rattle.macro_table.proofs.PlainLemmas.{faults_are_plain, tokens_are_lexed}
use Rattle.macro_table.proofs.laws.definitions_rest_on_phase_3.Goals as goal

pub returns-clause-lexed : goal.returns-clause-lexed
returns-clause-lexed c = tokens_are_lexed

pub returns-clause-plain : goal.returns-clause-plain
returns-clause-plain c = faults_are_plain
