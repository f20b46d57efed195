use Rattle.std.proofs.Common.{ℕ, List}
use Rattle.macro_table.proofs.RenamedLemmas as lemma
use Rattle.macro_table.proofs.laws.file_names_are_carried.Goals as goal

pub returns : goal.returns
returns c = record { same_instance = lemma.same_instance {P = ℕ} {Q = List ℕ}; same_prefix = lemma.same_prefix {P = ℕ} {Q = List ℕ}; same_definition = lemma.same_definition {P = ℕ} {Q = List ℕ} }
