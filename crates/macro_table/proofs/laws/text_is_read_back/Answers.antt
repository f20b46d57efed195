use Rattle.macro_table.proofs.GivenLemmas as lemma
use Rattle.macro_table.proofs.laws.text_is_read_back.Goals as goal

pub returns : goal.returns
returns c = lemma.text_is_read_back
