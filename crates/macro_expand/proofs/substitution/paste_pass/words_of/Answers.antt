use Rattle.macro_expand.proofs.PassLemmas.{word_more}
use Rattle.macro_expand.proofs.substitution.paste_pass.words_of.Goals as goal

pub loop-cell-preserved : goal.loop-cell-preserved
loop-cell-preserved c = word_more c.loop-cell.list.items c.push_word.new.list.items c.loop-cell.yielded c.in-Some.cell c.loop-cell.invariant c.in_ok-push_word.ensures
