use Rattle.dwmac_run.proofs.OperandLemmas.{none_left}
use Rattle.dwmac_run.proofs.operands.read_operands.Goals as goal

pub returns-in-len1-up : goal.returns-in-len1-up
returns-in-len1-up c = none_left c.loop-word.left.now c.loop-word.read c.args.words.now c.loop-word.word-index _ c.in-len1-up.len_at_least c.loop-word-test.false c.loop-word.invariant
