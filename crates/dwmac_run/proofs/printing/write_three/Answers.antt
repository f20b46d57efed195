use Rattle.std.proofs.Common.{◌++◌}
use Rattle.dwmac_run.proofs.TextLemmas.{writes_both, writes_front}
use Rattle.dwmac_run.proofs.printing.write_three.Goals as goal

pub returns-in-Done-clause-answer : goal.returns-in-Done-clause-answer
returns-in-Done-clause-answer g c = writes_both _ _ _ c.args.first.now (c.args.second.now ++ c.args.third.now) _ c.in-Done.ensures.answer c.write_two.ensures.answer

pub returns-in-Failed-clause-answer : goal.returns-in-Failed-clause-answer
returns-in-Failed-clause-answer g c = writes_front _ _ c.args.first.now (c.args.second.now ++ c.args.third.now) c.in-Failed.ensures.answer
