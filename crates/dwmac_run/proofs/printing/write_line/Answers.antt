use Rattle.dwmac_run.proofs.PieceLemmas.{line_written, line_broken}
use Rattle.dwmac_run.proofs.printing.write_line.Goals as goal

pub returns-in-Done-clause-answer : goal.returns-in-Done-clause-answer
returns-in-Done-clause-answer g c = line_written c.args.line.now _ _ _ _ c.in-Done.ensures.answer c.write_rest.ensures.answer

pub returns-in-Failed-clause-answer : goal.returns-in-Failed-clause-answer
returns-in-Failed-clause-answer g c = line_broken c.args.line.now _ _ c.in-Failed.ensures.answer
