use Rattle.std.proofs.Common.{◌++◌}
use Rattle.std.specs.Prelude.{codes, decimal}
use Rattle.dwmac_run.proofs.TextLemmas.{writes_both, writes_front}
use Rattle.dwmac_run.proofs.printing.write_place.Goals as goal

pub returns-in-Done-clause-answer : goal.returns-in-Done-clause-answer
returns-in-Done-clause-answer g c = writes_both _ _ _ (codes " " ++ (c.args.path.now ++ codes ":")) (decimal c.args.line ++ codes ":") _ c.in-Done.ensures.answer c.write_line_number.ensures.answer

pub returns-in-Failed-clause-answer : goal.returns-in-Failed-clause-answer
returns-in-Failed-clause-answer g c = writes_front _ _ (codes " " ++ (c.args.path.now ++ codes ":")) (decimal c.args.line ++ codes ":") c.in-Failed.ensures.answer
