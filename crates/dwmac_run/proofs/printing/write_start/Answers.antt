use Rattle.std.specs.Prelude.{codes}
use Rattle.dwmac_run.specs.Pieces.{written}
use Rattle.dwmac_run.proofs.TextLemmas.{writes_both, writes_front}
use Rattle.dwmac_run.proofs.printing.write_start.Goals as goal

pub returns-in-Done-clause-answer : goal.returns-in-Done-clause-answer
returns-in-Done-clause-answer g c = writes_both _ _ _ (codes "dwmac:") (written c.args.place) _ c.in-Done.ensures.answer c.write_piece.ensures.answer

pub returns-in-Failed-clause-answer : goal.returns-in-Failed-clause-answer
returns-in-Failed-clause-answer g c = writes_front _ _ (codes "dwmac:") (written c.args.place) c.in-Failed.ensures.answer
