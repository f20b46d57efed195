use Rattle.dwmac_run.proofs.PieceLemmas.{whole_line}
use Rattle.dwmac_run.proofs.finish.outside.Goals as goal

pub returns-clause-whole : goal.returns-clause-whole
returns-clause-whole g c = whole_line _ _ _ _ _ _ c.write_line.result c.of_text.ensures c.write_line.ensures.answer c.write_line.ensures.cause
