use Rattle.std.proofs.Common.{[], ◌∷◌}
use Rattle.dwmac_run.proofs.PieceLemmas.{no_more}
use Rattle.dwmac_run.proofs.line.of_four.Goals as goal

pub returns : goal.returns
returns c = no_more (c.args.first ∷ c.args.second ∷ c.args.third ∷ c.args.fourth ∷ [])
