use Rattle.macro_expand.proofs.FreeLemmas.{free_only}
use Rattle.macro_expand.proofs.laws.only_free_parameters_expand.Goals as goal

pub returns : goal.returns
returns c = λ d macro space hides before more one other same plain f h. free_only d macro space hides before more one other same plain f h
