use Rattle.pp_directives.proofs.OneLemmas.{lines_run}
use Rattle.pp_directives.proofs.laws.lines_run_as_their_tree.Goals as goal

pub returns : goal.returns
returns g c = lines_run g.W.Following.ways
