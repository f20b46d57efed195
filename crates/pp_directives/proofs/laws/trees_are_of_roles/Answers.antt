use Rattle.pp_directives.proofs.TreeLemmas.{one_tree, roles_decide}
use Rattle.pp_directives.proofs.ClosingLemmas.{closed_file, closed_once}
use Rattle.pp_directives.proofs.laws.trees_are_of_roles.Goals as goal

pub returns : goal.returns
returns g c = record { one = one_tree; roles = roles_decide; closes = closed_file; once = closed_once }
