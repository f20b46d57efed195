use Rattle.pp_directives.proofs.StructureLemmas.{legal_ok, depth_law, refuses_law}
use Rattle.pp_directives.proofs.InnermostLemmas.{opens_law}
use Rattle.pp_directives.proofs.FaultLemmas.{whole_law, faults_law, answers_law}
use Rattle.pp_directives.proofs.SeenLemmas.{sees_law, reaches_law}
use Rattle.pp_directives.proofs.laws.conditions_follow_groups.Goals as goal

pub returns : goal.returns
returns c = record { turns = legal_ok; depth = depth_law; refuses = refuses_law; opens = opens_law; whole = whole_law; faults = faults_law; answers = answers_law; sees = sees_law; reaches = reaches_law }
