use Rattle.import_graph.proofs.OneSpliceLemmas.{one_root_splice}
use Rattle.import_graph.proofs.OneWalkLemmas.{one_root_walk}
use Rattle.import_graph.proofs.AnswerLemmas.{same_graphs, same_faults, graph_or_fault, answered}
use Rattle.import_graph.proofs.WholeLemmas.{root_spliced}
use Rattle.import_graph.proofs.DecidedLemmas.{root_answered}
use Rattle.import_graph.proofs.laws.a_root_has_one_answer.Goals as goal

pub returns-clause-splice : goal.returns-clause-splice
returns-clause-splice c = one_root_splice

pub returns-clause-walk : goal.returns-clause-walk
returns-clause-walk c = one_root_walk

pub returns-clause-answer : goal.returns-clause-answer
returns-clause-answer c = record { graphs = same_graphs; faults = same_faults; apart = graph_or_fault }

pub returns-clause-some_walk : goal.returns-clause-some_walk
returns-clause-some_walk c = root_answered

pub returns-clause-whole : goal.returns-clause-whole
returns-clause-whole c = root_spliced

pub returns-clause-some_answer : goal.returns-clause-some_answer
returns-clause-some_answer c = answered
