use Rattle.pp_directives.proofs.AnswerLemmas.{one_tree, an_answer, one_answer, syntax_fault}
use Rattle.pp_directives.proofs.SymbolLemmas.{token_fault}
use Rattle.pp_directives.proofs.TypeLemmas.{has_type, value_fault}
use Rattle.pp_directives.proofs.expression.value.conditions_are_exact.Goals as goal

pub returns : goal.returns
returns c = record {
  one_tree = one_tree;
  an_answer = an_answer;
  one_answer = one_answer;
  has_type = has_type;
  value_fault = value_fault;
  token_fault = token_fault;
  syntax_fault = syntax_fault;
}
