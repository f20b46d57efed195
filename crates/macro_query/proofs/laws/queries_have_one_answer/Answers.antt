use Rattle.macro_query.proofs.QueryLemmas.{one_raw, one_unit_at}
use Rattle.macro_query.proofs.OneAnswerLemmas.{one_dump, one_info, one_list, one_expand, one_once}
use Rattle.macro_query.proofs.SaidLemmas.{told_raw, told_unit_at, told_dump, told_info, told_list, told_expand, told_once}
use Rattle.macro_query.proofs.laws.queries_have_one_answer.Goals as goal

pub returns-clause-one : goal.returns-clause-one
returns-clause-one c = record { raw = one_raw; unit = one_unit_at; dump = one_dump; info = one_info; list = one_list; expand = one_expand; once = one_once }

pub returns-clause-told : goal.returns-clause-told
returns-clause-told c = record { raw = told_raw; unit = told_unit_at; dump = told_dump; info = told_info; list = told_list; expand = told_expand; once = told_once }
