use Rattle.string_sections.proofs.PoolLawLemmas.{string_found, offsets_differ, others_kept, itself_added, members, once}
use Rattle.string_sections.proofs.laws.pool_is_exact.Goals as goal

pub returns-clause-found : goal.returns-clause-found
returns-clause-found c = string_found

pub returns-clause-differ : goal.returns-clause-differ
returns-clause-differ c = offsets_differ

pub returns-clause-kept : goal.returns-clause-kept
returns-clause-kept c = record { others = others_kept; itself = itself_added }

pub returns-clause-added : goal.returns-clause-added
returns-clause-added c = record { members = members; once = once }
