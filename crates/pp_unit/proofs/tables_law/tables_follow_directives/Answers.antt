use Rattle.pp_unit.proofs.TableChangeLemmas as lemma
use Rattle.pp_unit.proofs.tables_law.tables_follow_directives.Goals as goal

pub returns-clause-directives : goal.returns-clause-directives
returns-clause-directives c = lemma.table_follows_directives

pub returns-clause-marks : goal.returns-clause-marks
returns-clause-marks c = lemma.marks_change_tables

pub returns-clause-first : goal.returns-clause-first
returns-clause-first c = lemma.first_mark
