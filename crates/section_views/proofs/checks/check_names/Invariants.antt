use Rattle.std.proofs.Common.{◌≡◌, None}
use Rattle.std.specs.List.{find}
use Rattle.section_views.specs.SectionTable.{sections_before}
use Rattle.section_views.specs.Faults.{is_nameless}
use Rattle.section_views.proofs.checks.check_names.Given as goal

abbrev pub invariant-loop-n : goal.invariant-loop-n
invariant-loop-n l = find (is_nameless l.names) (sections_before l.table l.n) ≡ None
