use Rattle.std.proofs.Common.{◌≡◌, length, None}
use Rattle.std.specs.List.{find}
use Rattle.section_views.specs.SectionTable.{sections_before, is_outside}
use Rattle.section_views.proofs.checks.check_ranges.Given as goal

abbrev pub invariant-loop-n : goal.invariant-loop-n
invariant-loop-n l = find (is_outside (length l.table)) (sections_before l.table l.n) ≡ None
