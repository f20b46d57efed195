use Rattle.std.proofs.Common.{◌≡◌, None}
use Rattle.std.specs.List.{find}
use Rattle.section_views.specs.SectionTable.{sections_before}
use Rattle.section_views.specs.Family.{is_compressed_family}
use Rattle.section_views.proofs.checks.check_compression.Given as goal

abbrev pub invariant-loop-n : goal.invariant-loop-n
invariant-loop-n l = find (is_compressed_family l.names) (sections_before l.table l.n) ≡ None
