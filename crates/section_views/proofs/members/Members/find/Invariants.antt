use Rattle.std.proofs.Common.{◌≡◌, ◌-◌, ◌≤◌, None}
use Rattle.std.specs.List.{find}
use Rattle.section_views.specs.SectionTable.{section_count, sections_before}
use Rattle.section_views.specs.Family.{is_second}
use Rattle.section_views.specs.Members.{AreFirst}
use Rattle.section_views.proofs.members.Members.find.Given as goal

abbrev pub invariant-loop-n : goal.invariant-loop-n
invariant-loop-n l = record { none : find (is_second l.table) (sections_before l.table l.n) ≡ None; within : l.n - 1 ≤ section_count l.table - 1; first : AreFirst l.table l.n l.members }
