use Rattle.std.proofs.Common.{◌≡◌, ℕ, ◌<◌, false}
use Rattle.section_views.specs.Family.{is_named}
use Rattle.section_views.specs.Members.{name_at}
use Rattle.section_views.proofs.family.place_in.Given as goal

abbrev pub invariant-loop-place : goal.invariant-loop-place
invariant-loop-place l = (k : ℕ) → k < l.place → is_named l.names (name_at k) l.section ≡ false
