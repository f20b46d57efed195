use Rattle.std.proofs.Common.{◌&&◌, not, List, ℕ}
use Rattle.section_views.specs.SectionTable.{has_contents, is_grouped}
use Rattle.section_views.specs.Family.{is_named}
use Rattle.section_views.proofs.Places.{guarded_place, first_alone}
use Rattle.section_views.proofs.family.member_place.Goals as goal

pub returns : goal.returns
returns c =
    let section = c.args.section.now in
    let loose = first_alone (has_contents section) (is_grouped section) c.if-not-has_contents.ensures c.if-is_grouped.ensures in
    guarded_place (has_contents section && not (is_grouped section)) (λ (name : List ℕ). is_named c.args.names.now name section) c.place_in.result loose c.place_in.ensures
