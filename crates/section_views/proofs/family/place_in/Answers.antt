use Rattle.std.proofs.Common.{◌≡◌, ℕ, List, false, sym, ◌∙◌, ap, below_more}
use Rattle.section_views.specs.Family.{is_named}
use Rattle.section_views.specs.Members.{name_at}
use Rattle.section_views.proofs.family.place_in.Goals as goal

pub loop-place-preserved : goal.loop-place-preserved
loop-place-preserved c =
    let other : is_named c.args.names.now (name_at c.loop-place.place) c.args.section.now ≡ false = ap (λ (name : List ℕ). is_named c.args.names.now name c.args.section.now) (sym c.name_at.ensures.name) ∙ sym c.if-is_text.ensures in
    below_more (λ (k : ℕ). is_named c.args.names.now (name_at k) c.args.section.now ≡ false) c.loop-place.place c.loop-place.invariant other
