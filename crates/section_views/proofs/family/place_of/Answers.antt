use Rattle.std.proofs.Common.{◌≡◌, ℕ, false, sym, ◌∙◌, ap, below_more}
use Rattle.std.specs.Str.{bytes_eq}
use Rattle.section_views.specs.Members.{name_at}
use Rattle.section_views.proofs.family.place_of.Goals as goal

pub loop-place-preserved : goal.loop-place-preserved
loop-place-preserved c =
    let other : bytes_eq c.args.name.now (name_at c.loop-place.place) ≡ false = ap (bytes_eq c.args.name.now) (sym c.name_at.ensures.name) ∙ sym c.if-eq.ensures in
    below_more (λ (k : ℕ). bytes_eq c.args.name.now (name_at k) ≡ false) c.loop-place.place c.loop-place.invariant other
