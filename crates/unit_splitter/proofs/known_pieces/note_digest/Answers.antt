use Rattle.std.proofs.Common.{ap, sym, ◌∙◌, cond, Some}
use Rattle.std.specs.Prelude.{nat_eq}
use Rattle.std.specs.Ordering.{nat_cmp}
use Rattle.std.specs.BTreeMap.{get}
use Rattle.std.specs.Cmp.Lexicographic.{pointwise, slice_cmp, texts_ties}
use Rattle.unit_splitter.proofs.PlaceLemmas.{noted_new}
use Rattle.unit_splitter.proofs.PieceLemmas.{none_at}
use Rattle.unit_splitter.proofs.known_pieces.note_digest.Goals as goal

pub returns : goal.returns
returns c = λ other.
    let old = c.args.numbers.now in
    let digest = c.args.digest in
    let number = c.args.number in
    c.in_ok-insert.ensures.updates.0 other
    ∙ ap (λ b. cond b (Some number) (get (slice_cmp nat_cmp) old other)) (sym (texts_ties digest other))
    ∙ noted_new (get (slice_cmp nat_cmp) old other) (pointwise nat_eq digest other) number (none_at old digest other (sym c.contains_key.ensures ∙ c.if-contains_key.false))
