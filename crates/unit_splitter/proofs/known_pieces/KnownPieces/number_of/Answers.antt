use Rattle.std.proofs.Common.{◌≡◌, List, Bool, Some, None, ap, sym, ◌∙◌}
use Rattle.std.specs.Prelude.{position, nat_eq}
use Rattle.std.specs.Cmp.Lexicographic.{pointwise}
use Rattle.unit_splitter.specs.declared.pieces.Piece.{Piece}
use Rattle.unit_splitter.specs.Growing.{digest_of}
use Rattle.unit_splitter.specs.Split.{same_part}
use Rattle.unit_splitter.proofs.PlaceLemmas.{none_before, first_before}
use Rattle.unit_splitter.proofs.PieceLemmas.{same_digest}
use Rattle.unit_splitter.proofs.known_pieces.KnownPieces.number_of.Goals as goal

pub returns-in_err-number : goal.returns-in_err-number
returns-in_err-number c =
    let part = c.args.part.now in
    let digest = c.args.digest.now in
    let named : Piece → Bool = λ piece. pointwise nat_eq (digest_of piece.entries) digest in
    let asked : Piece → Bool = λ piece. same_part part piece.entries in
    let none : position named c.args.self.now ≡ None =
    sym (c.copied.ensures ∙ c.get.ensures.value ∙ c.self.invariant.first digest ∙ ap (λ (pieces : List Piece). position named pieces) c.self.view_is) ∙ c.in_err-number.was in
    c.from_residual.ensures ∙ sym (none_before named asked c.args.self.now (λ piece. same_digest part digest piece c.requires) none)

pub returns-then-is_at : goal.returns-then-is_at
returns-then-is_at c =
    let part = c.args.part.now in
    let digest = c.args.digest.now in
    let named : Piece → Bool = λ piece. pointwise nat_eq (digest_of piece.entries) digest in
    let asked : Piece → Bool = λ piece. same_part part piece.entries in
    let there : position named c.args.self.now ≡ Some c.in_ok-number.number =
    sym (c.copied.ensures ∙ c.get.ensures.value ∙ c.self.invariant.first digest ∙ ap (λ (pieces : List Piece). position named pieces) c.self.view_is) ∙ c.in_ok-number.was in
    sym (first_before named asked c.args.self.now c.in_ok-number.number (λ piece. same_digest part digest piece c.requires) there (sym c.is_at.ensures ∙ c.if-is_at.true))
