use Rattle.std.proofs.Common.{◌≡◌, sym, ◌∙◌, ap, arith, ◌<◌, length, Some, List}
use Rattle.unit_splitter.specs.declared.pieces.Piece.{Piece}
use Rattle.std.proofs.lemmas.Bool.Decides.{nat_tests}
use Rattle.unit_splitter.proofs.PieceLemmas.{number_of_grown}
use Rattle.unit_splitter.proofs.known_pieces.KnownPieces.with_new.Goals as goal

pub returns-clause-number : goal.returns-clause-number
returns-clause-number c =
    let next : c.len-number.result ≡ length c.args.self = c.len-number.ensures ∙ ap (λ (ps : List Piece). length ps) c.self.view_is in
    let room : length c.args.self < 16384 = grind (arith, nat_tests, next, c.if-number-ge-PIECE_LIMIT.false) in
    ap Some next ∙ sym (number_of_grown c.args.self c.args.part.now c.requires.run c.requires.new room)
