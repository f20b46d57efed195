use Rattle.std.proofs.Common.{◌≡◌, List, [], ◌∷◌, ◌++◌, ◌<◌, length, ap, sym, ◌∙◌, subst}
use Rattle.mac_base.specs.declared.events.Event.{Event}
use Rattle.unit_splitter.specs.declared.pieces.Piece.{Piece}
use Rattle.unit_splitter.proofs.PieceLemmas.{known_more}
use Rattle.unit_splitter.proofs.known_pieces.KnownPieces.with_piece.Goals as goal

pub invariant_of-result : goal.invariant_of-result
invariant_of-result c =
    let inside = c.self.inside in
    let part = c.args.part.now in
    let room : length inside.pieces < 16384 = subst (λ (ps : List Piece). length ps < 16384) (sym c.self.view_is) c.requires.room in
    let after : c.push.new.self ≡ inside.pieces ++ record { entries = part } ∷ [] =
    c.in_ok-push.ensures.ok ∙ ap (λ (es : List Event). inside.pieces ++ record { entries = es } ∷ []) (c.from_vec-entries.ensures ∙ c.in_ok-copy_part.ensures) in
    known_more inside.numbers c.note_digest.new.numbers inside.pieces c.push.new.self part c.args.digest c.len.result c.self.invariant room c.len.ensures c.requires.digest after c.in_ok-note_digest.ensures
