use Rattle.std.proofs.Common.{◌≡◌, ◌++◌, ℕ, List, take}
use Rattle.object_writer.specs.Strings.{piece_texts, note_all}
use Rattle.object_writer.specs.Object.{pieces_sections}
use Rattle.object_writer.proofs.object.push_pieces.Given as goal

abbrev pub invariant-loop-piece : goal.invariant-loop-piece
invariant-loop-piece l = record {
  index : l.k ≡ l.piece-index;
  noted : l.strings ≡ note_all l.fn.strings (piece_texts (take l.piece-index l.pieces));
  sections : (later : List (List ℕ)) → l.sections.items ≡ l.fn.sections.items ++ pieces_sections l.layout l.wide (note_all l.strings later) 0 (take l.piece-index l.pieces);
}
