use Rattle.std.proofs.Common.{◌≡◌, ◌++◌, length, drop}
use Rattle.string_sections.specs.Pool.{pool_bytes}
use Rattle.object_writer.specs.Elf.{name_table}
use Rattle.object_writer.specs.Object.{piece_symbols, piece_names}
use Rattle.object_writer.proofs.symbols.push_piece_symbols.Given as goal

abbrev pub invariant-loop-piece : goal.invariant-loop-piece
invariant-loop-piece l = record {
  index : l.k ≡ l.piece-index;
  names : l.names.items ++ pool_bytes (piece_names l.wide (drop l.piece-index l.pieces)) ≡ name_table (piece_names l.wide l.pieces);
  symbols : l.symbols.items ++ piece_symbols l.k (length l.names.items) (piece_names l.wide (drop l.piece-index l.pieces)) ≡ l.fn.symbols.items ++ piece_symbols 0 1 (piece_names l.wide l.pieces);
}
