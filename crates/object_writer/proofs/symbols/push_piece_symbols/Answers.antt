use Rattle.std.proofs.Common.{length, drop, ap, arith, length-append}
use Rattle.string_sections.specs.Pool.{pool_bytes}
use Rattle.object_writer.specs.Object.{piece_names}
use Rattle.object_writer.proofs.symbols.push_piece_symbols.Goals as goal

pub returns-then-len-gt-LIMIT-clause-large : goal.returns-then-len-gt-LIMIT-clause-large
returns-then-len-gt-LIMIT-clause-large c = λ _.
    let rest = pool_bytes (piece_names c.args.wide (drop c.loop-piece.piece-index c.args.pieces.now)) in
    omega (arith, ap length c.loop-piece.invariant.names, length-append c.loop-piece.names.items rest)
