use Rattle.pp_unit.proofs.LineLemmas.{too_large}
use Rattle.std.proofs.Common.{arith}
use Rattle.pp_unit.proofs.directives.line_number.is_line_number.Goals as goal

pub returns-then-number-gt-LINE_LIMIT : goal.returns-then-number-gt-LINE_LIMIT
returns-then-number-gt-LINE_LIMIT c = too_large c.args.text.now c.loop-byte.byte-index c.loop-byte.number c.from.result c.loop-byte-test.true c.loop-byte.invariant.rest (omega arith) (omega arith)
