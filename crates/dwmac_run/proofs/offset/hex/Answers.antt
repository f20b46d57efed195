use Rattle.std.proofs.Common.{arith}
use Rattle.dwmac_run.proofs.LineLemmas.{hex_fits}
use Rattle.dwmac_run.proofs.offset.hex.Goals as goal

pub overflow_mul-number : goal.overflow_mul-number
overflow_mul-number c = omega (arith, hex_fits c.loop-byte.number c.loop-byte.byte-index 0 (omega arith) c.loop-byte.invariant.small (omega arith))

pub overflow_add-number : goal.overflow_add-number
overflow_add-number c =
    omega (arith, c.from.ensures, hex_fits c.loop-byte.number c.loop-byte.byte-index c.in_ok-hex_value.field-0 (omega arith) c.loop-byte.invariant.small (omega (arith, c.in_ok-hex_value.ensures.small)))
