use Rattle.std.proofs.Common.{◌≡◌, ◌-◌, arith}
use Rattle.mac_base.specs.Fields.{unsigned_leb}
use Rattle.mac_base.proofs.FieldLemmas.{unsigned_leb-drop-le, unsigned_leb-drop}
use Rattle.mac_base.proofs.leb.unsigned.Goals as goal

pub returns-in_err-number : goal.returns-in_err-number
returns-in_err-number c = rw c.from_residual.ensures (λ small.
    let xs = c.args.digits.now in
    c.in_err-number.ensures (omega (arith, unsigned_leb-drop xs c.loop-i.i (omega arith) (omega arith), unsigned_leb-drop-le xs (c.loop-i.i - 1), c.loop-i.invariant.so_far)))

pub returns : goal.returns
returns c =
    let start : c.loop-i.i ≡ 0 = omega arith in
    let whole : c.loop-i.number ≡ unsigned_leb c.args.digits.now = rw start at c.loop-i.invariant.so_far in
    (omega (arith, whole), whole)
