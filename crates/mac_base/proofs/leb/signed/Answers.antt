use Rattle.std.proofs.Common.{◌-◌, ◌%◌, ℤ, pos, ◌+ℤ◌, ◌*ℤ◌, FitsSigned, get_or, sym, subst, arith}
use Rattle.std.specs.Int.{w64}
use Rattle.mac_base.proofs.FieldLemmas.{signed_leb-fits-drop, signed_leb-drop}
use Rattle.mac_base.proofs.leb.signed.Goals as goal

pub returns-in_err-number : goal.returns-in_err-number
returns-in_err-number c = rw c.from_residual.ensures (λ fits.
    let xs = c.args.digits.now in
    let below = signed_leb-fits-drop xs (c.loop-i.i - 1) (omega arith) fits in
    let parts = subst (λ (z : ℤ). FitsSigned w64 z) (signed_leb-drop xs c.loop-i.i (omega arith) (omega arith)) below in
    c.in_err-number.ensures (subst (λ (z : ℤ). FitsSigned w64 (pos (get_or xs (c.loop-i.i - 1) 0 % 128) +ℤ pos 128 *ℤ z)) (sym c.loop-i.invariant.so_far) parts))
