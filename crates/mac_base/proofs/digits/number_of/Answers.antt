use Rattle.std.proofs.Common.{sym, ◌∙◌, arith}
use Rattle.mac_base.proofs.DigitLemmas.{number_in-none}
use Rattle.mac_base.proofs.digits.number_of.Goals as goal

pub returns-in_err-number : goal.returns-in_err-number
returns-in_err-number c =
    let l = c.loop-digit in
    c.from_residual.ensures ∙ sym (number_in-none c.args.base l.number l.digit-index c.args.digits.now c.requires (omega arith) l.invariant.are l.invariant.spelled (λ is small. c.in_err-number.ensures (is, small)))
