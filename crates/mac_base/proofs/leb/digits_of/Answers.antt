use Rattle.std.proofs.Common.{sym}
use Rattle.mac_base.proofs.FieldLemmas.{leb_digits-no_position, leb_digits-position}
use Rattle.mac_base.proofs.leb.digits_of.Goals as goal

pub returns-in_err-last-clause-digits : goal.returns-in_err-last-clause-digits
returns-in_err-last-clause-digits c = rw c.from_residual.ensures (sym (leb_digits-no_position c.args.rest.now c.in_err-last.ensures))

pub returns-clause-digits : goal.returns-clause-digits
returns-clause-digits c = sym (leb_digits-position c.args.rest.now c.in_ok-last.last c.in_ok-last.ensures)
