use Rattle.mac_base.specs.Digits.{is_digit_of}
use Rattle.pp_directives.proofs.NumberLemmas.{prefix_is_true}
use Rattle.pp_directives.proofs.expression.constants.integer.Goals as goal

pub spelled-requires-clause-digits : goal.spelled-requires-clause-digits
spelled-requires-clause-digits c = prefix_is_true (is_digit_of c.args.base) c.args.text.now c.digits_in_front-count.result c.digits_in_front-count.ensures.value
