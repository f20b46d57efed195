use Rattle.std.proofs.Common.{not, arith, reverse}
use Rattle.std.proofs.lemmas.List.{length-reverse}
use Rattle.std.proofs.lemmas.List.Sums.{prefix_len-le-length}
use Rattle.position_table.specs.Positions.{is_colon}
use Rattle.position_table.proofs.parse.named_position.Goals as goal

pub overflow_sub-behind : goal.overflow_sub-behind
overflow_sub-behind c = omega (arith, c.behind_last_colon.ensures, prefix_len-le-length (λ byte. not (is_colon byte)) (reverse c.args.text.now), length-reverse c.args.text.now)
