use Rattle.std.proofs.Common.{◌≡◌, drop}
use Rattle.macro_expand.specs.States.{has_paste}
use Rattle.macro_expand.proofs.substitution.plain.has_paste.Given as goal

abbrev pub invariant-loop-token : goal.invariant-loop-token
invariant-loop-token l = has_paste (drop l.token-index l.tokens) ≡ has_paste l.tokens
