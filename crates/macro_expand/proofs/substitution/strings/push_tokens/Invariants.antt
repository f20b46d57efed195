use Rattle.std.proofs.Common.{◌≡◌, ◌++◌, map, drop}
use Rattle.macro_expand.specs.Substituted.{spelled_on}
use Rattle.macro_expand.specs.States.{marked}
use Rattle.macro_expand.proofs.substitution.strings.push_tokens.Given as goal

abbrev pub invariant-loop-hidden : goal.invariant-loop-hidden
invariant-loop-hidden l = l.text.items ++ spelled_on (map marked (drop l.hidden-index l.tokens)) ≡ l.fn.text.items ++ spelled_on (map marked l.tokens)
