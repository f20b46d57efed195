use Rattle.std.proofs.Common.{◌≡◌, drop}
use Rattle.macro_expand.specs.Expansion.{has_lone_quote}
use Rattle.macro_expand.proofs.expansion.has_lone_quote.Given as goal

abbrev pub invariant-loop-token : goal.invariant-loop-token
invariant-loop-token l = has_lone_quote (drop l.token-index l.tokens) ≡ has_lone_quote l.tokens
