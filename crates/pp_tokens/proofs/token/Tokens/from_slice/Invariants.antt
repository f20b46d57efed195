use Rattle.std.proofs.Common.{◌≡◌, take}
use Rattle.pp_tokens.proofs.token.Tokens.from_slice.Given as goal

abbrev pub invariant-loop-token : goal.invariant-loop-token
invariant-loop-token l = l.made ≡ take l.token-index l.tokens
