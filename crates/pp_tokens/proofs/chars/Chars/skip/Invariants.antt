use Rattle.std.proofs.Common.{◌≡◌, drop}
use Rattle.pp_tokens.proofs.chars.Chars.skip.Given as goal

abbrev pub invariant-loop : goal.invariant-loop
invariant-loop l = l.self ≡ drop l.counter l.fn.self
