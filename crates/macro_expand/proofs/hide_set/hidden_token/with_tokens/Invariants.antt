use Rattle.std.proofs.Common.{◌≡◌, ◌++◌, map}
use Rattle.macro_expand.proofs.hide_set.hidden_token.with_tokens.Given as goal

abbrev pub invariant-loop-hidden : goal.invariant-loop-hidden
invariant-loop-hidden l = l.all.items ≡ l.fn.tokens.items ++ map (λ h. h.token) l.yielded
