use Rattle.std.proofs.Common.{◌≡◌, drop}
use Rattle.pp_directives.specs.Values.{symbols_of}
use Rattle.pp_directives.proofs.SymbolLemmas.{after}
use Rattle.pp_directives.proofs.expression.symbols.symbols.Given as goal

abbrev pub invariant-loop-token : goal.invariant-loop-token
invariant-loop-token l = after l.found.items (symbols_of (drop l.token-index l.tokens)) ≡ symbols_of l.tokens
