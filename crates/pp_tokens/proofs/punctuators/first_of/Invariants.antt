use Rattle.std.proofs.Common.{◌≡◌, drop}
use Rattle.std.specs.List.{find}
use Rattle.pp_tokens.specs.Scan.{fits}
use Rattle.pp_tokens.proofs.punctuators.first_of.Given as goal

abbrev pub invariant-loop-punctuator : goal.invariant-loop-punctuator
invariant-loop-punctuator l = find (λ p. fits p l.window) (drop l.punctuator-index l.table) ≡ find (λ p. fits p l.window) l.table
