use Rattle.std.proofs.Common.{◌≡◌, ◌+◌, drop}
use Rattle.pp_tokens.specs.Scan.{unpadded_length}
use Rattle.pp_tokens.proofs.punctuators.size.Given as goal

abbrev pub invariant-loop-i : goal.invariant-loop-i
invariant-loop-i l = l.i + unpadded_length (drop l.i l.punctuator) ≡ unpadded_length l.punctuator
