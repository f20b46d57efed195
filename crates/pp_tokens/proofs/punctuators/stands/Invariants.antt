use Rattle.std.proofs.Common.{◌≡◌, drop}
use Rattle.pp_tokens.specs.Scan.{fits}
use Rattle.pp_tokens.proofs.punctuators.stands.Given as goal

abbrev pub invariant-loop-i : goal.invariant-loop-i
invariant-loop-i l = fits (drop l.i l.punctuator) (drop l.i l.window) ≡ fits l.punctuator l.window
