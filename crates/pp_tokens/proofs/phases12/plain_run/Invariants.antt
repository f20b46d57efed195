use Rattle.std.proofs.Common.{◌≡◌, ◌+◌, length, drop}
use Rattle.pp_tokens.specs.Raw.{ArePlain}
use Rattle.pp_tokens.proofs.phases12.plain_run.Given as goal

abbrev pub invariant-loop-rest : goal.invariant-loop-rest
invariant-loop-rest l = record { at : l.rest ≡ drop l.run l.bytes; plain : ArePlain l.run l.bytes; long : l.run + length l.rest ≡ length l.bytes }

abbrev pub decreases-loop-rest : goal.decreases-loop-rest
decreases-loop-rest l = length l.rest
