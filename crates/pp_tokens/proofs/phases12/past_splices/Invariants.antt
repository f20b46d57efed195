use Rattle.std.proofs.Common.{◌≡◌, ◌+◌, ◌≤◌, length}
use Rattle.pp_tokens.specs.Cleaning.{cleaned_from}
use Rattle.pp_tokens.proofs.phases12.past_splices.Given as goal

abbrev pub invariant-loop-rest : goal.invariant-loop-rest
invariant-loop-rest l = record { same : cleaned_from l.line l.rest ≡ cleaned_from l.first l.bytes; bound : l.line + length l.rest ≤ l.first + length l.bytes }

abbrev pub decreases-loop-rest : goal.decreases-loop-rest
decreases-loop-rest l = length l.rest
