use Rattle.std.proofs.Common.{◌≡◌, ◌+◌, ◌≤◌, length}
use Rattle.std.specs.Option.{option_map}
use Rattle.pp_tokens.specs.Cleaning.{bytes_of}
use Rattle.pp_tokens.specs.Scan.{closing}
use Rattle.pp_tokens.proofs.measures.closing.Given as goal

abbrev pub invariant-loop-size : goal.invariant-loop-size
invariant-loop-size l = record { so_far : option_map (λ n. l.length + n) (closing l.quote (bytes_of l.ahead)) ≡ closing l.quote (bytes_of l.chars); bound : l.length + length l.ahead ≤ length l.initial.ahead }

abbrev pub decreases-loop-size : goal.decreases-loop-size
decreases-loop-size l = length l.ahead
