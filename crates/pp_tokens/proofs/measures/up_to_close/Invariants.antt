use Rattle.std.proofs.Common.{◌≡◌, ◌+◌, ◌≤◌, length}
use Rattle.std.specs.Option.{option_map}
use Rattle.pp_tokens.specs.Cleaning.{bytes_of}
use Rattle.pp_tokens.specs.Cut.{up_to_close}
use Rattle.pp_tokens.proofs.measures.up_to_close.Given as goal

abbrev pub invariant-loop-byte : goal.invariant-loop-byte
invariant-loop-byte l = record { so_far : option_map (λ n. l.length + n) (up_to_close (bytes_of l.ahead)) ≡ up_to_close (bytes_of l.chars); bound : l.length + length l.ahead ≤ length l.initial.ahead }

abbrev pub decreases-loop-byte : goal.decreases-loop-byte
decreases-loop-byte l = length l.ahead
