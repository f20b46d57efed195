use Rattle.std.proofs.Common.{◌≡◌, ◌+◌, ◌≤◌, length}
use Rattle.pp_tokens.specs.Cleaning.{bytes_of}
use Rattle.pp_tokens.specs.Scan.{number_rest}
use Rattle.pp_tokens.proofs.measures.number_rest.Given as goal

abbrev pub invariant-loop-byte : goal.invariant-loop-byte
invariant-loop-byte l = record { so_far : l.length + number_rest l.before (bytes_of l.ahead) ≡ number_rest l.first (bytes_of l.chars); bound : l.length + length l.ahead ≤ length l.initial.ahead }

abbrev pub decreases-loop-byte : goal.decreases-loop-byte
decreases-loop-byte l = length l.ahead
