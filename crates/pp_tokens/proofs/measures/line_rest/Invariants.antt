use Rattle.std.proofs.Common.{◌≡◌, ◌+◌, ◌≤◌, length}
use Rattle.pp_tokens.specs.Cleaning.{bytes_of}
use Rattle.pp_tokens.specs.Cut.{line_rest}
use Rattle.pp_tokens.proofs.measures.line_rest.Given as goal

abbrev pub invariant-loop-byte : goal.invariant-loop-byte
invariant-loop-byte l = record { so_far : l.length + line_rest (bytes_of l.ahead) ≡ line_rest (bytes_of l.chars); bound : l.length + length l.ahead ≤ length l.chars }

abbrev pub decreases-loop-byte : goal.decreases-loop-byte
decreases-loop-byte l = length l.ahead
