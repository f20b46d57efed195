use Rattle.std.proofs.Common.{◌≡◌, ◌+◌, ◌≤◌, length}
use Rattle.pp_tokens.specs.Cleaning.{bytes_of}
use Rattle.pp_tokens.specs.Scan.{word_length}
use Rattle.pp_tokens.proofs.measures.word_length.Given as goal

abbrev pub invariant-loop-byte : goal.invariant-loop-byte
invariant-loop-byte l = record { so_far : l.length + word_length (bytes_of l.ahead) ≡ word_length (bytes_of l.chars); bound : l.length + length l.ahead ≤ length l.chars }

abbrev pub decreases-loop-byte : goal.decreases-loop-byte
decreases-loop-byte l = length l.ahead
