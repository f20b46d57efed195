use Rattle.std.proofs.Common.{◌≡◌, ◌+◌, drop}
use Rattle.pp_tokens.specs.Scan.{word_length}
use Rattle.pp_tokens.proofs.measures.words_in.Given as goal

abbrev pub invariant-loop-byte : goal.invariant-loop-byte
invariant-loop-byte l = record { so_far : l.length + word_length (drop l.byte-index l.bytes) ≡ word_length l.bytes; at : l.length ≡ l.byte-index }
