use Rattle.std.proofs.Common.{◌≡◌, ◌+◌, ◌≤◌, drop}
use Rattle.pp_tokens.specs.Scan.{line_feeds}
use Rattle.pp_tokens.proofs.lexing.line_feeds.Given as goal

abbrev pub invariant-loop-byte : goal.invariant-loop-byte
invariant-loop-byte l = record { so_far : l.count + line_feeds (drop l.byte-index l.bytes) ≡ line_feeds l.bytes; bound : l.count ≤ l.byte-index }
