use Rattle.std.proofs.Common.{length}
use Rattle.pp_tokens.specs.Cleaning.{bytes_of}
use Rattle.pp_tokens.specs.Scan.{IsKnown}
use Rattle.pp_tokens.proofs.ScanLemmas.{Continues}
use Rattle.pp_tokens.proofs.scanning.scan.Given as goal

abbrev pub invariant-pieces : goal.invariant-pieces
invariant-pieces l = record { so_far : Continues l.lines l.fn.builder l.fn.chars l.builder l.chars; known : IsKnown l.quotes.single l.quotes.double (bytes_of l.chars) }

abbrev pub decreases-pieces : goal.decreases-pieces
decreases-pieces l = length l.chars
