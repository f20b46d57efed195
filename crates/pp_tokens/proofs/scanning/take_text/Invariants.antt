use Rattle.std.proofs.Common.{◌≡◌, take, drop}
use Rattle.pp_tokens.specs.Cleaning.{bytes_of}
use Rattle.pp_tokens.proofs.scanning.take_text.Given as goal

abbrev pub invariant-loop : goal.invariant-loop
invariant-loop l = record { so_far : l.text ≡ bytes_of (take l.counter l.fn.chars); left : l.chars ≡ drop l.counter l.fn.chars }
