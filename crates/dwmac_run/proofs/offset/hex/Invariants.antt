use Rattle.std.proofs.Common.{◌≡◌, ◌<◌, ◌^◌, drop}
use Rattle.dwmac_run.specs.Offsets.{hex_after}
use Rattle.dwmac_run.proofs.offset.hex.Given as goal

abbrev pub invariant-loop-byte : goal.invariant-loop-byte
invariant-loop-byte l = record { so_far : hex_after l.number (drop l.byte-index l.digits) ≡ hex_after 0 l.digits; small : l.number < 16 ^ l.byte-index }
