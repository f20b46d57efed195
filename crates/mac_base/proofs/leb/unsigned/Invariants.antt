use Rattle.std.proofs.Common.{◌≡◌, ◌<◌, ◌^◌, drop}
use Rattle.mac_base.specs.Fields.{unsigned_leb}
use Rattle.mac_base.proofs.leb.unsigned.Given as goal

abbrev pub invariant-loop-i : goal.invariant-loop-i
invariant-loop-i l = record { so_far : l.number ≡ unsigned_leb (drop l.i l.digits); fits : l.number < 2 ^ 64 }
