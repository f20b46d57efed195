use Rattle.std.proofs.Common.{◌≡◌, ◌<◌, drop, length}
use Rattle.mac_base.specs.Fields.{signed_leb}
use Rattle.mac_base.proofs.leb.signed.Given as goal

abbrev pub invariant-loop-i : goal.invariant-loop-i
invariant-loop-i l = record { so_far : l.number ≡ signed_leb (drop l.i l.digits); within : l.i < length l.digits }
