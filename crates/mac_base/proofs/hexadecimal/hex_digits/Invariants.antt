use Rattle.std.proofs.Common.{◌≡◌, ◌≤◌, length, drop, false}
use Rattle.std.specs.Fmt.{digits, digits_onto}
use Rattle.mac_base.proofs.hexadecimal.hex_digits.Given as goal

-- the digits that are left, before those that were written, are all digits
abbrev pub invariant-loop-start : goal.invariant-loop-start
invariant-loop-start l = (l.start ≤ 64) × (length l.room ≡ 64) × (digits_onto l.start 16 false l.rest (drop l.start l.room) ≡ digits 16 false l.number)

abbrev pub decreases-loop-start : goal.decreases-loop-start
decreases-loop-start l = l.start
