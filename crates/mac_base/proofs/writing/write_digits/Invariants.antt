use Rattle.std.proofs.Common.{◌≡◌, ◌≤◌, ◌<◌, ◌-◌, ◌^◌, ◌++◌, length, take}
use Rattle.mac_base.specs.Writing.{seven_bit_digits, uleb_bytes}
use Rattle.mac_base.proofs.writing.write_digits.Given as goal

-- the digits that are written and those of what is left are all digits
abbrev pub invariant-loop-rest : goal.invariant-loop-rest
invariant-loop-rest l = record {
  within : l.end ≤ 9;
  room : length l.room ≡ 10;
  fits : l.rest < 128 ^ (10 - l.end);
  so_far : take l.end l.room ++ seven_bit_digits (10 - l.end) l.rest ≡ uleb_bytes l.v;
}

abbrev pub decreases-loop-rest : goal.decreases-loop-rest
decreases-loop-rest l = l.rest
