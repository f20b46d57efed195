use Rattle.std.proofs.Common.{◌≡◌, ◌^◌, ◌<◌, drop}
use Rattle.std.specs.List.{list_all}
use Rattle.mac_base.specs.Digits.{is_digit_of, spelled_after, spelled_in}
use Rattle.mac_base.proofs.digits.number_of.Given as goal

abbrev pub invariant-loop-digit : goal.invariant-loop-digit
invariant-loop-digit l = record {
  are : list_all (is_digit_of l.base) (drop l.digit-index l.digits) ≡ list_all (is_digit_of l.base) l.digits;
  spelled : spelled_after l.base l.number (drop l.digit-index l.digits) ≡ spelled_in l.base l.digits;
  fits : l.number < 2 ^ 64;
}
