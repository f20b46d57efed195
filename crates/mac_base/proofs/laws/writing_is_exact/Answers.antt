use Rattle.mac_base.specs.Writing.{uleb_bytes, fixed_bytes}
use Rattle.mac_base.proofs.InputLemmas.{uleb_at-again, number_at-again}
use Rattle.mac_base.proofs.WritingLemmas.{uleb_spelled, uleb_shortest, fixed_spelled, length_narrow, length_wide, string_spelled}
use Rattle.mac_base.proofs.laws.writing_is_exact.Goals as goal

pub returns : goal.returns
returns c = record {
  uleb = uleb_spelled;
  shortest = uleb_shortest;
  fixed = fixed_spelled;
  uleb_again = λ p q n small between. uleb_at-again p q (uleb_bytes n) n between (uleb_spelled n small) small;
  fixed_again = λ p q width n small between. number_at-again width p q (fixed_bytes width n) n between (fixed_spelled width n small);
  length_narrow = length_narrow;
  length_wide = length_wide;
  string = string_spelled;
}
