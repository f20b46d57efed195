use Rattle.std.proofs.Common.{◌≡◌, ◌-◌, length}
use Rattle.info_roots.specs.Abbreviations.{declared_in, abbreviation_in}
use Rattle.info_roots.proofs.abbreviation.find_abbreviation.Given as goal

abbrev pub invariant-loop-index : goal.invariant-loop-index
invariant-loop-index l = declared_in (length l.section) (length l.section - l._index) l.code l.cursor ≡ abbreviation_in l.section l.offset l.code
