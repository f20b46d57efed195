use Rattle.std.proofs.Common.{◌≡◌, ◌-◌, length}
use Rattle.mac_base.specs.SectionBytes.{bytes_of}
use Rattle.info_roots.specs.Roots.{roots_from, roots_in}
use Rattle.info_roots.proofs.roots.read_roots.Given as goal

abbrev pub invariant-loop-index : goal.invariant-loop-index
invariant-loop-index l = record {
  so_far : roots_from (bytes_of l.s) (length l.s.info.now - l._index) l.at l.roots.items ≡ roots_in (bytes_of l.s);
  section : l.abbreviations.section ≡ l.s.abbrevs.now;
}
