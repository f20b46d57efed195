use Rattle.std.proofs.Common.{◌≡◌, [], ◌-◌}
use Rattle.info_roots.specs.Abbreviations.{attributes_at}
use Rattle.info_roots.proofs.abbreviation.read_attributes.Given as goal

abbrev pub invariant-loop-index : goal.invariant-loop-index
invariant-loop-index l = attributes_at (l.most - l._index) l.attributes.items l.cursor ≡ attributes_at l.most [] l.fn.cursor
