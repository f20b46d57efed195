use Rattle.std.proofs.Common.{◌≡◌, [], ◌-◌}
use Rattle.line_names.specs.Format.{contents_at}
use Rattle.line_names.proofs.format.read_contents.Given as goal

abbrev pub invariant-loop-index : goal.invariant-loop-index
invariant-loop-index l = contents_at (l.count - l._index) l.contents.items l.cursor ≡ contents_at l.fn.count [] l.fn.cursor
