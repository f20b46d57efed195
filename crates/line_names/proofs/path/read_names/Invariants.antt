use Rattle.std.proofs.Common.{◌≡◌, ◌-◌, map}
use Rattle.line_names.specs.Entries.{name_of, tables_of}
use Rattle.line_names.specs.Files.{directory_at, repeat_at}
use Rattle.line_names.proofs.RepeatLemmas.{with_front}
use Rattle.line_names.proofs.path.read_names.Given as goal

abbrev pub invariant-loop-index : goal.invariant-loop-index
invariant-loop-index l = with_front (map name_of l.names.items) (repeat_at (directory_at (tables_of l.tables) l.measures l.format) (l.count - l._index) l.cursor) ≡ repeat_at (directory_at (tables_of l.tables) l.measures l.format) l.count l.fn.cursor
