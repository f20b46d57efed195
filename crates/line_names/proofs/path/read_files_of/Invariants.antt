use Rattle.std.proofs.Common.{◌≡◌, ◌-◌, map}
use Rattle.line_names.specs.Entries.{name_of, tables_of}
use Rattle.line_names.specs.Files.{file_at, repeat_at}
use Rattle.line_names.proofs.RepeatLemmas.{with_front}
use Rattle.line_names.proofs.path.read_files_of.Given as goal

abbrev pub invariant-loop-index : goal.invariant-loop-index
invariant-loop-index l = with_front l.paths (repeat_at (file_at (tables_of l.tables) l.sizes (map name_of l.directories) l.format) (l.count - l._index) l.cursor) ≡ repeat_at (file_at (tables_of l.tables) l.sizes (map name_of l.directories) l.format) l.count l.fn.cursor
