use Rattle.std.proofs.Common.{◌≡◌, drop}
use Rattle.line_names.specs.Entries.{entry_of, tables_of, entry_at, no_entry}
use Rattle.line_names.proofs.entry.read_entry.Given as goal

abbrev pub invariant-loop-content : goal.invariant-loop-content
invariant-loop-content l = entry_at (tables_of l.tables) l.measures (drop l.content-index l.format) (entry_of l.entry) l.cursor ≡ entry_at (tables_of l.tables) l.measures l.format no_entry l.fn.cursor
