use Rattle.std.proofs.Common.{◌≡◌, drop}
use Rattle.info_roots.specs.Entries.{entry_of, entry_at, no_entry}
use Rattle.info_roots.proofs.entry.read_entry.Given as goal

abbrev pub invariant-loop-attribute : goal.invariant-loop-attribute
invariant-loop-attribute l = entry_at l.sizes (drop l.attribute-index l.attributes) (entry_of l.entry) l.cursor ≡ entry_at l.sizes l.attributes no_entry l.fn.cursor
