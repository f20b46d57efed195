use Rattle.std.proofs.Common.{◌≡◌, ◌++◌, map, drop}
use Rattle.string_sections.specs.Pool.{pool_bytes}
use Rattle.object_writer.specs.Elf.{name_of, name_table}
use Rattle.object_writer.proofs.names.table_of.Given as goal

abbrev pub invariant-loop-name : goal.invariant-loop-name
invariant-loop-name l = l.table.items ++ pool_bytes (map name_of (drop l.name-index l.names)) ≡ name_table (map name_of l.names)
