use Rattle.std.proofs.Common.{◌≡◌, ◌+◌, ◌*◌, ◌≤◌, ◌++◌, drop}
use Rattle.string_sections.specs.Contributions.{header_size}
use Rattle.object_writer.specs.Layouts.{str_number}
use Rattle.object_writer.specs.Relocations.{table_of}
use Rattle.object_writer.specs.Object.{offset_relocations}
use Rattle.object_writer.proofs.tables.relocations_of.Given as goal

abbrev pub invariant-loop-offset : goal.invariant-loop-offset
invariant-loop-offset l = record {
  symbol : l.symbol ≡ str_number l.fn.layout;
  place : l.place ≤ 16 + l.offset-index * 8;
  relocations : l.relocations.items ++ table_of l.wide (offset_relocations l.fn.layout l.wide l.place (drop l.offset-index l.offsets)) ≡ table_of l.wide (offset_relocations l.fn.layout l.wide (header_size l.wide) l.offsets);
}
