use Rattle.std.proofs.Common.{◌≡◌, ◌+◌, ◌*◌, ◌≤◌, map, drop}
use Rattle.string_sections.specs.Pool.{offset_in}
use Rattle.object_writer.specs.Elf.{name_of}
use Rattle.object_writer.proofs.names.offset_of.Given as goal

abbrev pub invariant-loop-other : goal.invariant-loop-other
invariant-loop-other l = record {
  offset : l.at + offset_in (map name_of (drop l.other-index l.names)) (name_of l.name) ≡ offset_in (map name_of l.names) (name_of l.name);
  bound : l.at ≤ l.other-index * 24;
}
