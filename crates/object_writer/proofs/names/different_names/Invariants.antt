use Rattle.std.proofs.Common.{◌≡◌, ◌≤◌, length, map, take}
use Rattle.string_sections.specs.Pool.{pool_of}
use Rattle.object_writer.specs.Elf.{name_of}
use Rattle.object_writer.proofs.names.different_names.Given as goal

abbrev pub invariant-loop-section : goal.invariant-loop-section
invariant-loop-section l = record {
  names : map name_of l.names.items ≡ pool_of (map (λ s. name_of s.name) (take l.section-index l.sections));
  few : length l.names.items ≤ l.section-index;
}
