use Rattle.std.proofs.Common.{◌≡◌, ◌+◌, ◌*◌, ◌≤◌, length, drop}
use Rattle.object_writer.specs.Elf.{contents_of, section_limit}
use Rattle.object_writer.proofs.elf.contents_size.Given as goal

abbrev pub invariant-loop-section : goal.invariant-loop-section
invariant-loop-section l = record {
  size : l.size + length (contents_of (drop l.section-index l.sections)) ≡ length (contents_of l.sections);
  bound : l.size ≤ l.section-index * section_limit;
}
