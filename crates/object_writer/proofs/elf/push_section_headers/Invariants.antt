use Rattle.std.proofs.Common.{◌≡◌, ◌+◌, ◌*◌, ◌≤◌, ◌++◌, map, drop}
use Rattle.object_writer.specs.Elf.{name_of, headers_from, section_limit}
use Rattle.object_writer.proofs.elf.push_section_headers.Given as goal

abbrev pub invariant-loop-section : goal.invariant-loop-section
invariant-loop-section l = record {
  headers : l.into.items ++ headers_from (map name_of l.names) l.at (drop l.section-index l.sections) ≡ l.fn.into.items ++ headers_from (map name_of l.names) 64 l.sections;
  bound : l.at ≤ 64 + l.section-index * section_limit;
}
