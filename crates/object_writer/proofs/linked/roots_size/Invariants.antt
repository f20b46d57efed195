use Rattle.std.proofs.Common.{◌≡◌, ◌+◌, ◌≤◌, min, length, drop}
use Rattle.info_roots.specs.Written.{info_bytes}
use Rattle.object_writer.specs.Elf.{section_limit}
use Rattle.object_writer.proofs.linked.roots_size.Given as goal

abbrev pub invariant-loop-root : goal.invariant-loop-root
invariant-loop-root l = record {
  size : min (l.size + length (info_bytes (drop l.root-index l.roots))) (section_limit + 1) ≡ min (length (info_bytes l.roots)) (section_limit + 1);
  bound : l.size ≤ section_limit + 1;
}
