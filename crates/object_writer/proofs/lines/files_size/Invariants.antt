use Rattle.std.proofs.Common.{◌≡◌, ◌+◌, ◌≤◌, min, length, drop}
use Rattle.std.specs.List.{flat_map}
use Rattle.line_names.specs.Written.{file_bytes}
use Rattle.object_writer.specs.Elf.{section_limit}
use Rattle.object_writer.proofs.lines.files_size.Given as goal

abbrev pub invariant-loop-file : goal.invariant-loop-file
invariant-loop-file l = record {
  size : min (l.size + length (flat_map file_bytes (drop l.file-index l.files))) (section_limit + 1) ≡ min (length (flat_map file_bytes l.files)) (section_limit + 1);
  bound : l.size ≤ section_limit + 1;
}
