use Rattle.std.proofs.Common.{◌≡◌, ◌++◌, drop}
use Rattle.std.specs.List.{flat_map}
use Rattle.line_names.specs.Written.{file_bytes}
use Rattle.line_names.proofs.writing.push_files.Given as goal

abbrev pub invariant-loop-file : goal.invariant-loop-file
invariant-loop-file l = l.into.items ++ flat_map file_bytes (drop l.file-index l.files) ≡ l.fn.into.items ++ flat_map file_bytes l.files
