use Rattle.std.proofs.Common.{◌≡◌, ◌++◌, drop}
use Rattle.object_writer.specs.Elf.{contents_of}
use Rattle.object_writer.proofs.elf.push_contents.Given as goal

abbrev pub invariant-loop-section : goal.invariant-loop-section
invariant-loop-section l = l.into.items ++ contents_of (drop l.section-index l.sections) ≡ l.fn.into.items ++ contents_of l.sections
