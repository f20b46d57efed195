use Rattle.std.proofs.Common.{◌≡◌, ◌<◌, ◌++◌, length, reverse}
use Rattle.position_table.specs.Files.{frames_of}
use Rattle.position_table.proofs.files.Files.frames.Given as goal

abbrev pub invariant-loop-at : goal.invariant-loop-at
invariant-loop-at l = record {
  within : l.at.index < length l.self;
  parts : frames_of l.self l.at ++ reverse l.frames.items ≡ frames_of l.self l.fn.id;
}

abbrev pub decreases-loop-at : goal.decreases-loop-at
decreases-loop-at l = l.at.index
