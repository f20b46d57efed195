use Rattle.std.proofs.Common.{◌≡◌, take}
use Rattle.unit_splitter.proofs.comparison.copy_part.Given as goal

abbrev pub invariant-loop-event : goal.invariant-loop-event
invariant-loop-event l = l.copied.items ≡ take l.event-index l.part
