use Rattle.std.proofs.Common.{◌≡◌, ◌≤◌, ◌+◌, ◌++◌, [], length}
use Rattle.unit_splitter.specs.Split.{parts_of, parts_from}
use Rattle.unit_splitter.specs.Growing.{pieces_after, entries_after}
use Rattle.unit_splitter.proofs.splitting.split.Given as goal

abbrev pub invariant-loop-event : goal.invariant-loop-event
invariant-loop-event l =
    (pieces_after l.known (parts_from l.depth l.rest) ≡ pieces_after [] (parts_of l.fn.events.list))
    × (l.root ++ entries_after l.known (parts_from l.depth l.rest) ≡ entries_after [] (parts_of l.fn.events.list))
    × (l.depth + length l.rest ≤ length l.fn.events.list)

abbrev pub decreases-loop-event : goal.decreases-loop-event
decreases-loop-event l = length l.rest
