use Rattle.std.proofs.Common.{◌≡◌, ◌++◌, take, map}
use Rattle.unit_splitter.specs.declared.root.RootEntry.TheVariants.{Own}
use Rattle.unit_splitter.proofs.splitting.push_events.Given as goal

abbrev pub invariant-loop-event : goal.invariant-loop-event
invariant-loop-event l = l.root ≡ l.initial.root ++ map (λ event. Own event) (take l.event-index l.part)
