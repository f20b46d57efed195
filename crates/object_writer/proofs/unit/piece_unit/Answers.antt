use Rattle.std.proofs.Common.{None, map}
use Rattle.object_writer.specs.Strings.{note_all}
use Rattle.object_writer.specs.Units.{event_item}
use Rattle.object_writer.proofs.UnitLemmas.{ended}
use Rattle.object_writer.proofs.unit.piece_unit.Goals as goal

pub returns-clause-unit : goal.returns-clause-unit
returns-clause-unit c = λ later.
    let items = map (event_item c.args.symbol (note_all c.push_events.new.strings later)) c.args.events.now in
    let both = ended c.args.wide None c.in_ok-unit.unit c.push_events.new.self items c.end.new.self.contents.items c.end.new.self.relocations.items c.in_ok-unit.ensures (c.in_ok-push_events.ensures.items later) c.in_ok-end.ensures.contents c.in_ok-end.ensures.relocations in
    record { contents = both.0; relocations = both.1 }
