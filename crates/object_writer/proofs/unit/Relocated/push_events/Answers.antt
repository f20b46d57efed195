use Rattle.std.proofs.Common.{refl}
use Rattle.object_writer.specs.Strings.{texts_in}
use Rattle.object_writer.specs.Units.{event_item}
use Rattle.object_writer.specs.declared.fault.WriteFault.TheVariants.{TooLarge}
use Rattle.object_writer.proofs.FaultLemmas.{handed}
use Rattle.object_writer.proofs.StringLemmas.{event_stays}
use Rattle.object_writer.proofs.UnitLemmas.{appends_none, items_more, items_end, noted_more, noted_end, large_more}
use Rattle.object_writer.proofs.unit.Relocated.push_events.Goals as goal

pub loop-event-init : goal.loop-event-init
loop-event-init c = record { noted = refl; items = λ later. appends_none c.args.wide c.args.self.now }

pub loop-event-preserved : goal.loop-event-preserved
loop-event-preserved c =
    let item = event_item c.args.symbol in
    let stays = event_stays c.args.symbol in
    record {
      noted = noted_more texts_in c.args.strings.now c.loop-event.strings c.push_event.new.strings c.args.events.now c.loop-event.event-index c.event-item.result c.loop-event-test.true c.event-item.is c.loop-event.invariant.noted c.in_ok-push_event.ensures.noted;
      items = items_more texts_in item stays c.args.wide c.args.self.now c.loop-event.self c.push_event.new.self c.loop-event.strings c.push_event.new.strings c.args.events.now c.loop-event.event-index c.event-item.result c.loop-event-test.true c.event-item.is c.in_ok-push_event.ensures.noted c.in_ok-push_event.ensures.item c.loop-event.invariant.items;
    }

pub returns-in_err-push_event-clause-large : goal.returns-in_err-push_event-clause-large
returns-in_err-push_event-clause-large c = λ is. large_more texts_in c.args.strings.now c.loop-event.strings c.args.events.now c.loop-event.event-index c.event-item.result c.loop-event-test.true c.event-item.is c.loop-event.invariant.noted (c.in_err-push_event.ensures.large (handed c.from_residual.result c.in_err-push_event.field-0.0 TooLarge c.from_residual.ensures.1 is))

pub returns-clause-noted : goal.returns-clause-noted
returns-clause-noted c = noted_end texts_in c.args.strings.now c.loop-event.strings c.args.events.now c.loop-event.event-index c.loop-event-test.false c.loop-event.invariant.noted

pub returns-clause-items : goal.returns-clause-items
returns-clause-items c = items_end texts_in (event_item c.args.symbol) (event_stays c.args.symbol) c.args.wide c.args.self.now c.loop-event.self c.loop-event.strings c.args.events.now c.loop-event.event-index c.loop-event-test.false c.loop-event.invariant.items
