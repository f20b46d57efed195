use Rattle.std.proofs.Common.{refl}
use Rattle.object_writer.specs.Strings.{own_texts}
use Rattle.object_writer.specs.Units.{root_item}
use Rattle.object_writer.specs.declared.fault.WriteFault.TheVariants.{TooLarge}
use Rattle.object_writer.proofs.FaultLemmas.{handed}
use Rattle.object_writer.proofs.StringLemmas.{root_stays}
use Rattle.object_writer.proofs.UnitLemmas.{appends_none, items_more, items_end, noted_more, noted_end, large_more}
use Rattle.object_writer.proofs.unit.Relocated.push_root_entries.Goals as goal

pub loop-entry-init : goal.loop-entry-init
loop-entry-init c = record { noted = refl; items = λ later. appends_none c.args.wide c.args.self.now }

pub loop-entry-preserved : goal.loop-entry-preserved
loop-entry-preserved c =
    let item = root_item c.args.layout in
    let stays = root_stays c.args.layout in
    record {
      noted = noted_more own_texts c.args.strings.now c.loop-entry.strings c.push_root_entry.new.strings c.args.entries.now c.loop-entry.entry-index c.entry-item.result c.loop-entry-test.true c.entry-item.is c.loop-entry.invariant.noted c.in_ok-push_root_entry.ensures.noted;
      items = items_more own_texts item stays c.args.wide c.args.self.now c.loop-entry.self c.push_root_entry.new.self c.loop-entry.strings c.push_root_entry.new.strings c.args.entries.now c.loop-entry.entry-index c.entry-item.result c.loop-entry-test.true c.entry-item.is c.in_ok-push_root_entry.ensures.noted c.in_ok-push_root_entry.ensures.item c.loop-entry.invariant.items;
    }

pub returns-in_err-push_root_entry-clause-large : goal.returns-in_err-push_root_entry-clause-large
returns-in_err-push_root_entry-clause-large c = λ is. large_more own_texts c.args.strings.now c.loop-entry.strings c.args.entries.now c.loop-entry.entry-index c.entry-item.result c.loop-entry-test.true c.entry-item.is c.loop-entry.invariant.noted (c.in_err-push_root_entry.ensures.large (handed c.from_residual.result c.in_err-push_root_entry.field-0.0 TooLarge c.from_residual.ensures.1 is))

pub returns-clause-noted : goal.returns-clause-noted
returns-clause-noted c = noted_end own_texts c.args.strings.now c.loop-entry.strings c.args.entries.now c.loop-entry.entry-index c.loop-entry-test.false c.loop-entry.invariant.noted

pub returns-clause-items : goal.returns-clause-items
returns-clause-items c = items_end own_texts (root_item c.args.layout) (root_stays c.args.layout) c.args.wide c.args.self.now c.loop-entry.self c.loop-entry.strings c.args.entries.now c.loop-entry.entry-index c.loop-entry-test.false c.loop-entry.invariant.items
