use Rattle.std.proofs.Common.{sym, subst}
use Rattle.unit_splitter.specs.declared.pieces.Split.{Split}
use Rattle.unit_splitter.specs.Split.{split_of}
use Rattle.object_writer.specs.Object.{IsWritable}
use Rattle.object_writer.proofs.tests.object_of.Goals as goal

pub write_object-requires : goal.write_object-requires
write_object-requires c =
    let made = c.splits_are_exact.ensures.well_made c.args.events.list in
    let fit : IsWritable (split_of c.args.events.list) = record { few = made.few; imports = made.imports } in
    subst (λ (s : Split). IsWritable s) (sym c.in_ok-made.ensures) fit

pub written_object-requires : goal.written_object-requires
written_object-requires c =
    let made = c.splits_are_exact.ensures.well_made c.args.events.list in
    let fit : IsWritable (split_of c.args.events.list) = record { few = made.few; imports = made.imports } in
    subst (λ (s : Split). IsWritable s) (sym c.in_ok-made.ensures) fit
