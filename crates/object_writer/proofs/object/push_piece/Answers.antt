use Rattle.object_writer.specs.Strings.{note_all}
use Rattle.object_writer.proofs.ObjectLemmas.{piece_whole}
use Rattle.object_writer.proofs.object.push_piece.Goals as goal

pub returns-clause-sections : goal.returns-clause-sections
returns-clause-sections c = λ later.
    piece_whole c.args.layout c.args.wide (note_all c.piece_unit.new.strings later) c.args.k c.args.piece.now c.as_slice.result.now c.args.sections.now.items c.push.new.self.items c.push_unit.new.sections.items c.in_ok-group.field-0 c.in_ok-unit.unit c.strs.result c.piece_macro.result
    c.in_ok-group.ensures c.in_ok-push.ensures.items c.piece_macro.ensures c.strs.ensures c.as_slice.ensures c.in_ok-push_unit.ensures (c.in_ok-unit.ensures.unit later)
