use Rattle.std.proofs.Common.{refl, sym, append-nil, arith}
use Rattle.object_writer.specs.declared.fault.WriteFault.TheVariants.{TooLarge}
use Rattle.object_writer.specs.Strings.{texts_of}
use Rattle.object_writer.proofs.FaultLemmas.{handed}
use Rattle.object_writer.proofs.UnitLemmas.{noted_more, noted_end, large_more}
use Rattle.object_writer.proofs.ObjectLemmas.{pieces_more, pieces_end}
use Rattle.object_writer.proofs.object.push_pieces.Goals as goal

pub loop-piece-init : goal.loop-piece-init
loop-piece-init c = record { index = refl; noted = refl; sections = λ later. sym (append-nil c.args.sections.now.items) }

pub loop-piece-preserved : goal.loop-piece-preserved
loop-piece-preserved c = record {
  index = omega arith;
  noted = noted_more texts_of c.args.strings.now c.loop-piece.strings c.push_piece.new.strings c.args.pieces.now c.loop-piece.piece-index c.piece-item.result c.loop-piece-test.true c.piece-item.is c.loop-piece.invariant.noted c.in_ok-push_piece.ensures.noted;
  sections = pieces_more c.args.layout c.args.wide c.args.sections.now.items c.loop-piece.sections.items c.push_piece.new.sections.items c.loop-piece.strings c.push_piece.new.strings c.args.pieces.now c.loop-piece.piece-index c.loop-piece.k c.piece-item.result c.loop-piece-test.true c.piece-item.is c.loop-piece.invariant.index c.in_ok-push_piece.ensures.noted c.in_ok-push_piece.ensures.sections c.loop-piece.invariant.sections;
}

pub returns-in_err-push_piece-clause-large : goal.returns-in_err-push_piece-clause-large
returns-in_err-push_piece-clause-large c = λ is. large_more texts_of c.args.strings.now c.loop-piece.strings c.args.pieces.now c.loop-piece.piece-index c.piece-item.result c.loop-piece-test.true c.piece-item.is c.loop-piece.invariant.noted (c.in_err-push_piece.ensures.large (handed c.from_residual.result c.in_err-push_piece.field-0.0 TooLarge c.from_residual.ensures.1 is))

pub returns-clause-noted : goal.returns-clause-noted
returns-clause-noted c = noted_end texts_of c.args.strings.now c.loop-piece.strings c.args.pieces.now c.loop-piece.piece-index c.loop-piece-test.false c.loop-piece.invariant.noted

pub returns-clause-sections : goal.returns-clause-sections
returns-clause-sections c = pieces_end c.args.layout c.args.wide c.args.sections.now.items c.loop-piece.sections.items c.loop-piece.strings c.args.pieces.now c.loop-piece.piece-index c.loop-piece-test.false c.loop-piece.invariant.sections
