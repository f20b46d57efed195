use Rattle.std.proofs.Common.{◌%◌, ◌+◌, ◌∙◌, length-set, refl, arith}
use Rattle.mac_base.specs.Writing.{uleb_bytes}
use Rattle.mac_base.proofs.WritingLemmas.{uleb_bytes-digits, digits_left, digit_written, digit_written_last}
use Rattle.mac_base.proofs.writing.write_digits.Goals as goal

pub loop-rest-init : goal.loop-rest-init
loop-rest-init c = record { within = omega arith; room = c.told-room; fits = omega arith; so_far = uleb_bytes-digits c.args.v }

pub loop-rest-preserved : goal.loop-rest-preserved
loop-rest-preserved c =
    let l = c.loop-rest in
    let left = digits_left l.end l.rest l.invariant.within (omega arith) l.invariant.fits in
    record {
      within = left.0;
      room = length-set l.room l.end (128 + l.rest % 128) ∙ l.invariant.room;
      fits = left.1;
      so_far = digit_written l.room (uleb_bytes c.args.v) l.end l.rest (128 + l.rest % 128) l.invariant.within (omega (arith, l.invariant.room)) (omega arith) refl l.invariant.so_far;
    }

pub returns-clause-digits : goal.returns-clause-digits
returns-clause-digits c =
    let l = c.loop-rest in
    digit_written_last l.room (uleb_bytes c.args.v) l.end l.rest l.rest l.invariant.within (omega (arith, l.invariant.room)) (omega arith) refl l.invariant.so_far
