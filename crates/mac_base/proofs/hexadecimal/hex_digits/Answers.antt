use Rattle.std.proofs.Common.{false, ap, ◌∙◌, arith}
use Rattle.std.specs.Fmt.{digits_onto}
use Rattle.std.proofs.lemmas.List.{drop_all}
use Rattle.mac_base.proofs.ReportLemmas.{digits-onto}
use Rattle.mac_base.proofs.hexadecimal.hex_digits.Goals as goal

pub loop-start-init : goal.loop-start-init
loop-start-init c = (
  omega arith,
  c.told-room,
  ap (digits_onto 64 16 false c.args.number) (drop_all 64 c.args.room.now (omega (arith, c.told-room))) ∙ digits-onto c.args.number,
)
