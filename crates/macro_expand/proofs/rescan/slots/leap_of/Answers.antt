use Rattle.std.proofs.Common.{◌∙◌, sym}
use Rattle.macro_expand.proofs.LeapLemmas.{opening_right}
use Rattle.macro_expand.proofs.rescan.slots.leap_of.Goals as goal

pub returns-then-is_opening : goal.returns-then-is_opening
returns-then-is_opening c = opening_right c.args.hidden.now c.closing.result c.delimiter.result _ c.delimiter.ensures (sym c.is_opening.ensures ∙ c.if-is_opening.true) c.closing.ensures
