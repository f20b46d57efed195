use Rattle.std.proofs.Common.{ap, sym, ◌∙◌}
use Rattle.macro_table.specs.Definitions.{is_paste, last_passes}
use Rattle.macro_table.proofs.ParamLemmas.{last_push}
use Rattle.macro_table.proofs.body.is_paste_last.Goals as goal

pub returns-in-Some : goal.returns-in-Some
returns-in-Some c = c.is_paste.ensures ∙ sym (ap (last_passes is_paste) c.in-Some.ensures.cases.0 ∙ last_push is_paste c.in-Some.field-0-1.now c.in-Some.last.now)
