use Rattle.macro_expand.proofs.PlainLemmas.{copied}
use Rattle.macro_expand.proofs.hide_set.hidden_token.hiding_copy.Goals as goal

pub returns : goal.returns
returns c = copied (record { token = c.in_ok-copy.field-0; hides = c.in_ok-same_hides.field-0 }) c.args.token.now _ c.in_ok-copy.ensures c.in_ok-same_hides.ensures
