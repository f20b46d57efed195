use Rattle.std.proofs.Common.{◌∙◌, ap}
use Rattle.macro_expand.specs.States.{members, hidden_names}
use Rattle.macro_expand.proofs.HideLemmas.{name_more}
use Rattle.macro_expand.proofs.hide_set.set.with_name.Goals as goal

pub returns : goal.returns
returns c =
    c.in_ok-more.ensures ∙ ap members c.in_ok-all.ensures
    ∙ name_more (hidden_names c.args.set.now) c.in_ok-names.names c.args.name.now c.in_ok-names.ensures
