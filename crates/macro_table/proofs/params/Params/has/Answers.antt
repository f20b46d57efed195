use Rattle.std.proofs.Common.{ap, ◌∙◌}
use Rattle.std.specs.List.{list_any}
use Rattle.pp_tokens.specs.Kinds.{same}
use Rattle.macro_table.proofs.ParamLemmas.{known_asked}
use Rattle.macro_table.proofs.params.Params.has.Goals as goal

pub returns : goal.returns
returns c =
    c.contains.ensures ∙ known_asked (λ name. name.items) c.self.inside.known.keys c.self.inside.names c.args.name.now c.self.invariant ∙ ap (list_any (same c.args.name.now)) c.self.view_is
