use Rattle.std.proofs.Common.{◌++◌, ◌∷◌, [], ap, sym, ◌∙◌}
use Rattle.macro_table.proofs.ParamLemmas.{params_step}
use Rattle.macro_table.proofs.list.params_from.Goals as goal

pub loop-left-preserved : goal.loop-left-preserved
loop-left-preserved c =
    let grown = c.in_ok-names.ensures ∙ ap (λ n. c.loop-left.names ++ n ∷ []) c.as_slice.ensures in
    params_step c.loop-left.names c.in_ok-names.names c.first-item.result c.second-item.result c.loop-left.left.now c.in-len2-up.len_at_least c.first-item.is c.second-item.is
    (sym c.is_spelled.ensures ∙ c.if-is_spelled.false) (sym c.param_fault.ensures ∙ c.in_default-param_fault.is) (sym c.is_spelled-in-len2-up.ensures ∙ c.if-not-is_spelled.false) grown ∙ c.loop-left.invariant
