use Rattle.std.proofs.Common.{sym, ◌∙◌, subst}
use Rattle.macro_table.specs.declared.fault.DefFault.TheVariants.{NoMemory as RanOut}
use Rattle.mac_base.specs.Answers.{Answers}
use Rattle.macro_table.specs.Definitions.{ParamList, function_like, checked}
use Rattle.macro_table.proofs.ParamLemmas.{behind_list}
use Rattle.macro_table.proofs.parse.def_behind.Goals as goal

pub returns : goal.returns
returns c =
    let checks = subst (λ (list : ParamList). Answers RanOut c.checked-2.result (checked (function_like c.args.name.now list))) c.names.view_is c.checked-2.ensures in
    behind_list c.args.name.now c.args.tokens.now c.in_ok-names.field-0 c.checked-2.result (sym c.has_list.ensures ∙ c.if-not-has_list.false) c.in_ok-names.ensures checks
