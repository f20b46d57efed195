use Rattle.std.proofs.Common.{◌≡◌, ◌++◌, take}
use Rattle.std.specs.List.{flat_map}
use Rattle.dwmac_run.specs.Help.{option_help}
use Rattle.dwmac_run.proofs.help.push_options.Given as goal

abbrev pub invariant-loop-option : goal.invariant-loop-option
invariant-loop-option l = l.text.items ≡ l.fn.text.items ++ flat_map option_help (take l.option-index l.options)
