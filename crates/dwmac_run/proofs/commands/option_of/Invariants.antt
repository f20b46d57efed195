use Rattle.std.proofs.Common.{◌≡◌, drop}
use Rattle.dwmac_run.specs.Commands.{option_of}
use Rattle.dwmac_run.proofs.commands.option_of.Given as goal

-- the word is none of the options so far
abbrev pub invariant-loop-option : goal.invariant-loop-option
invariant-loop-option l = option_of (drop l.option-index l.options) l.word ≡ option_of l.options l.word
