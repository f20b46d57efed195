use Rattle.std.proofs.Common.{◌≡◌, ◌++◌, drop}
use Rattle.dwmac_run.specs.Help.{help_lines, first_margin}
use Rattle.dwmac_run.proofs.help.push_lines.Given as goal

-- the lines so far, with those that are left, are all lines
abbrev pub invariant-loop-verb : goal.invariant-loop-verb
invariant-loop-verb l = l.text.items ++ help_lines l.margin (drop l.verb-index l.verbs) ≡ l.fn.text.items ++ help_lines first_margin l.verbs
