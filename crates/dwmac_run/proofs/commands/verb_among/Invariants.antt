use Rattle.std.proofs.Common.{◌≡◌, drop}
use Rattle.dwmac_run.specs.Commands.{verb_among}
use Rattle.dwmac_run.proofs.commands.verb_among.Given as goal

-- the word is the verb of none so far
abbrev pub invariant-loop-verb : goal.invariant-loop-verb
invariant-loop-verb l = verb_among (drop l.verb-index l.verbs) l.word ≡ verb_among l.verbs l.word
