use Rattle.std.proofs.Common.{◌≡◌, drop}
use Rattle.dwmac_run.specs.Words.{no_words, split_words}
use Rattle.dwmac_run.specs.Expecting.{words_after}
use Rattle.dwmac_run.proofs.words.split_words.Given as goal

-- what is read with the words that are left is what is read with all
abbrev pub invariant-loop-word : goal.invariant-loop-word
invariant-loop-word l = words_after l.options l.expected l.read (drop l.word-index l.words) ≡ split_words l.options no_words l.words
