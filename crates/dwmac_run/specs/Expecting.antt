-- How the words of a command are read one after another, by what the next one is. Only private functions cite this.
use Rattle.std.specs.Prelude.{ℕ, List, Option, Some, None}
use Rattle.dwmac_run.specs.declared.words.SplitWords.{SplitWords}
use Rattle.dwmac_run.specs.declared.words.Expected.{Expected}
use Rattle.dwmac_run.specs.declared.words.Expected.TheVariants.{Any, Taken}
use Rattle.dwmac_run.specs.declared.commands.CommandOption.{CommandOption}
use Rattle.dwmac_run.specs.Words.{split_words, split_taken}

-- what is read with these words, of which the first is expected to be this
abbrev pub words_after : List CommandOption → Expected → SplitWords → List (List ℕ) → Option SplitWords
words_after options Any read words = split_words options read words
words_after options (Taken option) read words = split_taken options option read words

-- the same, or that no words fit a command
abbrev pub words_next : List CommandOption → Option Expected → SplitWords → List (List ℕ) → Option SplitWords
words_next options None read words = None
words_next options (Some expected) read words = words_after options expected read words
