-- The words after a verb: what the options of its command take, and its operands.
use Rattle.std.specs.Prelude.{ℕ, Bool, true, false, ◌==◌, ◌&&◌, ◌||◌, not, if◌then◌else◌, List, [], ◌∷◌, ◌++◌, Option, Some, None, is_some}
use Rattle.std.specs.List.{list_any}
use Rattle.pp_unit.specs.declared.request.Command.TheVariants.{Define as DefineWord, Undef as UndefWord}
use Rattle.dwmac_run.specs.declared.words.SplitWords.{SplitWords}
use Rattle.dwmac_run.specs.declared.commands.CommandOption.{CommandOption}
use Rattle.dwmac_run.specs.declared.commands.CommandOption.TheVariants.{Folder, Define, Undef, Strx, Wide, Output}
use Rattle.dwmac_run.specs.declared.words.WordKind.{WordKind}
use Rattle.dwmac_run.specs.declared.words.WordKind.TheVariants.{Operand, Switch, Takes, Repeated}
use Rattle.dwmac_run.specs.Commands.{option_of, option_form, may_repeat}

-- A word that names a file is not empty, has no NUL, and doesn't begin with `-` as options do.
abbrev pub is_file_word : List ℕ → Bool
is_file_word [] = false
is_file_word (b ∷ bytes) = not (b == 45) && not (list_any (λ c. c == 0) (b ∷ bytes))

-- A word that is a name, or that an option takes, is not empty and has no NUL. It may begin with `-`: gcc too takes the word after `-o` whatever it begins with.
abbrev pub is_name_word : List ℕ → Bool
is_name_word [] = false
is_name_word (b ∷ bytes) = not (list_any (λ c. c == 0) (b ∷ bytes))

-- no words
abbrev pub no_words : SplitWords
no_words = record { folders = []; macros = []; operands = []; output = None; strx = false; wide = false }

-- with the word that an option takes: a folder for headers, a word of `-D` or `-U`, or the file that is written
abbrev pub with_word : CommandOption → SplitWords → List ℕ → SplitWords
with_word Folder read word = record read { folders = read.folders ++ word ∷ [] }
with_word Define read word = record read { macros = read.macros ++ DefineWord word ∷ [] }
with_word Undef read word = record read { macros = read.macros ++ UndefWord word ∷ [] }
with_word Output read word = record read { output = Some word }
with_word Strx read word = read
with_word Wide read word = read

-- with an option that takes no word
abbrev pub with_switch : CommandOption → SplitWords → SplitWords
with_switch Strx read = record read { strx = true }
with_switch Wide read = record read { wide = true }
with_switch Folder read = read
with_switch Define read = read
with_switch Undef read = read
with_switch Output read = read

-- with a word that no option takes
abbrev pub with_operand : SplitWords → List ℕ → SplitWords
with_operand read word = record read { operands = read.operands ++ word ∷ [] }

-- Whether an option has set what it sets. `-I`, `-D` and `-U` add to a list and set nothing.
abbrev pub is_set : CommandOption → SplitWords → Bool
is_set Folder read = false
is_set Define read = false
is_set Undef read = false
is_set Strx read = read.strx
is_set Wide read = read.wide
is_set Output read = is_some read.output

-- an option that may be given, by whether it takes the next word
abbrev pub given_kind : CommandOption → Option (List ℕ) → WordKind
given_kind option None = Switch option
given_kind option (Some name) = Takes option

-- an option after these words
abbrev pub option_kind : CommandOption → SplitWords → WordKind
option_kind option read =
    if may_repeat (option_form option).often || not (is_set option read) then given_kind option (option_form option).argument else Repeated

-- a word that no option takes, after these words: an operand, or this option
abbrev pub kind_by : Option CommandOption → SplitWords → WordKind
kind_by None read = Operand
kind_by (Some option) read = option_kind option read

-- what is read where a word is of a kind; an option that is given too often fits no command
abbrev pub by_kind : WordKind → Option SplitWords → (CommandOption → Option SplitWords) → (CommandOption → Option SplitWords) → Option SplitWords
by_kind Operand plain switch taken = plain
by_kind (Switch option) plain switch taken = switch option
by_kind (Takes option) plain switch taken = taken option
by_kind Repeated plain switch taken = None

abbrev mutual
  -- what is read of these words, after others, where a command takes these options in any place
  pub split_words : List CommandOption → SplitWords → List (List ℕ) → Option SplitWords
  split_words options read [] = Some read
  split_words options read (word ∷ words) =
      by_kind (kind_by (option_of options word) read) (split_words options (with_operand read word) words) (λ option. split_words options (with_switch option read) words) (λ option. split_taken options option read words)

  -- after an option that takes the next word
  pub split_taken : List CommandOption → CommandOption → SplitWords → List (List ℕ) → Option SplitWords
  split_taken options option read [] = None
  split_taken options option read (word ∷ words) = if is_name_word word then split_words options (with_word option read word) words else None
