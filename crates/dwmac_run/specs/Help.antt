-- What `--help` and `--version` print.
use Rattle.std.specs.Prelude.{ℕ, List, [], ◌∷◌, ◌++◌, codes, Option, Some, None}
use Rattle.std.specs.List.{flat_map}
use Rattle.dwmac_run.specs.declared.commands.Verb.{Verb}
use Rattle.dwmac_run.specs.declared.commands.CommandOption.{CommandOption}
use Rattle.dwmac_run.specs.declared.commands.Often.{Often}
use Rattle.dwmac_run.specs.declared.commands.Often.TheVariants.{Any, AtMostOnce, ExactlyOnce}
use Rattle.dwmac_run.specs.Commands.{Row, OptionForm, row_of, verbs, option_form, operand_help}

-- what an option takes, after a space
abbrev pub argument_help : Option (List ℕ) → List ℕ
argument_help None = []
argument_help (Some name) = codes " " ++ name

-- what precedes an option, and what follows it, by how often it is given: ` [-I DIR]..`, ` [--strx]`, ` -o FILE`
abbrev pub before_option : Often → List ℕ
before_option Any = codes " ["
before_option AtMostOnce = codes " ["
before_option ExactlyOnce = codes " "

-- what follows it
abbrev pub after_option : Often → List ℕ
after_option Any = codes "].."
after_option AtMostOnce = codes "]"
after_option ExactlyOnce = []

-- an option in the line of a command, by its form
abbrev pub form_help : OptionForm → List ℕ
form_help form = before_option form.often ++ (form.word ++ (argument_help form.argument ++ after_option form.often))

-- an option in the line of a command
abbrev pub option_help : CommandOption → List ℕ
option_help option = form_help (option_form option)

-- the line of a command: its verb, its options and its operands
abbrev pub help_line : Row → List ℕ
help_line row = codes "dwmac " ++ (row.word ++ (flat_map option_help row.options ++ (flat_map operand_help row.operands ++ codes "\n")))

-- what the first line begins with
abbrev pub first_margin : List ℕ
first_margin = codes "usage: "

-- what the other lines begin with
abbrev pub other_margin : List ℕ
other_margin = codes "       "

-- the lines of commands, where the first begins with this
abbrev pub help_lines : List ℕ → List Verb → List ℕ
help_lines margin [] = []
help_lines margin (verb ∷ others) = margin ++ (help_line (row_of verb) ++ help_lines other_margin others)

-- how the program is called
abbrev pub help_text : List ℕ
help_text = help_lines first_margin verbs ++ codes "The words of -I, -D, -U and -o stand apart: -D X=1\n"

-- which program it is
abbrev pub version_text : List ℕ
version_text = codes "dwmac 0.1.0\n"
