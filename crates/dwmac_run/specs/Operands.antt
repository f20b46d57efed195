-- The operands of a command, by the words that they are.
use Rattle.std.specs.Prelude.{ℕ, if◌then◌else◌, List, [], ◌∷◌, Option, Some, None}
use Rattle.position_table.specs.declared.position.Position.{Position as Place}
use Rattle.position_table.specs.declared.position.Position.TheVariants.{Chain, Named}
use Rattle.position_table.specs.Positions.{position_of}
use Rattle.dwmac_run.specs.declared.commands.Operand.{Operand}
use Rattle.dwmac_run.specs.declared.commands.Operand.TheVariants.{File, Offset, Position, Name, Text, Source}
use Rattle.dwmac_run.specs.declared.operands.Operands.{Operands}
use Rattle.dwmac_run.specs.Offsets.{offset_of}
use Rattle.dwmac_run.specs.Words.{is_file_word, is_name_word}

-- no operands
abbrev pub no_operands : Operands
no_operands = record { file = None; offset = None; position = None; text = None }

-- a position that commands take: a chain of lines
abbrev pub chain_of : Option Place → Option Place
chain_of None = None
chain_of (Some (Chain unit lines line)) = Some (Chain unit lines line)
chain_of (Some (Named path line)) = None

-- with a file
abbrev pub with_file : Operands → List ℕ → Option Operands
with_file read word = if is_file_word word then Some (record read { file = Some word }) else None

-- with this offset, if there is one
abbrev pub at_offset : Operands → Option ℕ → Option Operands
at_offset read None = None
at_offset read (Some offset) = Some (record read { offset = Some offset })

-- with this position, if there is one
abbrev pub at_position : Operands → Option Place → Option Operands
at_position read None = None
at_position read (Some position) = Some (record read { position = Some position })

-- with an offset
abbrev pub with_offset : Operands → List ℕ → Option Operands
with_offset read word = if is_file_word word then at_offset read (offset_of word) else None

-- With a position. A position by its path names a file, so it is tested as a file is.
abbrev pub with_position : Operands → List ℕ → Option Operands
with_position read word = if is_file_word word then at_position read (chain_of (position_of word)) else None

-- with a text, which may be any word
abbrev pub with_text : Operands → List ℕ → Option Operands
with_text read word = Some (record read { text = Some word })

-- with a name
abbrev pub with_name : Operands → List ℕ → Option Operands
with_name read word = if is_name_word word then with_text read word else None

-- with an operand that is this word
abbrev pub read_operand : Operand → Operands → List ℕ → Option Operands
read_operand File read word = with_file read word
read_operand Source read word = with_file read word
read_operand Offset read word = with_offset read word
read_operand Position read word = with_position read word
read_operand Name read word = with_name read word
read_operand Text read word = with_text read word

-- what follows, where a word fits
abbrev pub after_operand : Option Operands → (Operands → Option Operands) → Option Operands
after_operand None more = None
after_operand (Some read) more = more read

-- the operands that words are, one word for each
abbrev pub read_operands : List Operand → Operands → List (List ℕ) → Option Operands
read_operands [] read [] = Some read
read_operands [] read (word ∷ words) = None
read_operands (operand ∷ operands) read [] = None
read_operands (operand ∷ operands) read (word ∷ words) = after_operand (read_operand operand read word) (λ next. read_operands operands next words)
