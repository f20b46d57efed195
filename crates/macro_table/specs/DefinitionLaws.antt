-- What holds of all definitions and their texts: a definition is read back from its text, and want of memory is no fault of it.
use Rattle.std.specs.Prelude.{◌≡◌, ◌≢◌, ◌↔◌, ℕ, true, List, [], ◌∷◌, ◌++◌, Result, Ok, Err}
use Rattle.std.specs.List.{AllByRecursion}
use Rattle.pp_tokens.specs.declared.line.Line.{Line}
use Rattle.pp_tokens.specs.declared.token.Kind.TheVariants.{Header}
use Rattle.pp_tokens.specs.declared.token.Token.{Token}
use Rattle.pp_tokens.specs.declared.fault.LexFault.{LexFault}
use Rattle.pp_tokens.specs.declared.fault.LexFault.TheVariants.{NoMemory as LexRanOut}
use Rattle.pp_tokens.specs.Cut.{LexesFile, LexesText}
use Rattle.pp_tokens.specs.Laws.{IsAnswer}
use Rattle.macro_table.specs.declared.fault.DefFault.TheVariants.{NoMemory}
use Rattle.macro_table.specs.declared.fault.TextFault.TheVariants.{Lex, Def}
use Rattle.macro_table.specs.declared.fault.TextFault.TheVariants.{NoMemory as RanOut}
use Rattle.macro_table.specs.Definitions.{DefValue, def_of}
use Rattle.macro_table.specs.Texts.{tokens_of, text_of, def_of_text}

-- tokens that phase 3 gave: the last ones of a text, or of a line of a file
pub data IsGiven (tokens : List Token) : Type 0 where
  of_text : (text : List ℕ) (front : List Token) → LexesText text (Ok (front ++ tokens)) → IsGiven tokens
  of_file : (file : List ℕ) (before behind : List Line) (number : ℕ) (front : List Token) → LexesFile file (Ok (before ++ record { number = number; tokens = front ++ tokens } ∷ behind)) → IsGiven tokens

-- a token that is no header name
abbrev pub IsNoHeader : Token → Type 0
IsNoHeader t = t.kind ≢ Header

-- a replacement list after white space
abbrev pub first_spaced : List Token → List Token
first_spaced [] = []
first_spaced (t ∷ ts) = record t { space = true } ∷ ts

-- What tokens define that phase 3 gave, without a header name among them, is what its text defines, but that white space is before the replacement list of the text.
abbrev pub TextIsReadBack : Type 0
TextIsReadBack = (tokens : List Token) (def : DefValue) → IsGiven tokens → AllByRecursion IsNoHeader tokens → def_of tokens ≡ Ok def → def_of_text (text_of def) ≡ Ok (record def { body = first_spaced def.body })

-- what the definition of a text starts from is exactly what phase 3 gives of the text, want of memory aside: its tokens or its first fault
pub record TokensAreLexed : Type 0 where
  pub plain : (text : List ℕ) → IsAnswer (tokens_of text)
  pub exactly : (text : List ℕ) (answer : Result (List Token) LexFault) → IsAnswer answer → (tokens_of text ≡ answer) ↔ LexesText text answer

-- want of memory is no fault of tokens or of a text
pub record FaultsArePlain : Type 0 where
  pub tokens : (tokens : List Token) → def_of tokens ≢ Err NoMemory
  pub lexing : (text : List ℕ) → def_of_text text ≢ Err (Lex LexRanOut)
  pub defining : (text : List ℕ) → def_of_text text ≢ Err (Def NoMemory)
  pub text : (text : List ℕ) → def_of_text text ≢ Err RanOut
