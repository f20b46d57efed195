-- A file and a text have exactly one answer, the numbers of a file's lines rise, and tokens are read back from their printed text.
use Rattle.std.specs.Prelude.{◌≡◌, ◌≢◌, ◌<◌, ◌⊎◌, ℕ, Bool, false, List, [], ◌∷◌, take, None, Some, Result, Ok, Err}
use Rattle.pp_tokens.specs.declared.fault.LexFault.{LexFault}
use Rattle.pp_tokens.specs.declared.fault.LexFault.TheVariants.{NulByte, OpenComment, NoMemory}
use Rattle.pp_tokens.specs.Cleaning.{Char, bytes_of, on_line_one, first_nul}
use Rattle.pp_tokens.specs.Kinds.{kind_of}
use Rattle.pp_tokens.specs.Printing.{SameTokens, Prints}
use Rattle.pp_tokens.specs.Cut.{LinesSoFar, Piece, IsCut, IsOpen, header_may_stand, LexesFile, LexesText}
use Rattle.std.specs.List.{AllByRecursion}
use Rattle.pp_tokens.specs.declared.token.Kind.TheVariants.{LoneQuote}
use Rattle.pp_tokens.specs.declared.line.Line.{Line}
use Rattle.pp_tokens.specs.declared.token.Token.{Token}

-- two whole cuts of one text are the same
abbrev pub CutIsUnique : Type 0
CutIsUnique = (lines : Bool) (page : LinesSoFar) (chars : List Char) (pieces others : List Piece) → IsCut lines page chars pieces [] → IsCut lines page chars others [] → pieces ≡ others

-- a cut of a text up to its end, or up to a comment that is not closed
pub record Ends (lines : Bool) (page : LinesSoFar) (chars : List Char) : Type 0 where
  pub pieces : List Piece
  pub rest : List Char
  pub cut : IsCut lines page chars pieces rest
  pub done : (rest ≡ []) ⊎ IsOpen (bytes_of rest)

-- every text is cut up to its end, or up to a comment that is not closed
abbrev pub CutExists : Type 0
CutExists = (lines : Bool) (page : LinesSoFar) (chars : List Char) → Ends lines page chars

-- an answer other than want of memory
abbrev pub IsAnswer : {A : Type 0} → Result A LexFault → Type 0
IsAnswer (Ok x) = Unit {0}
IsAnswer (Err (NulByte line)) = Unit {0}
IsAnswer (Err (OpenComment line)) = Unit {0}
IsAnswer (Err NoMemory) = ⊥

-- a file has one answer
abbrev pub FileHasOneAnswer : Type 0
FileHasOneAnswer = (bytes : List ℕ) (one other : Result (List Line) LexFault) → IsAnswer one → IsAnswer other → LexesFile bytes one → LexesFile bytes other → one ≡ other

-- a text has one answer
abbrev pub TextHasOneAnswer : Type 0
TextHasOneAnswer = (bytes : List ℕ) (one other : Result (List Token) LexFault) → IsAnswer one → IsAnswer other → LexesText bytes one → LexesText bytes other → one ≡ other

-- one answer, want of memory aside, and no other
pub record OneAnswer {A : Type 0} (Says : Result A LexFault → Type 0) : Type 0 where
  pub answer : Result A LexFault
  pub plain : IsAnswer answer
  pub said : Says answer
  pub only : (other : Result A LexFault) → IsAnswer other → Says other → other ≡ answer

-- every file has exactly one answer: its lines or its first fault
abbrev pub EachFileIsLexed : Type 0
EachFileIsLexed = (bytes : List ℕ) → OneAnswer (LexesFile bytes)

-- every text has exactly one answer: its tokens or its first fault
abbrev pub EachTextIsLexed : Type 0
EachTextIsLexed = (bytes : List ℕ) → OneAnswer (LexesText bytes)

-- a token that is read back: its text is a token of its kind by the table (so it is no header name), it is no lone quote, and no byte of it is 0
pub record IsPrintable (t : Token) : Type 0 where
  pub kind : kind_of t.text ≡ Some t.kind
  pub no_lone : t.kind ≢ LoneQuote
  pub no_nul : first_nul (on_line_one t.text) ≡ None

-- all lists of tokens are printed as exactly one text
pub record OneText (tokens : List Token) : Type 0 where
  pub text : List ℕ
  pub printed : Prints tokens text
  pub only : (other : List ℕ) → Prints tokens other → other ≡ text

abbrev pub TokensHaveOneText : Type 0
TokensHaveOneText = (tokens : List Token) → OneText tokens

-- Such tokens, if they don't begin with `#` `include`, are what the printed text gives, in kinds and texts.
abbrev pub PrintedIsReadBack : Type 0
PrintedIsReadBack = (tokens : List Token) (text : List ℕ) →
    AllByRecursion IsPrintable tokens → header_may_stand (take 2 tokens) ≡ false → Prints tokens text →
    (found : List Token) × LexesText text (Ok found) × SameTokens found tokens

-- the numbers rise strictly, from above this one on
abbrev pub RiseFrom : ℕ → List Line → Type 0
RiseFrom low [] = Unit {0}
RiseFrom low (l ∷ ls) = (low < l.number) × RiseFrom l.number ls

-- the lines of a file have numbers that rise strictly, from 1 on
abbrev pub LineNumbersRise : Type 0
LineNumbersRise = (bytes : List ℕ) (lines : List Line) → LexesFile bytes (Ok lines) → RiseFrom 0 lines
