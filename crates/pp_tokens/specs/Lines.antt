-- The lines of tokens of a text, read off the list of its pieces (C17 5.1.1.2 phase 3 and 6.10 p1): the list is split at line ends, and a token is marked where white space is between it and the token before it on the line.
use Rattle.std.specs.Prelude.{◌≡◌, ◌↔◌, ℕ, Bool, true, false, if◌then◌else◌, List, [], ◌∷◌, ◌++◌, length, None, Some, Ok}
use Rattle.std.specs.List.{list_any, flat_map}
use Rattle.pp_tokens.specs.declared.line.Line.{Line}
use Rattle.pp_tokens.specs.declared.piece.PieceKind.{PieceKind}
use Rattle.pp_tokens.specs.declared.piece.PieceKind.TheVariants.{Blank, LineEnd, Comment, Word}
use Rattle.pp_tokens.specs.declared.token.Token.{Token}
use Rattle.pp_tokens.specs.Cleaning.{Char, bytes_of, numbered, cleaned, on_line_one, first_nul}
use Rattle.pp_tokens.specs.Cut.{Piece, chars_of, no_page, line_of, piece_at, header_may_stand, IsOpen, LeavesOpen, LexesFile, LexesText}

-- the end of a line
abbrev pub is_end : PieceKind → Bool
is_end Blank = false
is_end LineEnd = true
is_end Comment = false
is_end (Word kind) = false

-- a line ends among these
abbrev pub has_end : List Piece → Bool
has_end = list_any (λ (p : Piece). is_end p.what)

-- the pieces before the first line end
abbrev pub until_end : List Piece → List Piece
until_end [] = []
until_end (p ∷ ps) = if is_end p.what then [] else p ∷ until_end ps

-- for each line end, the pieces from there up to the next one
abbrev pub after_ends : List Piece → List (List Piece)
after_ends [] = []
after_ends (p ∷ ps) = if is_end p.what then until_end ps ∷ after_ends ps else after_ends ps

-- the pieces, split at line ends
abbrev pub split_lines : List Piece → List (List Piece)
split_lines pieces = until_end pieces ∷ after_ends pieces

-- the pieces after the last line end
abbrev pub last_line : List Piece → List Piece
last_line [] = []
last_line (p ∷ ps) = if has_end (p ∷ ps) then last_line ps else p ∷ ps

-- a piece that is a token, with this mark, and the tokens after it; or the tokens after a piece that is none
abbrev pub token_then : PieceKind → List Char → Bool → List Token → List Token → List Token
token_then Blank chars space after others = others
token_then LineEnd chars space after others = others
token_then Comment chars space after others = others
token_then (Word kind) chars space after others = record { kind = kind; text = bytes_of chars; space = space } ∷ after

-- the tokens after a token of their line: each is marked where white space, a blank or a comment, is between it and the one before it
abbrev pub tokens_after : Bool → List Piece → List Token
tokens_after space [] = []
tokens_after space (p ∷ ps) = token_then p.what p.chars space (tokens_after false ps) (tokens_after true ps)

-- the tokens of a line, of which the first has no mark
abbrev pub tokens_in : List Piece → List Token
tokens_in [] = []
tokens_in (p ∷ ps) = token_then p.what p.chars false (tokens_after false ps) (tokens_in ps)

-- the line number of a piece that is a token, or the other number
abbrev pub number_or : PieceKind → ℕ → ℕ → ℕ
number_or Blank number other = other
number_or LineEnd number other = other
number_or Comment number other = other
number_or (Word kind) number other = number

-- the physical line of the first token
abbrev pub number_in : List Piece → ℕ
number_in [] = 0
number_in (p ∷ ps) = number_or p.what (line_of p.chars) (number_in ps)

-- a line, if it has a token
abbrev pub line_if : ℕ → List Token → List Line
line_if number [] = []
line_if number (t ∷ ts) = record { number = number; tokens = t ∷ ts } ∷ []

-- the line that these pieces make, if a token is among them: it has the number of its first token
abbrev pub line_in : List Piece → List Line
line_in pieces = line_if (number_in pieces) (tokens_in pieces)

-- the lines that pieces make
abbrev pub lines_in : List Piece → List Line
lines_in pieces = flat_map line_in (split_lines pieces)

-- The text is cut into these pieces, up to the rest: each is the one in front of what is left of the text, where a header name may be in front after `#` `include` alone on the line.
pub record IsCutInto (lines : Bool) (chars : List Char) (pieces : List Piece) (rest : List Char) : Type 0 where
  pub whole : chars ≡ chars_of pieces ++ rest
  pub each : (before : List Piece) (p : Piece) (after : List Piece) → pieces ≡ before ++ p ∷ after →
      piece_at lines (header_may_stand (tokens_in (last_line before))) (bytes_of (p.chars ++ chars_of after ++ rest)) ≡ Some (p.what, length p.chars)

-- a file has exactly the lines of the pieces into which what phases 1 and 2 leave of it is cut
abbrev pub FileIsSplit : Type 0
FileIsSplit = (bytes : List ℕ) (lines : List Line) →
    LexesFile bytes (Ok lines) ↔ ((first_nul (numbered 1 bytes) ≡ None) × (pieces : List Piece) × IsCutInto true (cleaned bytes) pieces [] × (lines ≡ lines_in pieces))

-- a text has exactly the tokens of the pieces into which it is cut, as one line
abbrev pub TextIsSplit : Type 0
TextIsSplit = (bytes : List ℕ) (tokens : List Token) →
    LexesText bytes (Ok tokens) ↔ ((first_nul (on_line_one bytes) ≡ None) × (pieces : List Piece) × IsCutInto false (on_line_one bytes) pieces [] × (tokens ≡ tokens_in pieces))

-- a comment on this line is open exactly where the text is cut up to it
abbrev pub OpenIsSplit : Type 0
OpenIsSplit = (lines : Bool) (chars : List Char) (line : ℕ) →
    LeavesOpen lines no_page chars line ↔ ((pieces : List Piece) × (rest : List Char) × IsCutInto lines chars pieces rest × IsOpen (bytes_of rest) × (line ≡ line_of rest))
