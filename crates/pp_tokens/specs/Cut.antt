-- Phase 3 of translation (C17 5.1.1.2 and 6.4): a text is cut into white space, comments and tokens, and the tokens are on lines.
use Rattle.std.specs.Prelude.{◌≡◌, ℕ, zero, suc, ◌+◌, ◌==◌, Bool, true, false, ◌&&◌, ◌||◌, if◌then◌else◌, List, [], ◌∷◌, ◌++◌, length, take, drop, Option, None, Some, Result, Ok, Err}
use Rattle.std.specs.Option.{option_map}
use Rattle.std.specs.List.{flat_map}
use lib.Chars.{codes}
use Rattle.pp_tokens.specs.declared.fault.LexFault.{LexFault}
use Rattle.pp_tokens.specs.declared.fault.LexFault.TheVariants.{NulByte, OpenComment, NoMemory}
use Rattle.pp_tokens.specs.declared.line.Line.{Line}
use Rattle.pp_tokens.specs.declared.piece.PieceKind.{PieceKind}
use Rattle.pp_tokens.specs.declared.piece.PieceKind.TheVariants.{Blank, LineEnd, Comment, Word}
use Rattle.pp_tokens.specs.declared.token.Kind.{Kind}
use Rattle.pp_tokens.specs.declared.token.Kind.TheVariants.{Header}
use Rattle.pp_tokens.specs.declared.token.Token.{Token}
use Rattle.pp_tokens.specs.Cleaning.{Char, bytes_of, numbered, cleaned, on_line_one, first_nul}
use Rattle.pp_tokens.specs.Kinds.{begins, same, is_blank, kind_of}

-- this kind of so many bytes, or the other
abbrev pub longer : Option Kind → ℕ → Option (Kind × ℕ) → Option (Kind × ℕ)
longer (Some kind) n shorter = Some (kind, n)
longer None n shorter = shorter

-- the longest prefix of at most n bytes that has a kind, and its length
abbrev pub longest_within : List ℕ → ℕ → Option (Kind × ℕ)
longest_within bytes zero = None
longest_within bytes (suc n) = longer (kind_of (take (suc n) bytes)) (suc n) (longest_within bytes n)

-- the longest token that the table of kinds allows here (6.4 p4)
abbrev pub longest : List ℕ → Option (Kind × ℕ)
longest bytes = longest_within bytes (length bytes)

-- the bytes up to and with the next one of these on the line
abbrev pub up_to : ℕ → List ℕ → Option ℕ
up_to last [] = None
up_to last (b ∷ bs) = if b == last then Some 1 else (if b == 10 then None else option_map suc (up_to last bs))

-- the header name in front: `<` up to `>`, or `"` up to `"`; nothing in it is a comment or an escape (6.4.7)
abbrev pub header_name : List ℕ → Option ℕ
header_name [] = None
header_name (b ∷ bs) = if b == 60 then option_map suc (up_to 62 bs) else (if b == 34 then option_map suc (up_to 34 bs) else None)

-- a header name of that length, or the longest token
abbrev pub token_or : Option ℕ → List ℕ → Option (PieceKind × ℕ)
token_or (Some n) bytes = Some (Word Header, n)
token_or None bytes = option_map (λ (found : Kind × ℕ). (Word found.0, found.1)) (longest bytes)

-- the token in front, with its kind and length: the header name where one may be and there is one, else the longest
abbrev pub token_at : Bool → List ℕ → Option (PieceKind × ℕ)
token_at header bytes = token_or (if header then header_name bytes else None) bytes

-- the bytes before the next line feed
abbrev pub line_rest : List ℕ → ℕ
line_rest [] = 0
line_rest (b ∷ bs) = if b == 10 then 0 else suc (line_rest bs)

-- the bytes up to and with the next `*/`
abbrev pub up_to_close : List ℕ → Option ℕ
up_to_close [] = None
up_to_close (a ∷ []) = None
up_to_close (a ∷ b ∷ bs) = if (a == 42) && (b == 47) then Some 2 else option_map suc (up_to_close (b ∷ bs))

-- The piece in front and its length: a line feed, which ends the line where lines count and is white space else; other white space; a comment (6.4.9); else a token. None where the bytes end, or a comment is not closed.
abbrev pub piece_at : Bool → Bool → List ℕ → Option (PieceKind × ℕ)
piece_at lines header [] = None
piece_at lines header (b ∷ bs) =
    if b == 10 then Some (if lines then LineEnd else Blank, 1)
    else (if is_blank b then Some (Blank, 1)
    else (if begins (codes "//") (b ∷ bs) then Some (Comment, suc (line_rest bs))
    else (if begins (codes "/*") (b ∷ bs) then option_map (λ n. (Comment, 2 + n)) (up_to_close (drop 1 bs))
    else token_at header (b ∷ bs))))

-- a stretch of the text, and what it is
pub record Piece : Type 0 where
  pub what : PieceKind
  pub chars : List Char

-- the bytes of pieces, one after another
abbrev pub chars_of : List Piece → List Char
chars_of = flat_map (λ (p : Piece). p.chars)

-- The whole lines of tokens, and of the line that is begun: its number, its tokens, and whether white space is after the last.
pub record LinesSoFar : Type 0 where
  pub lines : List Line
  pub number : ℕ
  pub tokens : List Token
  pub space : Bool

-- the page before the first piece
abbrev pub no_page : LinesSoFar
no_page = record { lines = []; number = 0; tokens = []; space = false }

-- the page's lines, where the line that is begun ends here; a line without tokens is dropped
abbrev pub ended : List Line → ℕ → List Token → List Line
ended lines number [] = lines
ended lines number (t ∷ ts) = lines ++ record { number = number; tokens = t ∷ ts } ∷ []

-- the page's lines, where the text ends here
abbrev pub lines_of : LinesSoFar → List Line
lines_of page = ended page.lines page.number page.tokens

-- the line of the first
abbrev pub line_of : List Char → ℕ
line_of [] = 0
line_of (c ∷ cs) = c.line

-- the first token of a line gives it its number, and has no mark
abbrev pub with_token : LinesSoFar → List Token → Kind → List Char → LinesSoFar
with_token page [] kind chars =
    record page { number = line_of chars; tokens = record { kind = kind; text = bytes_of chars; space = false } ∷ []; space = false }
with_token page (t ∷ ts) kind chars =
    record page { tokens = page.tokens ++ record { kind = kind; text = bytes_of chars; space = page.space } ∷ []; space = false }

-- what a piece makes of a page
abbrev pub put : LinesSoFar → PieceKind → List Char → LinesSoFar
put page Blank chars = record page { space = true }
put page Comment chars = record page { space = true }
put page LineEnd chars = record { lines = lines_of page; number = 0; tokens = []; space = false }
put page (Word kind) chars = with_token page page.tokens kind chars

-- the page with the pieces, in their order
abbrev pub put_all : LinesSoFar → List Piece → LinesSoFar
put_all page [] = page
put_all page (p ∷ ps) = put_all (put page p.what p.chars) ps

-- whether a header name may be next: only `#` and `include` come before on the line; `%:` is `#` too (6.4 p4)
abbrev pub header_may_stand : List Token → Bool
header_may_stand [] = false
header_may_stand (t ∷ []) = false
header_may_stand (t ∷ u ∷ []) = (same t.text (codes "#") || same t.text (codes "%:")) && same u.text (codes "include")
header_may_stand (t ∷ u ∷ v ∷ ts) = false

-- each piece is the one that is in front of the rest of the text
abbrev pub AreCut : Bool → LinesSoFar → List Piece → List Char → Type 0
AreCut lines page [] rest = Unit {0}
AreCut lines page (p ∷ ps) rest =
    (piece_at lines (header_may_stand page.tokens) (bytes_of (p.chars ++ chars_of ps ++ rest)) ≡ Some (p.what, length p.chars)) × AreCut lines (put page p.what p.chars) ps rest

-- after this page the text is cut into these pieces, up to the rest
pub record IsCut (lines : Bool) (page : LinesSoFar) (chars : List Char) (pieces : List Piece) (rest : List Char) : Type 0 where
  pub whole : chars ≡ chars_of pieces ++ rest
  pub each : AreCut lines page pieces rest

-- the whole text is cut, and makes this page
abbrev pub Makes : Bool → LinesSoFar → List Char → LinesSoFar → Type 0
Makes lines page chars final = (pieces : List Piece) × IsCut lines page chars pieces [] × (final ≡ put_all page pieces)

-- `/*` is in front, and no `*/` after it
abbrev pub IsOpen : List ℕ → Type 0
IsOpen bytes = (begins (codes "/*") bytes ≡ true) × (up_to_close (drop 2 bytes) ≡ None)

-- a piece would begin where a comment on this line is not closed
abbrev pub LeavesOpen : Bool → LinesSoFar → List Char → ℕ → Type 0
LeavesOpen lines page chars line = (pieces : List Piece) × (rest : List Char) × IsCut lines page chars pieces rest × IsOpen (bytes_of rest) × (line ≡ line_of rest)

-- why a text has no tokens: a byte 0 (this project's rule), else an open comment (5.1.1.2 p1, phase 3)
abbrev pub IsFault : Option ℕ → Bool → List Char → LexFault → Type 0
IsFault nul lines chars (NulByte line) = nul ≡ Some line
IsFault nul lines chars (OpenComment line) = (nul ≡ None) × LeavesOpen lines no_page chars line
IsFault nul lines chars NoMemory = Unit {0}

-- the lines of a file, or its fault
abbrev pub LexesFile : List ℕ → Result (List Line) LexFault → Type 0
LexesFile bytes (Ok lines) = (first_nul (numbered 1 bytes) ≡ None) × (page : LinesSoFar) × Makes true no_page (cleaned bytes) page × (lines ≡ lines_of page)
LexesFile bytes (Err fault) = IsFault (first_nul (numbered 1 bytes)) true (cleaned bytes) fault

-- the tokens of one text by phase 3 alone, or its fault
abbrev pub LexesText : List ℕ → Result (List Token) LexFault → Type 0
LexesText bytes (Ok tokens) = (first_nul (on_line_one bytes) ≡ None) × (page : LinesSoFar) × Makes false no_page (on_line_one bytes) page × (tokens ≡ page.tokens)
LexesText bytes (Err fault) = IsFault (first_nul (on_line_one bytes)) false (on_line_one bytes) fault
