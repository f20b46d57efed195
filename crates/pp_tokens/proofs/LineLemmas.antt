-- The lines that are made piece by piece are those of the whole list of pieces.
use Rattle.std.proofs.Common.{◌≡◌, ◌↔◌, ℕ, Bool, true, false, cond, ◌||◌, List, [], ◌∷◌, ◌++◌, length, Some, Ok, refl, sym, ◌∙◌, ap, subst, append_assoc, append-nil}
use Rattle.std.specs.List.{flat_map}
use Rattle.pp_tokens.specs.declared.line.Line.{Line}
use Rattle.pp_tokens.specs.declared.piece.PieceKind.{PieceKind}
use Rattle.pp_tokens.specs.declared.piece.PieceKind.TheVariants.{Blank, LineEnd, Comment, Word}
use Rattle.pp_tokens.specs.declared.token.Kind.{Kind}
use Rattle.pp_tokens.specs.declared.token.Token.{Token}
use Rattle.pp_tokens.specs.Cleaning.{Char, bytes_of, cleaned, on_line_one}
use Rattle.pp_tokens.specs.Cut.{LinesSoFar, Piece, no_page, put, put_all, with_token, ended, lines_of, line_of, chars_of, piece_at, header_may_stand, AreCut, IsCut, IsOpen, LeavesOpen, LexesFile, LexesText}
use Rattle.pp_tokens.specs.Lines.{is_end, has_end, until_end, after_ends, last_line, tokens_after, tokens_in, line_in, lines_in, IsCutInto, FileIsSplit, TextIsSplit, OpenIsSplit}
use Rattle.pp_tokens.proofs.BothLemmas.{no_line_end}

-- the tokens of the line that is begun

-- these tokens, with white space after them or not, and those of the pieces
abbrev with_more : List Token → Bool → List Piece → List Token
with_more [] space pieces = tokens_in pieces
with_more (t ∷ ts) space pieces = (t ∷ ts) ++ tokens_after space pieces

no_more : (ts : List Token) (space : Bool) → with_more ts space [] ≡ ts
no_more [] space = refl
no_more (t ∷ ts) space = append-nil (t ∷ ts)

last_none : (ps : List Piece) → has_end ps ≡ false → last_line ps ≡ ps
last_none [] none = refl
last_none (p ∷ ps) none = ap (λ b. cond b (last_line ps) (p ∷ ps)) none

-- where the list has a line end, what is there does not count
same_there : (h : Bool) (a b : List Piece) (x y : List Token) → x ≡ y → cond h (tokens_in a) x ≡ cond h (tokens_in (cond h a b)) y
same_there true a b x y is = refl
same_there false a b x y is = is

space_more : (ts : List Token) (space : Bool) (chars : List Char) (ps : List Piece) → (with_more ts true ps ≡ with_more ts space (record { what = Blank; chars = chars } ∷ ps)) × (with_more ts true ps ≡ with_more ts space (record { what = Comment; chars = chars } ∷ ps))
space_more [] space chars ps = (refl, refl)
space_more (t ∷ ts) space chars ps = (refl, refl)

word_more : (page : LinesSoFar) (now : List Token) (kind : Kind) (chars : List Char) (ps : List Piece) → page.tokens ≡ now →
    with_more (with_token page now kind chars).tokens (with_token page now kind chars).space ps ≡ with_more now page.space (record { what = Word kind; chars = chars } ∷ ps)
word_more page [] kind chars ps is = refl
word_more page (t ∷ ts) kind chars ps is =
    let new : Token = record { kind = kind; text = bytes_of chars; space = page.space } in
    ap (λ (us : List Token). with_more (us ++ new ∷ []) false ps) is ∙ append_assoc (t ∷ ts) (new ∷ []) (tokens_after false ps)

at_end : (h : Bool) (ps : List Piece) → has_end ps ≡ h → cond h (tokens_in (last_line ps)) (tokens_in ps) ≡ tokens_in (last_line ps)
at_end true ps is = refl
at_end false ps is = ap tokens_in (sym (last_none ps is))

-- the tokens of the line that is begun after a page and these pieces
abbrev Begun : LinesSoFar → List Piece → List Token
Begun page ps = cond (has_end ps) (tokens_in (last_line ps)) (with_more page.tokens page.space ps)

begun_by : (page : LinesSoFar) (what : PieceKind) (chars : List Char) (ps : List Piece) → Begun (put page what chars) ps ≡ Begun page (record { what = what; chars = chars } ∷ ps)
begun_by page Blank chars ps = same_there (has_end ps) (last_line ps) (record { what = Blank; chars = chars } ∷ ps) _ _ (space_more page.tokens page.space chars ps).0
begun_by page Comment chars ps = same_there (has_end ps) (last_line ps) (record { what = Comment; chars = chars } ∷ ps) _ _ (space_more page.tokens page.space chars ps).1
begun_by page LineEnd chars ps = at_end (has_end ps) ps refl
begun_by page (Word kind) chars ps = same_there (has_end ps) (last_line ps) (record { what = Word kind; chars = chars } ∷ ps) _ _ (word_more page page.tokens kind chars ps refl)

begun_all : (page : LinesSoFar) (ps : List Piece) → (put_all page ps).tokens ≡ Begun page ps
begun_all page [] = sym (no_more page.tokens page.space)
begun_all page (p ∷ ps) = begun_all (put page p.what p.chars) ps ∙ begun_by page p.what p.chars ps

pub tokens_made : (pieces : List Piece) → (put_all no_page pieces).tokens ≡ tokens_in (last_line pieces)
tokens_made pieces = begun_all no_page pieces ∙ at_end (has_end pieces) pieces refl

-- the lines

-- the line that is begun, with the pieces up to its end
abbrev begun_line : ℕ → List Token → Bool → List Piece → List Line
begun_line number [] space ps = line_in ps
begun_line number (t ∷ ts) space ps = record { number = number; tokens = (t ∷ ts) ++ tokens_after space ps } ∷ []

ended_line : (lines : List Line) (number : ℕ) (ts : List Token) (space : Bool) → ended lines number ts ≡ lines ++ begun_line number ts space []
ended_line lines number [] space = sym (append-nil lines)
ended_line lines number (t ∷ ts) space = ap (λ (us : List Token). lines ++ record { number = number; tokens = us } ∷ []) (sym (append-nil (t ∷ ts)))

space_line : (number : ℕ) (ts : List Token) (space : Bool) (chars : List Char) (ps : List Piece) →
    (begun_line number ts true ps ≡ begun_line number ts space (record { what = Blank; chars = chars } ∷ ps)) × (begun_line number ts true ps ≡ begun_line number ts space (record { what = Comment; chars = chars } ∷ ps))
space_line number [] space chars ps = (refl, refl)
space_line number (t ∷ ts) space chars ps = (refl, refl)

word_line : (page : LinesSoFar) (now : List Token) (kind : Kind) (chars : List Char) (ps : List Piece) (others : List Line) → page.tokens ≡ now →
    (with_token page now kind chars).lines ++ (begun_line (with_token page now kind chars).number (with_token page now kind chars).tokens (with_token page now kind chars).space ps ++ others)
    ≡ page.lines ++ (begun_line page.number now page.space (record { what = Word kind; chars = chars } ∷ ps) ++ others)
word_line page [] kind chars ps others is = refl
word_line page (t ∷ ts) kind chars ps others is =
    let new : Token = record { kind = kind; text = bytes_of chars; space = page.space } in
    ap (λ (us : List Token). page.lines ++ (begun_line page.number (us ++ new ∷ []) false ps ++ others)) is
    ∙ ap (λ (us : List Token). page.lines ++ (record { number = page.number; tokens = us } ∷ [] ++ others)) (append_assoc (t ∷ ts) (new ∷ []) (tokens_after false ps))

-- the lines of a page and of the pieces after it
abbrev AllLines : LinesSoFar → List Piece → List Line
AllLines page ps = page.lines ++ (begun_line page.number page.tokens page.space (until_end ps) ++ flat_map line_in (after_ends ps))

lines_by : (page : LinesSoFar) (what : PieceKind) (chars : List Char) (ps : List Piece) → AllLines (put page what chars) ps ≡ AllLines page (record { what = what; chars = chars } ∷ ps)
lines_by page Blank chars ps = ap (λ (ls : List Line). page.lines ++ (ls ++ flat_map line_in (after_ends ps))) (space_line page.number page.tokens page.space chars (until_end ps)).0
lines_by page Comment chars ps = ap (λ (ls : List Line). page.lines ++ (ls ++ flat_map line_in (after_ends ps))) (space_line page.number page.tokens page.space chars (until_end ps)).1
lines_by page LineEnd chars ps =
    ap (λ (ls : List Line). ls ++ flat_map line_in (until_end ps ∷ after_ends ps)) (ended_line page.lines page.number page.tokens page.space)
    ∙ append_assoc page.lines (begun_line page.number page.tokens page.space []) (flat_map line_in (until_end ps ∷ after_ends ps))
lines_by page (Word kind) chars ps = word_line page page.tokens kind chars (until_end ps) (flat_map line_in (after_ends ps)) refl

lines_all : (page : LinesSoFar) (ps : List Piece) → lines_of (put_all page ps) ≡ AllLines page ps
lines_all page [] = ended_line page.lines page.number page.tokens page.space ∙ ap (λ (ls : List Line). page.lines ++ ls) (sym (append-nil (begun_line page.number page.tokens page.space [])))
lines_all page (p ∷ ps) = lines_all (put page p.what p.chars) ps ∙ lines_by page p.what p.chars ps

pub lines_made : (pieces : List Piece) → lines_of (put_all no_page pieces) ≡ lines_in pieces
lines_made pieces = lines_all no_page pieces

-- each piece

put_more : (page : LinesSoFar) (before : List Piece) (q : Piece) → put_all page (before ++ q ∷ []) ≡ put (put_all page before) q.what q.chars
put_more page [] q = refl
put_more page (p ∷ before) q = put_more (put page p.what p.chars) before q

-- what is in front after these pieces
abbrev Front : Bool → List Piece → Piece → List Piece → List Char → Type 0
Front lines before p after rest = piece_at lines (header_may_stand (tokens_in (last_line before))) (bytes_of (p.chars ++ chars_of after ++ rest)) ≡ Some (p.what, length p.chars)

to_each : (lines : Bool) (before b : List Piece) (p : Piece) (after : List Piece) (rest : List Char) → AreCut lines (put_all no_page before) (b ++ p ∷ after) rest → Front lines (before ++ b) p after rest
to_each lines before [] p after rest cut =
    ap (λ (ts : List Token). piece_at lines (header_may_stand ts) (bytes_of (p.chars ++ chars_of after ++ rest))) (ap (λ (qs : List Piece). tokens_in (last_line qs)) (append-nil before) ∙ sym (tokens_made before)) ∙ cut.0
to_each lines before (q ∷ b) p after rest cut =
    subst (λ (qs : List Piece). Front lines qs p after rest) (append_assoc before (q ∷ []) b)
    (to_each lines (before ++ q ∷ []) b p after rest (subst (λ (page : LinesSoFar). AreCut lines page (b ++ p ∷ after) rest) (sym (put_more no_page before q)) cut.1))

from_each : (lines : Bool) (before ps : List Piece) (rest : List Char) → ((b : List Piece) (p : Piece) (after : List Piece) → ps ≡ b ++ p ∷ after → Front lines (before ++ b) p after rest) → AreCut lines (put_all no_page before) ps rest
from_each lines before [] rest each = tt
from_each lines before (q ∷ ps) rest each = (
  ap (λ (ts : List Token). piece_at lines (header_may_stand ts) (bytes_of (q.chars ++ chars_of ps ++ rest))) (tokens_made before ∙ ap (λ (qs : List Piece). tokens_in (last_line qs)) (sym (append-nil before))) ∙ each [] q ps refl,
  subst (λ (page : LinesSoFar). AreCut lines page ps rest) (put_more no_page before q)
      (from_each lines (before ++ q ∷ []) ps rest
      (λ b p after is. subst (λ (qs : List Piece). Front lines qs p after rest) (sym (append_assoc before (q ∷ []) b)) (each (q ∷ b) p after (ap (λ (qs : List Piece). q ∷ qs) is)))),
)

pub into_pieces : (lines : Bool) (chars : List Char) (pieces : List Piece) (rest : List Char) → IsCut lines no_page chars pieces rest → IsCutInto lines chars pieces rest
into_pieces lines chars pieces rest cut = record {
  whole = cut.whole;
  each = λ before p after is. to_each lines [] before p after rest (subst (λ (ps : List Piece). AreCut lines no_page ps rest) is cut.each);
}

pub from_pieces : (lines : Bool) (chars : List Char) (pieces : List Piece) (rest : List Char) → IsCutInto lines chars pieces rest → IsCut lines no_page chars pieces rest
from_pieces lines chars pieces rest cut = record { whole = cut.whole; each = from_each lines [] pieces rest cut.each }

-- in one text no line ends
no_end_by : (page : LinesSoFar) (what : PieceKind) (chars rest : List Char) (o : Bool) → piece_at false (header_may_stand page.tokens) (bytes_of rest) ≡ Some (what, length chars) → o ≡ false → (is_end what || o) ≡ false
no_end_by page Blank chars rest o stands none = none
no_end_by page Comment chars rest o stands none = none
no_end_by page LineEnd chars rest o stands none = absurd (no_line_end (header_may_stand page.tokens) (bytes_of rest) (length chars) stands)
no_end_by page (Word kind) chars rest o stands none = none

no_end : (page : LinesSoFar) (ps : List Piece) (rest : List Char) → AreCut false page ps rest → has_end ps ≡ false
no_end page [] rest cut = refl
no_end page (p ∷ ps) rest cut = no_end_by page p.what p.chars (p.chars ++ chars_of ps ++ rest) (has_end ps) cut.0 (no_end (put page p.what p.chars) ps rest cut.1)

text_made : (pieces : List Piece) (rest : List Char) → AreCut false no_page pieces rest → (put_all no_page pieces).tokens ≡ tokens_in pieces
text_made pieces rest cut = tokens_made pieces ∙ ap tokens_in (last_none pieces (no_end no_page pieces rest cut))

-- the laws

pub file-split : FileIsSplit
file-split bytes lines = (
  λ (no_nul, page, (pieces, cut, final), are). (no_nul, pieces, into_pieces true (cleaned bytes) pieces [] cut, are ∙ ap lines_of final ∙ lines_made pieces),
  λ (no_nul, pieces, cut, are). (no_nul, put_all no_page pieces, (pieces, from_pieces true (cleaned bytes) pieces [] cut, refl), are ∙ sym (lines_made pieces)),
)

pub text-split : TextIsSplit
text-split bytes tokens = (
  λ (no_nul, page, (pieces, cut, final), are).
      (no_nul, pieces, into_pieces false (on_line_one bytes) pieces [] cut, are ∙ ap (λ (p : LinesSoFar). p.tokens) final ∙ text_made pieces [] cut.each),
  λ (no_nul, pieces, cut, are).
      let whole = from_pieces false (on_line_one bytes) pieces [] cut in
      (no_nul, put_all no_page pieces, (pieces, whole, refl), are ∙ sym (text_made pieces [] whole.each)),
)

pub open-split : OpenIsSplit
open-split lines chars line = (
  λ (pieces, rest, cut, is_open, is). (pieces, rest, into_pieces lines chars pieces rest cut, is_open, is),
  λ (pieces, rest, cut, is_open, is). (pieces, rest, from_pieces lines chars pieces rest cut, is_open, is),
)
