-- The numbers of a file's lines rise strictly.
use Rattle.std.proofs.Common.{◌≡◌, ℕ, ◌+◌, ◌≤◌, ◌<◌, eqb, Bool, true, false, cond, ◌&&◌, List, [], ◌∷◌, ◌++◌, length, drop, Option, Some, None, refl, sym, ◌∙◌, ap, subst, arith, append_assoc}
use Rattle.std.specs.Option.{unwrap_or, option_map}
use lib.Chars.{codes}
use Rattle.pp_tokens.specs.declared.line.Line.{Line}
use Rattle.pp_tokens.specs.declared.piece.PieceKind.{PieceKind}
use Rattle.pp_tokens.specs.declared.piece.PieceKind.TheVariants.{Blank, LineEnd, Comment, Word}
use Rattle.pp_tokens.specs.declared.token.Kind.{Kind}
use Rattle.pp_tokens.specs.declared.token.Token.{Token}
use Rattle.pp_tokens.specs.Cleaning.{Char, bytes_of, numbered, without_cr, trigraph, trigraph_of, replaced, without_trigraphs, spliced, cleaned}
use Rattle.pp_tokens.specs.Kinds.{begins, is_blank}
use Rattle.pp_tokens.specs.Cut.{header_name, up_to_close, LinesSoFar, Piece, no_page, put, put_all, with_token, ended, lines_of, line_of, chars_of, piece_at, header_may_stand, AreCut}
use Rattle.pp_tokens.specs.Laws.{RiseFrom, LineNumbersRise}
use Rattle.pp_tokens.proofs.ScanLemmas.{Within, piece-within}
use Rattle.pp_tokens.proofs.BothLemmas.{NoEnd, pick, blank_no_end, comment_no_end, token_no_end}
use Rattle.pp_tokens.proofs.RawLemmas.{NoFeed, trigraph_feed}

-- each byte is on this line or a later one, and on a later one after a line feed
abbrev next : Char → ℕ
next c = cond (eqb c.byte 10) (c.line + 1) c.line

abbrev Ordered : ℕ → List Char → Type 0
Ordered n [] = Unit {0}
Ordered n (c ∷ cs) = (n ≤ c.line) × Ordered (next c) cs

next_above : (t : Bool) (n : ℕ) → n ≤ cond t (n + 1) n
next_above true n = omega arith
next_above false n = omega arith

earlier : (m n : ℕ) (cs : List Char) → m ≤ n → Ordered n cs → Ordered m cs
earlier m n [] less are = tt
earlier m n (c ∷ cs) less are = (omega (arith, less, are.0), are.1)

behind_one : (n : ℕ) (c : Char) (cs : List Char) → Ordered n (c ∷ cs) → Ordered n cs
behind_one n c cs are = earlier n (next c) cs (omega (arith, are.0, next_above (eqb c.byte 10) c.line)) are.1

behind_all : (n : ℕ) (xs ys : List Char) → Ordered n (xs ++ ys) → Ordered n ys
behind_all n [] ys are = are
behind_all n (x ∷ xs) ys are = behind_all n xs ys (behind_one n x (xs ++ ys) are)

numbered_ordered : (bs : List ℕ) (n : ℕ) → Ordered n (numbered n bs)
numbered_ordered [] n = tt
numbered_ordered (b ∷ bs) n = (omega arith, numbered_ordered bs (cond (eqb b 10) (n + 1) n))

choose : (P : List Char → Type 0) (t : Bool) (xs ys : List Char) → P xs → P ys → P (cond t xs ys)
choose P true xs ys first second = first
choose P false xs ys first second = second

returned_ordered : (cs : List Char) (n : ℕ) → Ordered n cs → Ordered n (without_cr cs)
returned_ordered [] n are = tt
returned_ordered (c ∷ []) n are = are
returned_ordered (c ∷ d ∷ cs) n are =
    choose (Ordered n) ((eqb c.byte 13) && (eqb d.byte 10)) (without_cr (d ∷ cs)) (c ∷ without_cr (d ∷ cs))
    (returned_ordered (d ∷ cs) n (behind_one n c (d ∷ cs) are)) (are.0, returned_ordered (d ∷ cs) (next c) are.1)

replaced_ordered : (o : Option ℕ) (line n : ℕ) (xs ys : List Char) → NoFeed o → n ≤ line → Ordered line xs → Ordered n ys → Ordered n (replaced o line xs ys)
replaced_ordered None line n xs ys no_feed less first second = second
replaced_ordered (Some b) line n xs ys no_feed less first second = (less, subst (λ t. Ordered (cond t (line + 1) line) xs) (sym no_feed) first)

trigraph_of_feed : (t : Bool) (c : ℕ) → NoFeed (cond t (trigraph c) None)
trigraph_of_feed true c = trigraph_feed c
trigraph_of_feed false c = tt

plain_ordered : (cs : List Char) (n : ℕ) → Ordered n cs → Ordered n (without_trigraphs cs)
plain_ordered [] n are = tt
plain_ordered (a ∷ []) n are = are
plain_ordered (a ∷ b ∷ []) n are = are
plain_ordered (a ∷ b ∷ c ∷ cs) n are =
    replaced_ordered (trigraph_of a b c) a.line n (without_trigraphs cs) (a ∷ without_trigraphs (b ∷ c ∷ cs)) (trigraph_of_feed ((eqb a.byte 63) && (eqb b.byte 63)) c.byte) are.0
    (plain_ordered cs a.line (behind_one a.line c cs (behind_one a.line b (c ∷ cs) (earlier a.line (next a) (b ∷ c ∷ cs) (next_above (eqb a.byte 10) a.line) are.1))))
    (are.0, plain_ordered (b ∷ c ∷ cs) (next a) are.1)

spliced_ordered : (cs : List Char) (n : ℕ) → Ordered n cs → Ordered n (spliced cs)
spliced_ordered [] n are = tt
spliced_ordered (c ∷ []) n are = are
spliced_ordered (c ∷ d ∷ cs) n are =
    choose (Ordered n) ((eqb c.byte 92) && (eqb d.byte 10)) (spliced cs) (c ∷ spliced (d ∷ cs))
    (spliced_ordered cs n (behind_one n d cs (behind_one n c (d ∷ cs) are))) (are.0, spliced_ordered (d ∷ cs) (next c) are.1)

cleaned_ordered : (bytes : List ℕ) → Ordered 1 (cleaned bytes)
cleaned_ordered bytes = spliced_ordered _ 1 (plain_ordered _ 1 (returned_ordered _ 1 (numbered_ordered bytes 1)))

-- the lines rise from above one number to below another
abbrev Between : ℕ → List Line → ℕ → Type 0
Between low [] high = low < high
Between low (l ∷ ls) high = (low < l.number) × Between l.number ls high

between_more : (low : ℕ) (ls : List Line) (l : Line) (high : ℕ) → Between low ls l.number → l.number < high → Between low (ls ++ l ∷ []) high
between_more low [] l high below less = (below, less)
between_more low (x ∷ ls) l high below less = (below.0, between_more x.number ls l high below.1 less)

between_up : (low : ℕ) (ls : List Line) (m n : ℕ) → m ≤ n → Between low ls m → Between low ls n
between_up low [] m n less below = omega (arith, less, below)
between_up low (l ∷ ls) m n less below = (below.0, between_up l.number ls m n less below.1)

rises : (low : ℕ) (ls : List Line) (high : ℕ) → Between low ls high → RiseFrom low ls
rises low [] high below = tt
rises low (l ∷ ls) high below = (below.0, rises l.number ls high below.1)

-- the line that is begun is above the lines before it, and what is left is no earlier
abbrev Fits : LinesSoFar → List Token → ℕ → Type 0
Fits page [] n = Between 0 page.lines n
Fits page (t ∷ ts) n = Between 0 page.lines page.number × (page.number ≤ n)

fits_lines : (page : LinesSoFar) (ts : List Token) (n : ℕ) → Fits page ts n → RiseFrom 0 (ended page.lines page.number ts)
fits_lines page [] n fits = rises 0 page.lines n fits
fits_lines page (t ∷ ts) n fits = rises 0 (page.lines ++ record { number = page.number; tokens = t ∷ ts } ∷ []) (n + 1) (between_more 0 page.lines (record { number = page.number; tokens = t ∷ ts }) (n + 1) fits.0 (omega (arith, fits.1)))

fits_end : (page : LinesSoFar) (ts : List Token) (n m : ℕ) → Fits page ts n → n < m → Between 0 (ended page.lines page.number ts) m
fits_end page [] n m fits less = between_up 0 page.lines n m (omega arith) fits
fits_end page (t ∷ ts) n m fits less = between_more 0 page.lines (record { number = page.number; tokens = t ∷ ts }) m fits.0 (omega (arith, fits.1))

fits_word : (page : LinesSoFar) (now : List Token) (kind : Kind) (chars : List Char) (n : ℕ) → page.tokens ≡ now → n ≤ line_of chars → Fits page now n → Fits (with_token page now kind chars) (with_token page now kind chars).tokens (line_of chars)
fits_word page [] kind chars n is least fits = (between_up 0 page.lines n (line_of chars) least fits, omega arith)
fits_word page (t ∷ ts) kind chars n is least fits =
    subst (λ (xs : List Token). Fits (with_token page (t ∷ ts) kind chars) xs (line_of chars)) (sym (ap (λ (xs : List Token). xs ++ record { kind = kind; text = bytes_of chars; space = page.space } ∷ []) is))
    (fits.0, omega (arith, fits.1, least))

-- a line ends at a line feed alone
block_no_end : (o : Option ℕ) → NoEnd (option_map {U = PieceKind × ℕ} (λ n. (Comment, 2 + n)) o)
block_no_end None = tt
block_no_end (Some n) = comment_no_end

end_by : (t : Bool) (n : ℕ) (o : Option (PieceKind × ℕ)) → NoEnd o → cond t (Some (LineEnd, 1)) o ≡ Some (LineEnd, n) → (t ≡ true) × (n ≡ 1)
end_by true n o no_end is = (refl, sym (ap (λ (x : Option (PieceKind × ℕ)). (unwrap_or x (LineEnd, 1)).1) is))
end_by false n o no_end is = absurd (subst NoEnd is no_end refl)

end_at : (header : Bool) (b : ℕ) (bs : List ℕ) (n : ℕ) → piece_at true header (b ∷ bs) ≡ Some (LineEnd, n) → (eqb b 10 ≡ true) × (n ≡ 1)
end_at header b bs n is =
    end_by (eqb b 10) n _ (pick (is_blank b) _ _ blank_no_end (pick (begins (codes "//") (b ∷ bs)) _ _ comment_no_end (pick (begins (codes "/*") (b ∷ bs)) _ _ (block_no_end (up_to_close (drop 1 bs))) (token_no_end (cond header (header_name (b ∷ bs)) None) (b ∷ bs))))) is

-- where a page is after a piece
record Stands (page : LinesSoFar) (rest : List Char) : Type 0 where
  line : ℕ
  fits : Fits page page.tokens line
  left : Ordered line rest

some_chars : (header : Bool) (what : PieceKind) (chars rest : List Char) → piece_at true header (bytes_of (chars ++ rest)) ≡ Some (what, length chars) → 1 ≤ length chars
some_chars header what chars rest is = (subst (Within (length (bytes_of (chars ++ rest)))) is (piece-within true header (bytes_of (chars ++ rest)))).0

put_by : (page : LinesSoFar) (what : PieceKind) (chars rest : List Char) (n : ℕ) → 1 ≤ length chars → (what ≡ LineEnd → (c : Char) × (chars ≡ c ∷ []) × (eqb c.byte 10 ≡ true)) → Ordered n (chars ++ rest) → Fits page page.tokens n → Stands (put page what chars) rest
put_by page Blank chars rest n some end are fits = record { line = n; fits = fits; left = behind_all n chars rest are }
put_by page Comment chars rest n some end are fits = record { line = n; fits = fits; left = behind_all n chars rest are }
put_by page (Word kind) [] rest n some end are fits = absurd (omega arith)
put_by page (Word kind) (c ∷ cs) rest n some end are fits = record {
  line = c.line;
  fits = fits_word page page.tokens kind (c ∷ cs) n refl are.0 fits;
  left = behind_all c.line cs rest (earlier c.line (next c) (cs ++ rest) (next_above (eqb c.byte 10) c.line) are.1);
}
put_by page LineEnd chars rest n some end are fits =
    let shape = end refl in
    let feed : Char = shape.0 in
    let here : Ordered n (feed ∷ rest) = subst (λ (cs : List Char). Ordered n (cs ++ rest)) shape.1 are in
    record {
      line = feed.line + 1;
      fits = fits_end page page.tokens n (feed.line + 1) fits (let least = here.0 in omega (arith, least));
      left = subst (λ t. Ordered (cond t (feed.line + 1) feed.line) rest) shape.2 here.1;
    }

one_char : (chars : List Char) → length chars ≡ 1 → (c : Char) × (chars ≡ c ∷ [])
one_char [] long = absurd (omega arith)
one_char (c ∷ []) long = (c, refl)
one_char (c ∷ d ∷ chars) long = absurd (omega arith)

end_chars : (header : Bool) (chars rest : List Char) → piece_at true header (bytes_of (chars ++ rest)) ≡ Some (LineEnd, length chars) → (c : Char) × (chars ≡ c ∷ []) × (eqb c.byte 10 ≡ true)
end_chars header [] rest is = absurd (let some = some_chars header LineEnd [] rest is in omega (arith, some))
end_chars header (c ∷ cs) rest is =
    let found = end_at header c.byte (bytes_of (cs ++ rest)) (length (c ∷ cs)) is in
    let one = one_char (c ∷ cs) found.1 in
    let same : c ≡ one.0 = ap (first_of c) one.1 in
    (one.0, one.1, ap (λ (x : Char). eqb x.byte 10) (sym same) ∙ found.0)
  where
    first_of : Char → List Char → Char
    first_of d [] = d
    first_of d (x ∷ xs) = x

rise_all : (page : LinesSoFar) (pieces : List Piece) (n : ℕ) → AreCut true page pieces [] → Ordered n (chars_of pieces ++ []) → Fits page page.tokens n → RiseFrom 0 (lines_of (put_all page pieces))
rise_all page [] n cut are fits = fits_lines page page.tokens n fits
rise_all page (p ∷ ps) n cut are fits =
    let split : p.chars ++ chars_of ps ++ [] ≡ p.chars ++ (chars_of ps ++ []) = append_assoc p.chars (chars_of ps) [] in
    let stands : piece_at true (header_may_stand page.tokens) (bytes_of (p.chars ++ (chars_of ps ++ []))) ≡ Some (p.what, length p.chars) = ap (λ (cs : List Char). piece_at true (header_may_stand page.tokens) (bytes_of cs)) (sym split) ∙ cut.0 in
    let next_place = put_by page p.what p.chars (chars_of ps ++ []) n (some_chars (header_may_stand page.tokens) p.what p.chars (chars_of ps ++ []) stands)
    (λ end. end_chars (header_may_stand page.tokens) p.chars (chars_of ps ++ []) (stands ∙ ap (λ w. Some (w, length p.chars)) end))
    (subst (Ordered n) split are) fits in
    rise_all (put page p.what p.chars) ps next_place.line cut.1 next_place.left next_place.fits

pub numbers-rise : LineNumbersRise
numbers-rise bytes lines lexed =
    let makes = lexed.2 in
    let are : Ordered 1 (chars_of makes.0 ++ []) = subst (Ordered 1) makes.1.whole (cleaned_ordered bytes) in
    subst (RiseFrom 0) (sym (lexed.3 ∙ ap lines_of makes.2)) (rise_all no_page makes.0 1 makes.1.each are (omega arith))
