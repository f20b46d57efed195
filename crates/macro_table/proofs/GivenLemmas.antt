-- In what phase 3 gives no token goes on into those that follow it without white space.
use Rattle.std.proofs.Common.{◌≡◌, ◌≢◌, ℕ, zero, suc, ◌+◌, eqb, Bool, true, false, cond, List, [], ◌∷◌, ◌++◌, length, take, drop, Option, Some, None, refl, sym, ◌∙◌, ap, subst, append_assoc, append-nil}
use Rattle.std.proofs.lemmas.List.{take_at, length-map, map-append}
use Rattle.std.specs.List.{AllByRecursion}
use Rattle.std.specs.Option.{unwrap_or, option_map}
use lib.Chars.{codes}
use Rattle.pp_tokens.specs.declared.line.Line.{Line}
use Rattle.pp_tokens.specs.declared.piece.PieceKind.{PieceKind}
use Rattle.pp_tokens.specs.declared.piece.PieceKind.TheVariants.{Blank, LineEnd, Comment, Word}
use Rattle.pp_tokens.specs.declared.token.Kind.{Kind}
use Rattle.pp_tokens.specs.declared.token.Kind.TheVariants.{Header}
use Rattle.pp_tokens.specs.declared.token.Token.{Token}
use Rattle.pp_tokens.specs.Cleaning.{Char, bytes_of, on_line_one}
use Rattle.pp_tokens.specs.Kinds.{begins, is_blank, kind_of}
use Rattle.pp_tokens.specs.Cut.{LinesSoFar, Piece, no_page, put, put_all, with_token, ended, lines_of, chars_of, longest, longest_within, longer, token_or, header_name, line_rest, up_to_close, piece_at, header_may_stand, AreCut}
use Rattle.pp_tokens.proofs.BothLemmas.{NoEnd, pick, blank_no_end, comment_no_end, token_no_end}
use Rattle.pp_tokens.proofs.SpelledLemmas.{longest_kind}
use Rattle.pp_tokens.proofs.AheadLemmas.{Ahead}
use Rattle.macro_table.specs.DefinitionLaws.{IsNoHeader, IsGiven, of_text, of_file, TextIsReadBack}
use Rattle.macro_table.proofs.AheadLemmas.{run_on, AllAhead, ahead_of, ahead_less}
use Rattle.macro_table.proofs.ListLemmas.{NoNul, IsWhole}
use Rattle.macro_table.proofs.ZeroLemmas.{NoZero, no_zero, zero_front, zero_back, nul_text, cleaned_kept}
use Rattle.macro_table.proofs.ReadBackLemmas.{read_back}

-- a token in front

kind_of_what : Kind → PieceKind → Kind
kind_of_what d (Word k) = k
kind_of_what d Blank = d
kind_of_what d LineEnd = d
kind_of_what d Comment = d

what_of : Option (PieceKind × ℕ) → PieceKind
what_of o = (unwrap_or o (LineEnd, 0)).0

count_in : Option (PieceKind × ℕ) → ℕ
count_in o = (unwrap_or o (LineEnd, 0)).1

longest_by : (o : Option ℕ) (bytes : List ℕ) (found : Option (Kind × ℕ)) (k : Kind) (n : ℕ) → longest bytes ≡ found → token_or o bytes ≡ Some (Word k, n) → (k ≡ Header → ⊥) → longest bytes ≡ Some (k, n)
unfolding what_of count_in kind_of_what
longest_by (Some m) bytes found k n there is other =
    let word : Word Header ≡ Word k = ap what_of is in
    absurd (other (sym (ap (kind_of_what k) word)))
longest_by None bytes None k n there is other = absurd (none _ (ap (option_map {U = PieceKind × ℕ} (λ (f : Kind × ℕ). (Word f.0, f.1))) there) is)
  where
    none : (o : Option (PieceKind × ℕ)) → o ≡ None → o ≡ Some (Word k, n) → ⊥
    none o first second = cc
longest_by None bytes (Some f) k n there is other =
    let found : ◌≡◌ {A = Option (PieceKind × ℕ)} (Some (Word f.0, f.1)) (Some (Word k, n)) = sym (ap (option_map {U = PieceKind × ℕ} (λ (f : Kind × ℕ). (Word f.0, f.1))) there) ∙ is in
    let word : Word f.0 ≡ Word k = ap what_of found in
    let kind : f.0 ≡ k = ap (kind_of_what k) word in
    let count : f.1 ≡ n = ap count_in found in
    there ∙ (λ i. Some (kind i, count i))

-- where a token is in front no comment begins
record Front (bytes : List ℕ) (k : Kind) (n : ℕ) : Type 0 where
  line : begins (codes "//") bytes ≡ false
  block : begins (codes "/*") bytes ≡ false
  is : longest bytes ≡ Some (k, n)

front_by : (b : ℕ) (bs : List ℕ) (header : Bool) (end : PieceKind) (k : Kind) (n : ℕ) (t u v w : Bool) → begins (codes "//") (b ∷ bs) ≡ v → begins (codes "/*") (b ∷ bs) ≡ w → (end ≡ Word k → ⊥) → (k ≡ Header → ⊥) →
    cond t (Some (end, 1)) (cond u (Some (Blank, 1)) (cond v (Some (Comment, suc (line_rest bs))) (cond w (option_map {U = PieceKind × ℕ} (λ n. (Comment, 2 + n)) (up_to_close (drop 1 bs))) (token_or (cond header (header_name (b ∷ bs)) None) (b ∷ bs))))) ≡ Some (Word k, n) → Front (b ∷ bs) k n
unfolding what_of
front_by b bs header end k n true u v w line block no_end other is = absurd (no_end (ap what_of is))
front_by b bs header end k n false true v w line block no_end other is = let wrong : Blank ≡ Word k = ap what_of is in cc
front_by b bs header end k n false false true w line block no_end other is = let wrong : Comment ≡ Word k = ap what_of is in cc
front_by b bs header end k n false false false true line block no_end other is = absurd (by (up_to_close (drop 1 bs)) is)
  where
    by : (o : Option ℕ) → option_map {U = PieceKind × ℕ} (λ n. (Comment, 2 + n)) o ≡ Some (Word k, n) → ⊥
    by None is = cc
    by (Some m) is = let wrong : Comment ≡ Word k = ap what_of is in cc
front_by b bs header end k n false false false false line block no_end other is =
    record { line = line; block = block; is = longest_by _ (b ∷ bs) (longest (b ∷ bs)) k n refl is other }

front_of : (lines header : Bool) (bytes : List ℕ) (k : Kind) (n : ℕ) → (k ≡ Header → ⊥) → piece_at lines header bytes ≡ Some (Word k, n) → Front bytes k n
front_of lines header [] k n other is = cc
front_of lines header (b ∷ bs) k n other is =
    front_by b bs header (cond lines LineEnd Blank) k n (eqb b 10) (is_blank b) _ _ refl refl (ends lines) other is
  where
    ends : (x : Bool) → cond x LineEnd Blank ≡ Word k → ⊥
    ends true same = cc
    ends false same = cc

-- the tokens that pieces put on a line

-- a token that is added after these
abbrev made : LinesSoFar → List Token → Kind → List Char → Token
made page [] kind chars = record { kind = kind; text = bytes_of chars; space = false }
made page (t ∷ ts) kind chars = record { kind = kind; text = bytes_of chars; space = page.space }

abbrev tokens_by : LinesSoFar → PieceKind → List Char → List Token → List Token
tokens_by page Blank chars rest = rest
tokens_by page Comment chars rest = rest
tokens_by page LineEnd chars rest = []
tokens_by page (Word k) chars rest = made page page.tokens k chars ∷ rest

-- the tokens up to the end of the line
abbrev new_tokens : LinesSoFar → List Piece → List Token
new_tokens page [] = []
new_tokens page (p ∷ ps) = tokens_by page p.what p.chars (new_tokens (put page p.what p.chars) ps)

-- a page on whose line a token is
abbrev Filled : LinesSoFar → Type 0
Filled page = (a : Token) × (more : List Token) × (page.tokens ≡ a ∷ more)

filled_by : (page : LinesSoFar) (k : Kind) (chars : List Char) (now : List Token) → page.tokens ≡ now → Filled (with_token page now k chars)
filled_by page k chars [] is = (record { kind = k; text = bytes_of chars; space = false }, [], refl)
filled_by page k chars (t ∷ ts) is = (t, ts ++ record { kind = k; text = bytes_of chars; space = page.space } ∷ [], ap (λ (us : List Token). us ++ record { kind = k; text = bytes_of chars; space = page.space } ∷ []) is)

put_word : (page : LinesSoFar) (now : List Token) (k : Kind) (chars : List Char) → page.tokens ≡ now → (with_token page now k chars).tokens ≡ page.tokens ++ made page now k chars ∷ []
put_word page [] k chars is = ap (λ (ts : List Token). ts ++ record { kind = k; text = bytes_of chars; space = false } ∷ []) (sym is)
put_word page (t ∷ ts) k chars is = refl

word_space : (page : LinesSoFar) (now : List Token) (k : Kind) (chars : List Char) → (with_token page now k chars).space ≡ false
word_space page [] k chars = refl
word_space page (t ∷ ts) k chars = refl

word_lines : (page : LinesSoFar) (now : List Token) (k : Kind) (chars : List Char) → (with_token page now k chars).lines ≡ page.lines
word_lines page [] k chars = refl
word_lines page (t ∷ ts) k chars = refl

made_mark : (page : LinesSoFar) (k : Kind) (chars : List Char) → Filled page → made page page.tokens k chars ≡ record { kind = k; text = bytes_of chars; space = page.space }
made_mark page k chars (a, more, is) = ap (λ (ts : List Token). made page ts k chars) is

made_text : (page : LinesSoFar) (now : List Token) (k : Kind) (chars : List Char) → (made page now k chars).text ≡ bytes_of chars
made_text page [] k chars = refl
made_text page (t ∷ ts) k chars = refl

made_kind : (page : LinesSoFar) (now : List Token) (k : Kind) (chars : List Char) → (made page now k chars).kind ≡ k
made_kind page [] k chars = refl
made_kind page (t ∷ ts) k chars = refl

-- after white space no token goes on
spaced_by : (page : LinesSoFar) (what : PieceKind) (chars : List Char) (ps : List Piece) → Filled page → page.space ≡ true → ((q : LinesSoFar) → Filled q → q.space ≡ true → run_on (new_tokens q ps) ≡ []) → run_on (tokens_by page what chars (new_tokens (put page what chars) ps)) ≡ []
spaced_by page Blank chars ps filled space inner = inner (put page Blank chars) filled refl
spaced_by page Comment chars ps filled space inner = inner (put page Comment chars) filled refl
spaced_by page LineEnd chars ps filled space inner = refl
spaced_by page (Word k) chars ps filled space inner =
    ap (λ (t : Token). run_on (t ∷ new_tokens (put page (Word k) chars) ps)) (made_mark page k chars filled) ∙ ap (λ b. cond b [] (bytes_of chars ++ run_on (new_tokens (put page (Word k) chars) ps))) space

spaced_run : (page : LinesSoFar) (ps : List Piece) → Filled page → page.space ≡ true → run_on (new_tokens page ps) ≡ []
spaced_run page [] filled space = refl
spaced_run page (p ∷ ps) filled space = spaced_by page p.what p.chars ps filled space (λ q. spaced_run q ps)

-- what goes on is what is in front
abbrev Begins : LinesSoFar → List Piece → Type 0
Begins page ps = (z : List ℕ) × (bytes_of (chars_of ps) ≡ run_on (new_tokens page ps) ++ z)

nothing_begins : (ts : List Token) (bytes : List ℕ) → run_on ts ≡ [] → (z : List ℕ) × (bytes ≡ run_on ts ++ z)
nothing_begins ts bytes none = (bytes, ap (λ (x : List ℕ). x ++ bytes) (sym none))

begins_word : (page : LinesSoFar) (k : Kind) (chars : List Char) (ps : List Piece) (b : Bool) → Filled page → page.space ≡ b → Begins (put page (Word k) chars) ps → (z : List ℕ) × (bytes_of (chars ++ chars_of ps) ≡ run_on (made page page.tokens k chars ∷ new_tokens (put page (Word k) chars) ps) ++ z)
begins_word page k chars ps true filled space inner =
    nothing_begins (made page page.tokens k chars ∷ new_tokens (put page (Word k) chars) ps) (bytes_of (chars ++ chars_of ps))
    (ap (λ (t : Token). run_on (t ∷ new_tokens (put page (Word k) chars) ps)) (made_mark page k chars filled) ∙ ap (λ b. cond b [] (bytes_of chars ++ run_on (new_tokens (put page (Word k) chars) ps))) space)
begins_word page k chars ps false filled space (z, is) =
    let rest : List Token = new_tokens (put page (Word k) chars) ps in
    let run : run_on (made page page.tokens k chars ∷ rest) ≡ bytes_of chars ++ run_on rest =
    ap (λ (t : Token). run_on (t ∷ rest)) (made_mark page k chars filled) ∙ ap (λ b. cond b [] (bytes_of chars ++ run_on rest)) space in
    (z, map-append (λ (c : Char). c.byte) chars (chars_of ps) ∙ ap (λ x. bytes_of chars ++ x) is ∙ sym (append_assoc (bytes_of chars) (run_on rest) z) ∙ ap (λ x. x ++ z) (sym run))

begins_by : (page : LinesSoFar) (what : PieceKind) (chars : List Char) (ps : List Piece) → Filled page → ((q : LinesSoFar) → Filled q → Begins q ps) → (z : List ℕ) × (bytes_of (chars ++ chars_of ps) ≡ run_on (tokens_by page what chars (new_tokens (put page what chars) ps)) ++ z)
begins_by page Blank chars ps filled inner = nothing_begins (new_tokens (put page Blank chars) ps) _ (spaced_run (put page Blank chars) ps filled refl)
begins_by page Comment chars ps filled inner = nothing_begins (new_tokens (put page Comment chars) ps) _ (spaced_run (put page Comment chars) ps filled refl)
begins_by page LineEnd chars ps filled inner = (bytes_of (chars ++ chars_of ps), refl)
begins_by page (Word k) chars ps filled inner = begins_word page k chars ps page.space filled refl (inner (put page (Word k) chars) (filled_by page k chars page.tokens refl))

begins_all : (page : LinesSoFar) (ps : List Piece) → Filled page → Begins page ps
begins_all page [] filled = ([], refl)
begins_all page (p ∷ ps) filled = begins_by page p.what p.chars ps filled (λ q. begins_all q ps)

-- What is known of a token from where it is: it has no byte 0, and if it is no header name, it is of its kind and ends there.
record Held (t : Token) (ts : List Token) : Type 0 where
  no_nul : NoNul t.text
  kind : t.kind ≢ Header → kind_of t.text ≡ Some t.kind
  ahead : t.kind ≢ Header → Ahead t.text (run_on ts)

abbrev AllHeld : List Token → Type 0
AllHeld [] = Unit {0}
AllHeld (t ∷ ts) = Held t ts × AllHeld ts

word_front : (lines : Bool) (page : LinesSoFar) (k : Kind) (chars : List Char) (ps : List Piece) → piece_at lines (header_may_stand page.tokens) (bytes_of (chars ++ chars_of ps ++ [])) ≡ Some (Word k, length chars) → k ≢ Header → Front (bytes_of chars ++ bytes_of (chars_of ps)) k (length (bytes_of chars))
word_front lines page k chars ps stands other =
    let whole : bytes_of (chars ++ chars_of ps ++ []) ≡ bytes_of chars ++ bytes_of (chars_of ps) = ap bytes_of (append-nil (chars ++ chars_of ps)) ∙ map-append (λ (c : Char). c.byte) chars (chars_of ps) in
    let long : length (bytes_of chars) ≡ length chars = length-map {B = ℕ} chars (λ (c : Char). c.byte) in
    front_of lines (header_may_stand page.tokens) (bytes_of chars ++ bytes_of (chars_of ps)) k (length (bytes_of chars)) other
    (ap (piece_at lines (header_may_stand page.tokens)) (sym whole) ∙ stands ∙ ap (λ n. Some (Word k, n)) (sym long))

word_held : (lines : Bool) (page : LinesSoFar) (k : Kind) (chars : List Char) (ps : List Piece) → NoZero chars → piece_at lines (header_may_stand page.tokens) (bytes_of (chars ++ chars_of ps ++ [])) ≡ Some (Word k, length chars) →
    (t : Token) → t ≡ made page page.tokens k chars → Held t (new_tokens (put page (Word k) chars) ps)
word_held lines page k chars ps none stands t is =
    let text : t.text ≡ bytes_of chars = ap (λ (u : Token). u.text) is ∙ made_text page page.tokens k chars in
    let own : t.kind ≡ k = ap (λ (u : Token). u.kind) is ∙ made_kind page page.tokens k chars in
    let bytes : List ℕ = bytes_of chars ++ bytes_of (chars_of ps) in
    let front : t.kind ≢ Header → Front bytes k (length (bytes_of chars)) = λ other. word_front lines page k chars ps stands (λ header. other (own ∙ header)) in
    let rest = begins_all (put page (Word k) chars) ps (filled_by page k chars page.tokens refl) in
    record {
      no_nul = subst NoNul (sym text) (nul_text chars none);
      kind = λ other.
          ap kind_of (text ∙ sym (take_at (bytes_of chars) (bytes_of (chars_of ps)) (length (bytes_of chars)) refl)) ∙ longest_kind bytes (length bytes) k (length (bytes_of chars)) (front other).is ∙ ap Some (sym own);
      ahead = λ other.
          let ahead : Ahead (bytes_of chars) (bytes_of (chars_of ps)) = ahead_of (bytes_of chars) (bytes_of (chars_of ps)) k (front other).is (front other).line (front other).block in
          subst (λ x. Ahead x (run_on (new_tokens (put page (Word k) chars) ps))) (sym text) (ahead_less (bytes_of chars) _ rest.0 (subst (Ahead (bytes_of chars)) rest.1 ahead));
    }

held_by : (lines : Bool) (page : LinesSoFar) (what : PieceKind) (chars : List Char) (ps : List Piece) → NoZero chars → piece_at lines (header_may_stand page.tokens) (bytes_of (chars ++ chars_of ps ++ [])) ≡ Some (what, length chars) → AllHeld (new_tokens (put page what chars) ps) → AllHeld (tokens_by page what chars (new_tokens (put page what chars) ps))
held_by lines page Blank chars ps none stands inner = inner
held_by lines page Comment chars ps none stands inner = inner
held_by lines page LineEnd chars ps none stands inner = tt
held_by lines page (Word k) chars ps none stands inner = (word_held lines page k chars ps none stands (made page page.tokens k chars) refl, inner)

new_held : (lines : Bool) (page : LinesSoFar) (ps : List Piece) → NoZero (chars_of ps) → AreCut lines page ps [] → AllHeld (new_tokens page ps)
new_held lines page [] none cut = tt
new_held lines page (p ∷ ps) none cut =
    held_by lines page p.what p.chars ps (zero_front p.chars (chars_of ps) none) cut.0 (new_held lines (put page p.what p.chars) ps (zero_back p.chars (chars_of ps) none) cut.1)

-- the tokens of a text

block_no_end : (o : Option ℕ) → NoEnd (option_map {U = PieceKind × ℕ} (λ n. (Comment, 2 + n)) o)
block_no_end None = tt
block_no_end (Some n) = comment_no_end

text_no_end : (header : Bool) (bytes : List ℕ) → NoEnd (piece_at false header bytes)
text_no_end header [] = tt
text_no_end header (b ∷ bs) =
    pick (eqb b 10) _ _ blank_no_end (pick (is_blank b) _ _ blank_no_end (pick (begins (codes "//") (b ∷ bs)) _ _ comment_no_end (pick (begins (codes "/*") (b ∷ bs)) _ _ (block_no_end (up_to_close (drop 1 bs))) (token_no_end (cond header (header_name (b ∷ bs)) None) (b ∷ bs)))))

text_by : (page : LinesSoFar) (what : PieceKind) (chars : List Char) (ps : List Piece) → what ≢ LineEnd → (put_all (put page what chars) ps).tokens ≡ (put page what chars).tokens ++ new_tokens (put page what chars) ps →
    (put_all (put page what chars) ps).tokens ≡ page.tokens ++ tokens_by page what chars (new_tokens (put page what chars) ps)
text_by page Blank chars ps other inner = inner
text_by page Comment chars ps other inner = inner
text_by page LineEnd chars ps other inner = absurd (other refl)
text_by page (Word k) chars ps other inner =
    inner ∙ ap (λ (ts : List Token). ts ++ new_tokens (put page (Word k) chars) ps) (put_word page page.tokens k chars refl) ∙ append_assoc page.tokens (made page page.tokens k chars ∷ []) (new_tokens (put page (Word k) chars) ps)

text_tokens : (page : LinesSoFar) (ps : List Piece) → AreCut false page ps [] → (put_all page ps).tokens ≡ page.tokens ++ new_tokens page ps
text_tokens page [] cut = sym (append-nil page.tokens)
text_tokens page (p ∷ ps) cut =
    text_by page p.what p.chars ps (subst NoEnd cut.0 (text_no_end (header_may_stand page.tokens) (bytes_of (p.chars ++ chars_of ps ++ [])))) (text_tokens (put page p.what p.chars) ps cut.1)

-- the lines of a file

abbrev LineHeld : Line → Type 0
LineHeld l = AllHeld l.tokens

-- the line that is begun, and those after it
record Rest (page : LinesSoFar) (final : LinesSoFar) (new : List Token) : Type 0 where
  number : ℕ
  others : List Line
  is : lines_of final ≡ ended page.lines number (page.tokens ++ new) ++ others
  all_held : AllByRecursion LineHeld others

ended_behind : (lines : List Line) (number : ℕ) (ts : List Token) → ended lines number ts ≡ lines ++ ended [] number ts
ended_behind lines number [] = sym (append-nil lines)
ended_behind lines number (t ∷ ts) = refl

one_line : (number : ℕ) (ts : List Token) (others : List Line) → AllHeld ts → AllByRecursion LineHeld others → AllByRecursion LineHeld (ended [] number ts ++ others)
one_line number [] others ahead all = all
one_line number (t ∷ ts) others ahead all = (ahead, all)

rest_by : (page : LinesSoFar) (what : PieceKind) (chars : List Char) (ps : List Piece) → AllHeld (new_tokens (put page what chars) ps) → Rest (put page what chars) (put_all (put page what chars) ps) (new_tokens (put page what chars) ps) →
    Rest page (put_all (put page what chars) ps) (tokens_by page what chars (new_tokens (put page what chars) ps))
rest_by page Blank chars ps ahead inner = record { number = inner.number; others = inner.others; is = inner.is; all_held = inner.all_held }
rest_by page Comment chars ps ahead inner = record { number = inner.number; others = inner.others; is = inner.is; all_held = inner.all_held }
rest_by page LineEnd chars ps ahead inner =
    let new : List Token = new_tokens (put page LineEnd chars) ps in
    record {
      number = page.number;
      others = ended [] inner.number new ++ inner.others;
      is =
          inner.is ∙ ap (λ (ls : List Line). ls ++ inner.others) (ended_behind (lines_of page) inner.number new) ∙ append_assoc (lines_of page) (ended [] inner.number new) inner.others
          ∙ ap (λ (ts : List Token). ended page.lines page.number ts ++ (ended [] inner.number new ++ inner.others)) (sym (append-nil page.tokens));
      all_held = one_line inner.number new inner.others ahead inner.all_held;
    }
rest_by page (Word k) chars ps ahead inner =
    let next : LinesSoFar = put page (Word k) chars in
    let new : List Token = new_tokens next ps in
    record {
      number = inner.number;
      others = inner.others;
      is =
          inner.is ∙ ap (λ (ls : List Line). ended ls inner.number (next.tokens ++ new) ++ inner.others) (word_lines page page.tokens k chars)
          ∙ ap (λ (ts : List Token). ended page.lines inner.number ts ++ inner.others) (ap (λ (ts : List Token). ts ++ new) (put_word page page.tokens k chars refl) ∙ append_assoc page.tokens (made page page.tokens k chars ∷ []) new);
      all_held = inner.all_held;
    }

rest_of : (page : LinesSoFar) (ps : List Piece) → NoZero (chars_of ps) → AreCut true page ps [] → Rest page (put_all page ps) (new_tokens page ps)
rest_of page [] none cut = record {
  number = page.number;
  others = [];
  is = ap (ended page.lines page.number) (sym (append-nil page.tokens)) ∙ sym (append-nil _);
  all_held = tt;
}
rest_of page (p ∷ ps) none cut =
    let behind = zero_back p.chars (chars_of ps) none in
    rest_by page p.what p.chars ps (new_held true (put page p.what p.chars) ps behind cut.1) (rest_of (put page p.what p.chars) ps behind cut.1)

line_at : (before : List Line) (l : Line) (behind : List Line) → AllByRecursion LineHeld (before ++ l ∷ behind) → LineHeld l
line_at [] l behind all = all.0
line_at (b ∷ before) l behind all = line_at before l behind all.1

-- what was given

held_back : (front ts : List Token) → AllHeld (front ++ ts) → AllHeld ts
held_back [] ts all = all
held_back (t ∷ front) ts all = held_back front ts all.1

all_ahead : (ts : List Token) → AllByRecursion IsNoHeader ts → AllHeld ts → AllAhead ts
all_ahead [] all held = tt
all_ahead (t ∷ ts) all held = (held.0.ahead all.0, all_ahead ts all.1 held.1)

all_whole : (ts : List Token) → AllByRecursion IsNoHeader ts → AllHeld ts → AllByRecursion IsWhole ts
all_whole [] all held = tt
all_whole (t ∷ ts) all held = (record { kind = held.0.kind all.0; no_nul = held.0.no_nul }, all_whole ts all.1 held.1)

given_held : (tokens : List Token) → IsGiven tokens → AllHeld tokens
given_held tokens (of_text text front (no_nul, page, (pieces, cut, final), are)) =
    let none = zero_front (chars_of pieces) [] (subst NoZero cut.whole (no_zero (on_line_one text) no_nul)) in
    let whole : front ++ tokens ≡ new_tokens no_page pieces = are ∙ ap (λ (p : LinesSoFar). p.tokens) final ∙ text_tokens no_page pieces cut.each in
    held_back front tokens (subst AllHeld (sym whole) (new_held false no_page pieces none cut.each))
given_held tokens (of_file file before behind number front (no_nul, page, (pieces, cut, final), are)) =
    let none = zero_front (chars_of pieces) [] (subst NoZero cut.whole (cleaned_kept file no_nul)) in
    let rest = rest_of no_page pieces none cut.each in
    let whole = are ∙ ap lines_of final ∙ rest.is in
    let all = one_line rest.number (new_tokens no_page pieces) rest.others (new_held true no_page pieces none cut.each) rest.all_held in
    held_back front tokens (line_at before (record { number = number; tokens = front ++ tokens }) behind (subst (AllByRecursion LineHeld) (sym whole) all))

pub text_is_read_back : TextIsReadBack
text_is_read_back tokens def given all is =
    let held = given_held tokens given in
    read_back tokens def (all_whole tokens all held) (all_ahead tokens all held) is
