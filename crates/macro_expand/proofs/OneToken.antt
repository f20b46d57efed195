-- Which texts spell one token, from what phase 3 says of them.
use Rattle.std.proofs.Common.{◌≡◌, ◌≢◌, ℕ, ◌+◌, ◌≤◌, Bool, true, false, cond, List, [], ◌∷◌, ◌++◌, length, take, drop, zero, suc, Option, Some, None, Result, Ok, Err, refl, sym, ◌∙◌, ap, subst, arith, length-append, bytes_eq}
use Rattle.std.specs.Prelude.{◌==◌}
use Rattle.std.specs.Option.{option_map}
use lib.Chars.{codes}
use Rattle.std.proofs.lemmas.Bool.{cond_both, cond-true, cond-false}
use Rattle.std.proofs.lemmas.List.{length-map}
use Rattle.std.proofs.Math.Seq.{take-length}
use Rattle.std.proofs.lemmas.Slice.Eq.{bytes_eq-Decides}
use Rattle.pp_tokens.specs.declared.piece.PieceKind.{PieceKind}
use Rattle.pp_tokens.specs.declared.piece.PieceKind.TheVariants.{Blank, LineEnd, Comment, Word}
use Rattle.pp_tokens.specs.declared.token.Kind.{Kind}
use Rattle.pp_tokens.specs.declared.token.Kind.TheVariants.{Identifier, Number, Char as Constant, Str, Punct, Header, LoneQuote, Other}
use Rattle.pp_tokens.specs.declared.token.Token.{Token}
use Rattle.pp_tokens.specs.declared.fault.LexFault.{LexFault}
use Rattle.pp_tokens.specs.Cleaning.{Char, bytes_of, on_line_one, first_nul}
use Rattle.pp_tokens.specs.Kinds.{kind_of, is_blank, begins}
use Rattle.pp_tokens.specs.Cut.{LinesSoFar, Piece, no_page, put, put_all, with_token, chars_of, longer, longest_within, longest, up_to_close, line_rest, token_at, token_or, header_name, piece_at, header_may_stand, IsCut, LexesText}
use Rattle.pp_tokens.specs.Printing.{SameTokens}
use Rattle.pp_tokens.specs.Laws.{IsAnswer}
use Rattle.mac_base.proofs.Choices.{same_ok}
use Rattle.pp_tokens.proofs.BothLemmas.{bytes_back}
use Rattle.pp_tokens.proofs.ReadBackLemmas.{printed-read_back}
use Rattle.pp_tokens.proofs.UniqueLemmas.{head_of}
use Rattle.pp_tokens.proofs.ScanLemmas.{piece-fits}
use Rattle.macro_expand.specs.Marked.{is_lone_quote, sound_kind, kind_unless, one_kind}
use Rattle.macro_expand.specs.States.{kind_of_only}

-- what this kind of a whole text makes of the tokens of the text
sound : (o : Option Kind) (k : Kind) → sound_kind o ≡ Some k → (o ≡ Some k) × (is_lone_quote k ≡ false)
sound None k h = cc
sound (Some j) k h = go (is_lone_quote j) refl h
  where
    go : (t : Bool) → is_lone_quote j ≡ t → cond t None (Some j) ≡ Some k → (Some j ≡ Some k) × (is_lone_quote k ≡ false)
    go true e h = cc
    go false e h = (h, subst (λ z. is_lone_quote z ≡ false) (some_same j k h) e)
      where
        some_same : (a b : Kind) → Some a ≡ Some b → a ≡ b
        some_same a b h = cc

-- no quote that nothing closes
no_lone : (k : Kind) → is_lone_quote k ≡ false → k ≢ LoneQuote
no_lone Identifier h = λ e. cc
no_lone Number h = λ e. cc
no_lone Constant h = λ e. cc
no_lone Str h = λ e. cc
no_lone Punct h = λ e. cc
no_lone Header h = λ e. cc
no_lone LoneQuote h = cc
no_lone Other h = λ e. cc

-- a text that spells one token is read as that token
reads_one : (text : List ℕ) (k : Kind) (answer : Result (List Token) LexFault) → one_kind text ≡ Some k → IsAnswer answer → LexesText text answer →
    (found : List Token) × (answer ≡ Ok found) × SameTokens found (record { kind = k; text = text; space = false } ∷ [])
reads_one text k answer one given lexed = go (first_nul (on_line_one text)) refl one
  where
    go : (o : Option ℕ) → first_nul (on_line_one text) ≡ o → kind_unless o text ≡ Some k → (found : List Token) × (answer ≡ Ok found) × SameTokens found (record { kind = k; text = text; space = false } ∷ [])
    go (Some line) e h = cc
    go None e h =
        let s = sound (kind_of text) k h in
        printed-read_back (record { kind = k; text = text; space = false } ∷ []) text answer (record { kind = s.0; no_lone = no_lone k s.1; no_nul = e }, tt) refl refl given lexed

-- then the only one of the tokens says the kind
only_one : (text : List ℕ) (k : Kind) (found : List Token) → one_kind text ≡ Some k → SameTokens found (record { kind = k; text = text; space = false } ∷ []) → kind_of_only found text ≡ Some k
only_one text k [] one same = absurd same
only_one text k (t ∷ u ∷ ts) one same = absurd same.1
only_one text k (t ∷ []) one same = go (first_nul (on_line_one text)) one
  where
    go : (o : Option ℕ) → kind_unless o text ≡ Some k → kind_of_only (t ∷ []) text ≡ Some k
    go (Some line) h = cc
    go None h =
        cond-true (bytes_eq t.text text) (sound_kind (Some t.kind)) None ((bytes_eq-Decides t.text text).1 same.0.text)
        ∙ ap (λ j. sound_kind (Some j)) same.0.kind ∙ cond-false (is_lone_quote k) None (Some k) (sound (kind_of text) k h).1

-- The other way: the lengths of the tokens of a page.

abbrev total : List Token → ℕ
total [] = 0
total (t ∷ ts) = length t.text + total ts

total-append : (ts us : List Token) → total (ts ++ us) ≡ total ts + total us
total-append [] us = omega arith
total-append (t ∷ ts) us = omega (arith, total-append ts us)

put_total : (page : LinesSoFar) (what : PieceKind) (chars : List Char) → total (put page what chars).tokens ≤ total page.tokens + length chars
put_total page Blank chars = omega arith
put_total page Comment chars = omega arith
put_total page LineEnd chars = omega arith
put_total page (Word kind) chars = with_total page.tokens refl
  where
    with_total : (ts : List Token) → page.tokens ≡ ts → total (with_token page ts kind chars).tokens ≤ total page.tokens + length chars
    with_total [] e = omega (arith, length-map chars (λ (c : Char). c.byte))
    with_total (t ∷ ts) e = omega (arith, length-map chars (λ (c : Char). c.byte), total-append page.tokens (record { kind = kind; text = bytes_of chars; space = page.space } ∷ []))

all_total : (ps : List Piece) (page : LinesSoFar) → total (put_all page ps).tokens ≤ total page.tokens + length (chars_of ps)
all_total [] page = omega arith
all_total (p ∷ ps) page = omega (arith, all_total ps (put page p.what p.chars), put_total page p.what p.chars, length-append p.chars (chars_of ps))

-- The pieces of a text alone.

-- no line ends, and a token has the kind that its text spells
abbrev IsGood : List ℕ → Option (PieceKind × ℕ) → Type 0
IsGood bytes None = Unit {0}
IsGood bytes (Some (Blank, n)) = Unit {0}
IsGood bytes (Some (Comment, n)) = Unit {0}
IsGood bytes (Some (LineEnd, n)) = ⊥
IsGood bytes (Some (Word k, n)) = kind_of (take n bytes) ≡ Some k

abbrev HasKind : List ℕ → Option (Kind × ℕ) → Type 0
HasKind bytes None = Unit {0}
HasKind bytes (Some (k, n)) = kind_of (take n bytes) ≡ Some k

longer_kind : (bytes : List ℕ) (n : ℕ) (o : Option Kind) (r : Option (Kind × ℕ)) → kind_of (take n bytes) ≡ o → HasKind bytes r → HasKind bytes (longer o n r)
longer_kind bytes n None r e h = h
longer_kind bytes n (Some k) r e h = e

within_kind : (bytes : List ℕ) (m : ℕ) → HasKind bytes (longest_within bytes m)
within_kind bytes zero = tt
within_kind bytes (suc m) = longer_kind bytes (suc m) (kind_of (take (suc m) bytes)) (longest_within bytes m) refl (within_kind bytes m)

token_good : (bytes : List ℕ) (o : Option (Kind × ℕ)) → HasKind bytes o → IsGood bytes (option_map (λ (found : Kind × ℕ). (Word found.0, found.1)) o)
token_good bytes None h = tt
token_good bytes (Some (k, n)) h = h

comment_good : (bytes : List ℕ) (o : Option ℕ) → IsGood bytes (option_map (λ n. (Comment, 2 + n)) o)
comment_good bytes None = tt
comment_good bytes (Some n) = tt

piece_good : (bytes : List ℕ) → IsGood bytes (piece_at false false bytes)
piece_good [] = tt
piece_good (b ∷ bs) =
    let token : Option (PieceKind × ℕ) = token_at false (b ∷ bs) in
    let open_comment : Option (PieceKind × ℕ) = option_map (λ n. (Comment, 2 + n)) (up_to_close (drop 1 bs)) in
    let third : Option (PieceKind × ℕ) = cond (begins (codes "/*") (b ∷ bs)) open_comment token in
    let second : Option (PieceKind × ℕ) = cond (begins (codes "//") (b ∷ bs)) (Some (Comment, suc (line_rest bs))) third in
    let first : Option (PieceKind × ℕ) = cond (is_blank b) (Some (Blank, 1)) second in
    cond_both (b == 10) (Some (Blank, 1)) first (IsGood (b ∷ bs)) (λ e. tt)
    (λ e. cond_both (is_blank b) (Some (Blank, 1)) second (IsGood (b ∷ bs)) (λ e. tt)
    (λ e. cond_both (begins (codes "//") (b ∷ bs)) (Some (Comment, suc (line_rest bs))) third (IsGood (b ∷ bs)) (λ e. tt)
    (λ e. cond_both (begins (codes "/*") (b ∷ bs)) open_comment token (IsGood (b ∷ bs)) (λ e. comment_good (b ∷ bs) (up_to_close (drop 1 bs)))
    (λ e. token_good (b ∷ bs) (longest (b ∷ bs)) (within_kind (b ∷ bs) (length (b ∷ bs)))))))

-- the tokens begin with this one
abbrev Begins : Token → List Token → Type 0
Begins t ts = (us : List Token) × (ts ≡ t ∷ us)

abbrev NoLine : Option (PieceKind × ℕ) → Type 0
NoLine None = Unit {0}
NoLine (Some (Blank, n)) = Unit {0}
NoLine (Some (Comment, n)) = Unit {0}
NoLine (Some (LineEnd, n)) = ⊥
NoLine (Some (Word k, n)) = Unit {0}

longest_no_line : (o : Option (Kind × ℕ)) → NoLine (option_map (λ (found : Kind × ℕ). (Word found.0, found.1)) o)
longest_no_line None = tt
longest_no_line (Some (k, n)) = tt

token_no_line : (o : Option ℕ) (bytes : List ℕ) → NoLine (token_or o bytes)
token_no_line None bytes = longest_no_line (longest bytes)
token_no_line (Some n) bytes = tt

comment_no_line : (o : Option ℕ) → NoLine (option_map (λ n. (Comment, 2 + n)) o)
comment_no_line None = tt
comment_no_line (Some n) = tt

piece_no_line : (header : Bool) (bytes : List ℕ) → NoLine (piece_at false header bytes)
piece_no_line header [] = tt
piece_no_line header (b ∷ bs) =
    let token : Option (PieceKind × ℕ) = token_at header (b ∷ bs) in
    let open_comment : Option (PieceKind × ℕ) = option_map (λ n. (Comment, 2 + n)) (up_to_close (drop 1 bs)) in
    let third : Option (PieceKind × ℕ) = cond (begins (codes "/*") (b ∷ bs)) open_comment token in
    let second : Option (PieceKind × ℕ) = cond (begins (codes "//") (b ∷ bs)) (Some (Comment, suc (line_rest bs))) third in
    let first : Option (PieceKind × ℕ) = cond (is_blank b) (Some (Blank, 1)) second in
    cond_both (b == 10) (Some (Blank, 1)) first NoLine (λ e. tt)
    (λ e. cond_both (is_blank b) (Some (Blank, 1)) second NoLine (λ e. tt)
    (λ e. cond_both (begins (codes "//") (b ∷ bs)) (Some (Comment, suc (line_rest bs))) third NoLine (λ e. tt)
    (λ e. cond_both (begins (codes "/*") (b ∷ bs)) open_comment token NoLine (λ e. comment_no_line (up_to_close (drop 1 bs)))
    (λ e. token_no_line (cond header (header_name (b ∷ bs)) None) (b ∷ bs)))))

no_line : (header : Bool) (bytes : List ℕ) (n : ℕ) → piece_at false header bytes ≡ Some (LineEnd, n) → ⊥
no_line header bytes n e = subst NoLine e (piece_no_line header bytes)

keeps : (ps : List Piece) (page : LinesSoFar) (chars : List Char) (t : Token) → IsCut false page chars ps [] → Begins t page.tokens → Begins t (put_all page ps).tokens
keeps [] page chars t cut b = b
keeps (p ∷ ps) page chars t cut b = keeps ps (put page p.what p.chars) (drop (length p.chars) chars) t (head_of false page chars p ps [] cut).behind (kept p.what refl b)
  where
    kept : (what : PieceKind) → p.what ≡ what → Begins t page.tokens → Begins t (put page what p.chars).tokens
    kept Blank e b = b
    kept Comment e b = b
    kept LineEnd e b = absurd (no_line (header_may_stand page.tokens) (bytes_of chars) (length p.chars) ((head_of false page chars p ps [] cut).stands ∙ ap (λ w. Some (w, length p.chars)) e))
    kept (Word k) e b = (
      b.0 ++ record { kind = k; text = bytes_of p.chars; space = page.space } ∷ [],
      ap (λ (l : List Token). (with_token page l k p.chars).tokens) b.1 ∙ ap (λ (l : List Token). l ++ record { kind = k; text = bytes_of p.chars; space = page.space } ∷ []) b.1,
    )

whole_length : (text : List ℕ) (p : Piece) (ps : List Piece) → IsCut false no_page (on_line_one text) (p ∷ ps) [] → length text ≡ length p.chars + length (chars_of ps)
whole_length text p ps cut =
    omega (arith, length-map {B = Char} text (λ b. record { byte = b; line = 1 }), ap length cut.whole, length-append p.chars (chars_of ps), length-append (p.chars ++ chars_of ps) [])

-- a text whose tokens are one with its own text has that one's kind
lone_kind : (text : List ℕ) (t : Token) (pieces : List Piece) → IsCut false no_page (on_line_one text) pieces [] → (put_all no_page pieces).tokens ≡ t ∷ [] → t.text ≡ text → kind_of text ≡ Some t.kind
lone_kind text t [] cut are same = cc
lone_kind text t (p ∷ ps) cut are same = by_what p.what refl
  where
    head : piece_at false false text ≡ Some (p.what, length p.chars)
    head = ap (piece_at false false) (sym (bytes_back text)) ∙ (head_of false no_page (on_line_one text) p ps [] cut).stands

    long : 1 ≤ length p.chars
    long = (piece-fits false false (on_line_one text) p.what (length p.chars) (head_of false no_page (on_line_one text) p ps [] cut).stands).0

    shorter : (page : LinesSoFar) → page.tokens ≡ [] → (put_all page ps).tokens ≡ t ∷ [] → ⊥
    shorter page none e =
        let less : total (put_all page ps).tokens ≤ total page.tokens + length (chars_of ps) = all_total ps page in
        let sum : total (put_all page ps).tokens ≡ length text = ap total e ∙ (omega (arith, ap length same)) in
        omega (arith, less, sum, ap total none, whole_length text p ps cut, long)

    by_word : (k : Kind) → p.what ≡ Word k → Begins (record { kind = k; text = bytes_of p.chars; space = false }) (t ∷ []) → kind_of text ≡ Some t.kind
    by_word k e b =
        let first : record { kind = k; text = bytes_of p.chars; space = false } ≡ t = first_same _ t b.0 [] (sym b.1) in
        let all : length p.chars ≡ length text = omega (arith, length-map p.chars (λ (c : Char). c.byte), ap (λ (u : Token). length u.text) first, ap length same) in
        let good : kind_of (take (length p.chars) text) ≡ Some k = subst (IsGood text) (head ∙ ap (λ w. Some (w, length p.chars)) e) (piece_good text) in
        ap kind_of (sym (ap (λ n. take n text) all ∙ take-length text)) ∙ good ∙ ap (λ (u : Token). Some u.kind) first
      where
        first_same : (x y : Token) (xs ys : List Token) → x ∷ xs ≡ y ∷ ys → x ≡ y
        first_same x y xs ys e = cc

    by_what : (what : PieceKind) → p.what ≡ what → kind_of text ≡ Some t.kind
    by_what Blank e = absurd (shorter (put no_page p.what p.chars) (ap (λ w. (put no_page w p.chars).tokens) e) are)
    by_what Comment e = absurd (shorter (put no_page p.what p.chars) (ap (λ w. (put no_page w p.chars).tokens) e) are)
    by_what LineEnd e = absurd (no_line false text (length p.chars) (head ∙ ap (λ w. Some (w, length p.chars)) e))
    by_what (Word k) e = by_word k e (subst (Begins (record { kind = k; text = bytes_of p.chars; space = false })) are
        (keeps ps (put no_page p.what p.chars) (drop (length p.chars) (on_line_one text)) (record { kind = k; text = bytes_of p.chars; space = false }) (head_of false no_page (on_line_one text) p ps [] cut).behind (begins_there k e)))
      where
        begins_there : (k : Kind) → p.what ≡ Word k → Begins (record { kind = k; text = bytes_of p.chars; space = false }) (put no_page p.what p.chars).tokens
        begins_there k e = ([], ap (λ w. (put no_page w p.chars).tokens) e)

-- the kind of a text, from its tokens
pub kind_given : (text : List ℕ) (tokens : List Token) → LexesText text (Ok tokens) → kind_of_only tokens text ≡ one_kind text
kind_given text tokens lexed = go (one_kind text) refl
  where
    other : (ts : List Token) → tokens ≡ ts → one_kind text ≡ None → kind_of_only ts text ≡ None
    other [] e n = refl
    other (t ∷ u ∷ ts) e n = refl
    other (t ∷ []) e n = by (bytes_eq t.text text) refl
      where
        by : (b : Bool) → bytes_eq t.text text ≡ b → cond b (sound_kind (Some t.kind)) None ≡ None
        by false h = refl
        by true h =
            ap sound_kind (sym (lone_kind text t lexed.2.0 lexed.2.1 (ap (λ (p : LinesSoFar). p.tokens) (sym lexed.2.2) ∙ sym lexed.3 ∙ e) ((bytes_eq-Decides t.text text).0 h)))
            ∙ sym (ap (λ o. kind_unless o text) lexed.0) ∙ n

    go : (o : Option Kind) → one_kind text ≡ o → kind_of_only tokens text ≡ o
    go None n = other tokens refl n
    go (Some k) one =
        let read = reads_one text k (Ok tokens) one tt lexed in
        only_one text k tokens one (subst (λ ts. SameTokens ts (record { kind = k; text = text; space = false } ∷ [])) (same_ok {E = LexFault} read.0 tokens (sym read.1)) read.2)

-- a text without tokens has none
pub none_given : (text : List ℕ) (fault : LexFault) → IsAnswer {A = List Token} (Err fault) → LexesText text (Err fault) → None ≡ one_kind text
none_given text fault given lexed = go (one_kind text) refl
  where
    go : (o : Option Kind) → one_kind text ≡ o → None ≡ o
    go None e = refl
    go (Some k) e = let read = reads_one text k (Err fault) e given lexed in never read.0 read.1
      where
        never : (ts : List Token) → ◌≡◌ {A = Result (List Token) LexFault} (Err fault) (Ok ts) → None ≡ Some k
        never ts e = cc
