-- Two texts that give both tokens: the first is the longest token there.
use Rattle.std.proofs.Common.{◌≡◌, ◌≢◌, ℕ, zero, suc, ◌+◌, ◌≤◌, ◌<◌, eqb, Bool, true, false, cond, List, [], ◌∷◌, ◌++◌, length, take, drop, Option, Some, None, refl, sym, ◌∙◌, ap, subst, arith, length-append}
use Rattle.std.proofs.lemmas.List.{length-map}
use Rattle.std.specs.Option.{unwrap_or, option_map}
use borrow.Author.Tests.{eqb-true, eqb-false}
use lib.Chars.{codes}
use Rattle.pp_tokens.specs.declared.piece.PieceKind.{PieceKind}
use Rattle.pp_tokens.specs.declared.piece.PieceKind.TheVariants.{Blank, LineEnd, Comment, Word}
use Rattle.pp_tokens.specs.declared.token.Kind.{Kind}
use Rattle.pp_tokens.specs.declared.token.Kind.TheVariants.{Header}
use Rattle.pp_tokens.specs.declared.token.Token.{Token}
use Rattle.pp_tokens.specs.Cleaning.{Char, bytes_of, on_line_one}
use Rattle.pp_tokens.specs.Kinds.{begins, is_blank, kind_of}
use Rattle.pp_tokens.specs.Cut.{longest, longest_within, longer, token_or, header_name, line_rest, up_to_close, piece_at, Piece, LinesSoFar, no_page, put, put_all, with_token, chars_of, header_may_stand, AreCut, IsCut}
use Rattle.pp_tokens.specs.Printing.{SameTokens, GivesBoth}
use Rattle.pp_tokens.proofs.ScanLemmas.{Within, piece-within}
use Rattle.pp_tokens.proofs.UniqueLemmas.{head_of}

pub bytes_back : (s : List ℕ) → bytes_of (on_line_one s) ≡ s
bytes_back [] = refl
bytes_back (b ∷ bs) = ap (λ xs. b ∷ xs) (bytes_back bs)

what_of : Option (PieceKind × ℕ) → PieceKind
what_of o = (unwrap_or o (LineEnd, 0)).0

count_in : Option (PieceKind × ℕ) → ℕ
count_in o = (unwrap_or o (LineEnd, 0)).1

-- a token in front: no comment begins, and the token is the longest
front_by : (t u v w : Bool) (m : ℕ) (o : Option ℕ) (r : Option (Kind × ℕ)) (k : Kind) (n : ℕ) →
    cond t (Some (Blank, 1)) (cond u (Some (Blank, 1)) (cond v (Some (Comment, m)) (cond w (option_map {U = PieceKind × ℕ} (λ n. (Comment, 2 + n)) o) (option_map {U = PieceKind × ℕ} (λ (f : Kind × ℕ). (Word f.0, f.1)) r)))) ≡ Some (Word k, n) →
    (v ≡ false) × (w ≡ false) × (r ≡ Some (k, n))
unfolding what_of count_in
front_by true u v w m o r k n is = let wrong : Blank ≡ Word k = ap what_of is in cc
front_by false true v w m o r k n is = let wrong : Blank ≡ Word k = ap what_of is in cc
front_by false false true w m o r k n is = let wrong : Comment ≡ Word k = ap what_of is in cc
front_by false false false true m None r k n is = cc
front_by false false false true m (Some x) r k n is = let wrong : Comment ≡ Word k = ap what_of is in cc
front_by false false false false m o None k n is = cc
front_by false false false false m o (Some f) k n is =
    let word : Word f.0 ≡ Word k = ap what_of is in
    let kind : f.0 ≡ k = cc in
    let count : f.1 ≡ n = ap count_in is in
    (refl, refl, λ i. Some (kind i, count i))

pub word_front : (b : ℕ) (bs : List ℕ) (k : Kind) (n : ℕ) → piece_at false false (b ∷ bs) ≡ Some (Word k, n) → (begins (codes "//") (b ∷ bs) ≡ false) × (begins (codes "/*") (b ∷ bs) ≡ false) × (longest (b ∷ bs) ≡ Some (k, n))
word_front b bs k n is = front_by (eqb b 10) (is_blank b) (begins (codes "//") (b ∷ bs)) (begins (codes "/*") (b ∷ bs)) (suc (line_rest bs)) (up_to_close (drop 1 bs)) (longest (b ∷ bs)) k n is

-- nothing longer has a kind
none_step : (bytes : List ℕ) (m : ℕ) (o : Option Kind) (k : Kind) (n : ℕ) → kind_of (take (suc m) bytes) ≡ o → longer o (suc m) (longest_within bytes m) ≡ Some (k, n) → (longest_within bytes m ≡ Some (k, n) → (i : ℕ) → n < i → i ≤ m → kind_of (take i bytes) ≡ None) →
    (i : ℕ) → n < i → i ≤ suc m → (x : Bool) → eqb i (suc m) ≡ x → kind_of (take i bytes) ≡ None
none_step bytes m (Some kind) k n here is inner i more most x same =
    let far : suc m ≡ n = ap (λ (o : Option (Kind × ℕ)). (unwrap_or o (k, 0)).1) is in absurd (omega arith)
none_step bytes m None k n here is inner i more most true same = let equal : i ≡ suc m = eqb-true i (suc m) same in ap (λ j. kind_of (take j bytes)) equal ∙ here
none_step bytes m None k n here is inner i more most false same = let apart = eqb-false i (suc m) same in inner is i more (omega arith)

pub longest-none : (bytes : List ℕ) (m : ℕ) (k : Kind) (n : ℕ) → longest_within bytes m ≡ Some (k, n) → (i : ℕ) → n < i → i ≤ m → kind_of (take i bytes) ≡ None
longest-none bytes zero k n is i more most = cc
longest-none bytes (suc m) k n is i more most = none_step bytes m (kind_of (take (suc m) bytes)) k n refl is (longest-none bytes m k n) i more most (eqb i (suc m)) refl

-- in one text no line ends
abbrev pub NoEnd : Option (PieceKind × ℕ) → Type 0
NoEnd None = Unit {0}
NoEnd (Some x) = x.0 ≢ LineEnd

pub pick : (t : Bool) (x y : Option (PieceKind × ℕ)) → NoEnd x → NoEnd y → NoEnd (cond t x y)
pick true x y first second = first
pick false x y first second = second

pub blank_no_end : Blank ≢ LineEnd
blank_no_end is = cc

pub comment_no_end : Comment ≢ LineEnd
comment_no_end is = cc

word_no_end : (k : Kind) → Word k ≢ LineEnd
word_no_end k is = cc

pub token_no_end : (o : Option ℕ) (bytes : List ℕ) → NoEnd (token_or o bytes)
token_no_end (Some n) bytes = word_no_end Header
token_no_end None bytes = by (longest bytes)
  where
    by : (r : Option (Kind × ℕ)) → NoEnd (option_map {U = PieceKind × ℕ} (λ (f : Kind × ℕ). (Word f.0, f.1)) r)
    by None = tt
    by (Some f) = word_no_end f.0

piece_no_end : (header : Bool) (bytes : List ℕ) → NoEnd (piece_at false header bytes)
piece_no_end header [] = tt
piece_no_end header (b ∷ bs) =
    pick (eqb b 10) _ _ blank_no_end (pick (is_blank b) _ _ blank_no_end (pick (begins (codes "//") (b ∷ bs)) _ _ comment_no_end (pick (begins (codes "/*") (b ∷ bs)) _ _ (by (up_to_close (drop 1 bs))) (token_no_end (cond header (header_name (b ∷ bs)) None) (b ∷ bs)))))
  where
    by : (o : Option ℕ) → NoEnd (option_map {U = PieceKind × ℕ} (λ n. (Comment, 2 + n)) o)
    by None = tt
    by (Some n) = comment_no_end

pub no_line_end : (header : Bool) (bytes : List ℕ) (n : ℕ) → piece_at false header bytes ≡ Some (LineEnd, n) → ⊥
no_line_end header bytes n is = subst NoEnd is (piece_no_end header bytes) refl

-- the first token stays the first
kept_word : (page : LinesSoFar) (a : Token) (ts now : List Token) (kind : Kind) (chars : List Char) → page.tokens ≡ now → now ≡ a ∷ ts → (more : List Token) × ((with_token page now kind chars).tokens ≡ a ∷ more)
kept_word page a ts [] kind chars is some = cc
kept_word page a ts (x ∷ xs) kind chars is some = (ts ++ record { kind = kind; text = bytes_of chars; space = page.space } ∷ [], ap (λ (ys : List Token). ys ++ record { kind = kind; text = bytes_of chars; space = page.space } ∷ []) (is ∙ some))

kept_put : (page : LinesSoFar) (a : Token) (ts : List Token) (what : PieceKind) (chars : List Char) → what ≢ LineEnd → page.tokens ≡ a ∷ ts → (more : List Token) × ((put page what chars).tokens ≡ a ∷ more)
kept_put page a ts Blank chars not_end is = (ts, is)
kept_put page a ts Comment chars not_end is = (ts, is)
kept_put page a ts LineEnd chars not_end is = absurd (not_end refl)
kept_put page a ts (Word kind) chars not_end is = kept_word page a ts page.tokens kind chars refl is

first_kept : (page : LinesSoFar) (a : Token) (ts : List Token) (pieces : List Piece) (rest : List Char) → AreCut false page pieces rest → page.tokens ≡ a ∷ ts → (more : List Token) × ((put_all page pieces).tokens ≡ a ∷ more)
first_kept page a ts [] rest cut is = (ts, is)
first_kept page a ts (p ∷ ps) rest cut is =
    let next = kept_put page a ts p.what p.chars (λ end. no_line_end (header_may_stand page.tokens) (bytes_of (p.chars ++ chars_of ps ++ rest)) (length p.chars) (cut.0 ∙ ap (λ w. Some (w, length p.chars)) end)) is in
    first_kept (put page p.what p.chars) a next.0 ps rest cut.1 next.1

-- how long the texts are together
total : List Token → ℕ
total [] = 0
total (t ∷ ts) = length t.text + total ts

total_more : (ts : List Token) (t : Token) → total (ts ++ t ∷ []) ≡ total ts + length t.text
unfolding total
total_more [] t = omega arith
total_more (x ∷ xs) t = let inner = total_more xs t in omega (arith, inner)

total_word : (page : LinesSoFar) (now : List Token) (kind : Kind) (chars : List Char) → page.tokens ≡ now → total (with_token page now kind chars).tokens ≤ total now + length chars
unfolding total
total_word page [] kind chars is = omega (arith, length-map chars (λ (c : Char). c.byte))
total_word page (x ∷ xs) kind chars is =
    let new : Token = record { kind = kind; text = bytes_of chars; space = page.space } in
    let grown : total (page.tokens ++ new ∷ []) ≡ total page.tokens + length (bytes_of chars) = total_more page.tokens new in
    let same : total page.tokens ≡ total (x ∷ xs) = ap total is in
    omega (arith, grown, same, length-map chars (λ (c : Char). c.byte))

total_put : (page : LinesSoFar) (what : PieceKind) (chars : List Char) → total (put page what chars).tokens ≤ total page.tokens + length chars
unfolding total
total_put page Blank chars = omega arith
total_put page Comment chars = omega arith
total_put page LineEnd chars = omega arith
total_put page (Word kind) chars = total_word page page.tokens kind chars refl

total_all : (page : LinesSoFar) (pieces : List Piece) → total (put_all page pieces).tokens ≤ total page.tokens + length (chars_of pieces)
total_all page [] = omega arith
total_all page (p ∷ ps) = omega (arith, total_all (put page p.what p.chars) ps, total_put page p.what p.chars, length-append p.chars (chars_of ps))

total_same : (ts us : List Token) → SameTokens ts us → total ts ≡ total us
unfolding total
total_same [] [] same = refl
total_same [] (u ∷ us) same = absurd same
total_same (t ∷ ts) [] same = absurd same
total_same (t ∷ ts) (u ∷ us) same = let text : length t.text ≡ length u.text = ap length same.0.text in let rest = total_same ts us same.1 in omega (arith, text, rest)

too_short : (t u : Token) (what : PieceKind) (chars : List Char) (pieces : List Piece) (found : List Token) (s : List ℕ) → s ≡ t.text ++ u.text → piece_at false false s ≡ Some (what, length chars) →
    found ≡ (put_all (put no_page what chars) pieces).tokens → length s ≡ length chars + length (chars_of pieces) → SameTokens found (t ∷ u ∷ []) →
    total (put_all (put no_page what chars) pieces).tokens ≤ 0 + length (chars_of pieces) → ⊥
unfolding total
too_short t u what chars pieces found s whole stands is long same most =
    let all : total found ≡ length t.text + (length u.text + 0) = total_same found (t ∷ u ∷ []) same in
    let there : total found ≡ total (put_all (put no_page what chars) pieces).tokens = ap total is in
    let sum : length s ≡ length t.text + length u.text = ap length whole ∙ length-append t.text u.text in
    let some : 1 ≤ length chars = (subst (Within (length s)) stands (piece-within false false s)).0 in
    omega arith

-- the first piece is the first token
both_by : (t u : Token) (what : PieceKind) (chars : List Char) (pieces : List Piece) (found : List Token) (s : List ℕ) → s ≡ t.text ++ u.text → piece_at false false s ≡ Some (what, length chars) → AreCut false (put no_page what chars) pieces [] →
    found ≡ (put_all (put no_page what chars) pieces).tokens → length s ≡ length chars + length (chars_of pieces) → SameTokens found (t ∷ u ∷ []) → (k : Kind) × (piece_at false false s ≡ Some (Word k, length t.text))
unfolding total
both_by t u (Word k) chars pieces found s whole stands cut is long same =
    let first = first_kept (put no_page (Word k) chars) (record { kind = k; text = bytes_of chars; space = false }) [] pieces [] cut refl in
    let tokens : found ≡ record { kind = k; text = bytes_of chars; space = false } ∷ first.0 = is ∙ first.1 in
    let matched = subst (λ (ts : List Token). SameTokens ts (t ∷ u ∷ [])) tokens same in
    let size : length chars ≡ length t.text = sym (length-map chars (λ (c : Char). c.byte)) ∙ ap length matched.0.text in
    (k, stands ∙ ap (λ n. Some (Word k, n)) size)
both_by t u Blank chars pieces found s whole stands cut is long same = absurd (too_short t u Blank chars pieces found s whole stands is long same (total_all (put no_page Blank chars) pieces))
both_by t u Comment chars pieces found s whole stands cut is long same = absurd (too_short t u Comment chars pieces found s whole stands is long same (total_all (put no_page Comment chars) pieces))
both_by t u LineEnd chars pieces found s whole stands cut is long same = absurd (no_line_end false s (length chars) stands)

both_pieces : (t u : Token) (pieces : List Piece) (page : LinesSoFar) (found : List Token) → IsCut false no_page (on_line_one (t.text ++ u.text)) pieces [] → page ≡ put_all no_page pieces → found ≡ page.tokens → SameTokens found (t ∷ u ∷ []) →
    (k : Kind) × (piece_at false false (t.text ++ u.text) ≡ Some (Word k, length t.text))
both_pieces t u [] page found cut final is same = absurd (subst (λ (ts : List Token). SameTokens ts (t ∷ u ∷ [])) (is ∙ ap (λ (p : LinesSoFar). p.tokens) final) same)
both_pieces t u (p ∷ ps) page found cut final is same =
    let head = head_of false no_page (on_line_one (t.text ++ u.text)) p ps [] cut in
    let stands : piece_at false false (t.text ++ u.text) ≡ Some (p.what, length p.chars) = ap (piece_at false false) (sym (bytes_back (t.text ++ u.text))) ∙ head.stands in
    let long : length (t.text ++ u.text) ≡ length p.chars + length (chars_of ps) =
    sym (length-map {B = Char} (t.text ++ u.text) (λ b. record { byte = b; line = 1 })) ∙ ap length cut.whole ∙ length-append (chars_of (p ∷ ps)) [] ∙ (let sum = length-append p.chars (chars_of ps) in omega (arith, sum)) in
    both_by t u p.what p.chars ps found (t.text ++ u.text) refl stands cut.each.1 (is ∙ ap (λ (q : LinesSoFar). q.tokens) final) long same

pub both-front : (t u : Token) → GivesBoth t u → (k : Kind) × (piece_at false false (t.text ++ u.text) ≡ Some (Word k, length t.text))
both-front t u gives =
    let lexed = gives.1 in
    let makes = lexed.2 in
    both_pieces t u makes.0 lexed.1 gives.0 makes.1 makes.2 lexed.3 gives.2
