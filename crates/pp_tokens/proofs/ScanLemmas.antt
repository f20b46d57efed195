-- Pieces are put together to a cut of the whole text.
use Rattle.std.proofs.Common.{◌≡◌, ℕ, zero, suc, ◌+◌, ◌-◌, ◌≤◌, ◌<◌, eqb, Bool, true, false, cond, List, [], ◌∷◌, ◌++◌, length, take, drop, Option, Some, None, Err, refl, sym, ◌∙◌, ap, subst, arith, append_assoc, length-drop}
use Rattle.std.proofs.lemmas.List.{take-append-drop, length-take-le, length-map}
use Rattle.std.specs.Option.{option_map, is_some}
use lib.Chars.{codes}
use Rattle.pp_tokens.specs.declared.token.Kind.{Kind}
use Rattle.pp_tokens.specs.declared.piece.PieceKind.{PieceKind}
use Rattle.pp_tokens.specs.declared.piece.PieceKind.TheVariants.{Blank, LineEnd, Comment, Word}
use Rattle.pp_tokens.specs.Cleaning.{Char, bytes_of}
use Rattle.pp_tokens.specs.Kinds.{begins, is_blank, kind_of}
use Rattle.pp_tokens.specs.Cut.{LinesSoFar, Piece, put, put_all, chars_of, piece_at, header_may_stand, header_name, up_to, up_to_close, line_rest, longest, longest_within, longer, token_or, token_at, AreCut, IsCut, IsOpen, Makes, LeavesOpen}
use Rattle.pp_tokens.specs.Scan.{first_byte, Takes, Steps, Scans, scanned}
use Rattle.pp_tokens.specs.declared.fault.LexFault.{LexFault}
use Rattle.pp_tokens.specs.declared.fault.LexFault.TheVariants.{NulByte, OpenComment, NoMemory}
use Rattle.pp_tokens.proofs.Bounds.{AtMost, one_of, more}
use Rattle.pp_tokens.proofs.TokenLemmas.{scanned-longest}

-- what the rest of the text comes to is what the whole comes to
pub record Continues (lines : Bool) (page : LinesSoFar) (chars : List Char) (now : LinesSoFar) (left : List Char) : Type 0 where
  pub makes : (final : LinesSoFar) → Makes lines now left final → Makes lines page chars final
  pub opens : (line : ℕ) → LeavesOpen lines now left line → LeavesOpen lines page chars line

pub take-one_more : (i : ℕ) (cs : List Char) → bytes_of (take (i + 1) cs) ≡ bytes_of (take i cs) ++ bytes_of (take 1 (drop i cs))
take-one_more zero [] = refl
take-one_more zero (c ∷ cs) = refl
take-one_more (suc i) [] = let same : suc i + 1 ≡ suc (i + 1) = omega arith in ap (λ n. bytes_of (take n [])) same
take-one_more (suc i) (c ∷ cs) = (let same : suc i + 1 ≡ suc (i + 1) = omega arith in ap (λ n. bytes_of (take n (c ∷ cs))) same) ∙ ap (λ bs. c.byte ∷ bs) (take-one_more i cs)

-- a piece of at least one byte and at most n
abbrev pub Within : {A : Type 0} → ℕ → Option (A × ℕ) → Type 0
Within n None = Unit {0}
Within n (Some found) = (1 ≤ found.1) × (found.1 ≤ n)

up_to-most : (last : ℕ) (bs : List ℕ) → AtMost (length bs) (up_to last bs)
up_to-most last [] = tt
up_to-most last (b ∷ bs) = one_of (AtMost (suc (length bs))) (eqb b last) _ _ (omega arith) (one_of (AtMost (suc (length bs))) (eqb b 10) _ _ tt (more (length bs) (up_to last bs) (up_to-most last bs)))

up_to_close-most : (bs : List ℕ) → AtMost (length bs) (up_to_close bs)
up_to_close-most [] = tt
up_to_close-most (a ∷ []) = tt
up_to_close-most (a ∷ b ∷ bs) = one_of (AtMost (suc (suc (length bs)))) _ (Some 2) _ (omega arith) (more (suc (length bs)) (up_to_close (b ∷ bs)) (up_to_close-most (b ∷ bs)))

line_rest-most : (bs : List ℕ) → line_rest bs ≤ length bs
line_rest-most [] = omega arith
line_rest-most (b ∷ bs) = one_of (λ n. n ≤ suc (length bs)) (eqb b 10) 0 (suc (line_rest bs)) (omega arith) (let inner = line_rest-most bs in omega arith)

longest-most : (bytes : List ℕ) (n : ℕ) → Within n (longest_within bytes n)
longest-most bytes zero = tt
longest-most bytes (suc n) = choose (kind_of (take (suc n) bytes)) (longest_within bytes n) (longest-most bytes n)
  where
    wider : (o : Option (Kind × ℕ)) → Within n o → Within (suc n) o
    wider None inner = tt
    wider (Some found) inner = (inner.0, omega (arith, inner.1))

    choose : (k : Option Kind) (o : Option (Kind × ℕ)) → Within n o → Within (suc n) (longer k (suc n) o)
    choose (Some k) o inner = (omega arith, omega arith)
    choose None o inner = wider o inner

-- a header name has at least one byte
abbrev Some_bytes : Option ℕ → Type 0
Some_bytes None = Unit {0}
Some_bytes (Some n) = 1 ≤ n

some_more : (o : Option ℕ) → Some_bytes (option_map suc o)
some_more None = tt
some_more (Some n) = omega arith

word_of : (n : ℕ) (o : Option (Kind × ℕ)) → Within n o → Within n (option_map (λ (found : Kind × ℕ). (Word found.0, found.1)) o)
word_of n None inner = tt
word_of n (Some found) inner = inner

token_or-within : (o : Option ℕ) (bytes : List ℕ) → Some_bytes o → AtMost (length bytes) o → Within (length bytes) (token_or o bytes)
token_or-within (Some n) bytes some most = (some, most)
token_or-within None bytes some most = word_of (length bytes) (longest bytes) (longest-most bytes (length bytes))

header-some : (bytes : List ℕ) → Some_bytes (header_name bytes)
header-some [] = tt
header-some (b ∷ bs) = one_of Some_bytes (eqb b 60) _ _ (some_more (up_to 62 bs)) (one_of Some_bytes (eqb b 34) (option_map suc (up_to 34 bs)) None (some_more (up_to 34 bs)) tt)

header-most : (bytes : List ℕ) → AtMost (length bytes) (header_name bytes)
header-most [] = tt
header-most (b ∷ bs) =
    one_of (AtMost (suc (length bs))) (eqb b 60) _ _ (more (length bs) (up_to 62 bs) (up_to-most 62 bs))
    (one_of (AtMost (suc (length bs))) (eqb b 34) (option_map suc (up_to 34 bs)) None (more (length bs) (up_to 34 bs) (up_to-most 34 bs)) tt)

block-within : (bs : List ℕ) → Within (suc (length bs)) (option_map (λ n. (Comment, 2 + n)) (up_to_close (drop 1 bs)))
block-within [] = tt
block-within (c ∷ cs) = closed (up_to_close cs) (up_to_close-most cs)
  where
    closed : (o : Option ℕ) → AtMost (length cs) o → Within (suc (suc (length cs))) (option_map (λ n. (Comment, 2 + n)) o)
    closed None most = tt
    closed (Some n) most = (omega arith, omega arith)

pub piece-within : (lines header : Bool) (bytes : List ℕ) → Within (length bytes) (piece_at lines header bytes)
piece-within lines header [] = tt
piece-within lines header (b ∷ bs) =
    one_of (Within (suc (length bs))) (eqb b 10) _ _ (omega arith, omega arith)
    (one_of (Within (suc (length bs))) (is_blank b) _ _ (omega arith, omega arith)
    (one_of (Within (suc (length bs))) (begins (codes "//") (b ∷ bs)) _ _ (omega arith, omega (arith, line_rest-most bs))
    (one_of (Within (suc (length bs))) (begins (codes "/*") (b ∷ bs)) _ _ (block-within bs)
    (token_or-within (cond header (header_name (b ∷ bs)) None) (b ∷ bs)
    (one_of Some_bytes header (header_name (b ∷ bs)) None (header-some (b ∷ bs)) tt)
    (one_of (AtMost (suc (length bs))) header (header_name (b ∷ bs)) None (header-most (b ∷ bs)) tt)))))

pub piece-fits : (lines header : Bool) (cs : List Char) (what : PieceKind) (n : ℕ) → piece_at lines header (bytes_of cs) ≡ Some (what, n) → (1 ≤ n) × (n ≤ length cs)
piece-fits lines header cs what n is =
    let fits : (1 ≤ n) × (n ≤ length (bytes_of cs)) = subst (Within (length (bytes_of cs))) is (piece-within lines header (bytes_of cs)) in
    (fits.0, omega (arith, fits.1, length-map cs (λ (c : Char). c.byte)))

pub cut-more : (lines : Bool) (page : LinesSoFar) (chars : List Char) (now : LinesSoFar) (left : List Char) (what : PieceKind) (n : ℕ) (pieces : List Piece) (rest : List Char) →
    piece_at lines (header_may_stand page.tokens) (bytes_of chars) ≡ Some (what, n) → now ≡ put page what (take n chars) → left ≡ drop n chars →
    IsCut lines now left pieces rest → IsCut lines page chars (record { what = what; chars = take n chars } ∷ pieces) rest
cut-more lines page chars now left what n pieces rest stands made behind cut =
    let fits = piece-fits lines (header_may_stand page.tokens) chars what n stands in
    let whole : chars ≡ take n chars ++ chars_of pieces ++ rest =
    sym (take-append-drop n chars) ∙ ap (λ cs. take n chars ++ cs) (sym behind ∙ cut.whole) ∙ sym (append_assoc (take n chars) (chars_of pieces) rest) in
    record {
      whole = whole;
      each = (
        ap (λ (cs : List Char). piece_at lines (header_may_stand page.tokens) (bytes_of cs)) (sym whole) ∙ stands ∙ ap (λ k. Some (what, k)) (sym (length-take-le n chars fits.1)),
        subst (λ (p : LinesSoFar). AreCut lines p pieces rest) made cut.each,
      );
    }

pub continues-none : (lines : Bool) (page : LinesSoFar) (chars : List Char) → Continues lines page chars page chars
continues-none lines page chars = record { makes = λ final m. m; opens = λ line o. o }

pub continues-more : (lines : Bool) (page : LinesSoFar) (chars : List Char) (now : LinesSoFar) (left : List Char) (next : LinesSoFar) (behind : List Char) →
    Continues lines page chars now left → Takes lines now left next behind → Continues lines page chars next behind
continues-more lines page chars now left next behind so_far takes = record {
  makes = λ final m.
      so_far.makes final (
        record { what = takes.what; chars = take takes.count left } ∷ m.0,
        cut-more lines now left next behind takes.what takes.count m.0 [] takes.stands takes.made takes.rest m.1,
        m.2 ∙ ap (λ (p : LinesSoFar). put_all p m.0) takes.made,
      );
  opens = λ line o.
      so_far.opens line (
        record { what = takes.what; chars = take takes.count left } ∷ o.0,
        o.1,
        cut-more lines now left next behind takes.what takes.count o.0 o.1 takes.stands takes.made takes.rest o.2,
        o.3,
        o.4,
      );
}

-- nothing is left to cut
pub makes-itself : (lines : Bool) (page : LinesSoFar) (chars : List Char) → None ≡ first_byte chars → Makes lines page chars page
makes-itself lines page [] is = ([], record { whole = refl; each = tt }, refl)
makes-itself lines page (c ∷ cs) is = cc

pub takes-smaller : (lines : Bool) (now next : LinesSoFar) (left behind : List Char) → Takes lines now left next behind → length behind < length left
takes-smaller lines now next left behind takes =
    let fits = piece-fits lines (header_may_stand now.tokens) left takes.what takes.count takes.stands in
    let long : length behind ≡ length left - takes.count = ap length takes.rest ∙ length-drop takes.count left in
    omega (arith, fits.0, fits.1)

none_by : (t u v w : Bool) (a b c : PieceKind × ℕ) (o k : Option (PieceKind × ℕ)) → cond t (Some a) (cond u (Some b) (cond v (Some c) (cond w o k))) ≡ None → (t ≡ false → u ≡ false → k ≡ None → ⊥) → (w ≡ true) × (o ≡ None)
none_by true u v w a b c o k is never = cc
none_by false true v w a b c o k is never = cc
none_by false false true w a b c o k is never = cc
none_by false false false true a b c o k is never = (refl, is)
none_by false false false false a b c o k is never = absurd (never refl refl is)

some_token : (o : Option ℕ) (bytes : List ℕ) (found : Kind × ℕ) → longest bytes ≡ Some found → token_or o bytes ≡ None → ⊥
some_token (Some n) bytes found is none = cc
some_token None bytes found is none =
    let mapped = ap (option_map {U = PieceKind × ℕ} (λ (f : Kind × ℕ). (Word f.0, f.1))) is in cc

map_none : (o : Option ℕ) → option_map {U = PieceKind × ℕ} (λ n. (Comment, 2 + n)) o ≡ None → o ≡ None
map_none None is = refl
map_none (Some n) is = cc

pub open_at : (lines header : Bool) (b : ℕ) (bs : List ℕ) → piece_at lines header (b ∷ bs) ≡ None → IsOpen (b ∷ bs)
open_at lines header b bs is =
    let found = none_by (eqb b 10) (is_blank b) (begins (codes "//") (b ∷ bs)) (begins (codes "/*") (b ∷ bs)) (cond lines LineEnd Blank, 1) (Blank, 1) (Comment, suc (line_rest bs))
    (option_map (λ n. (Comment, 2 + n)) (up_to_close (drop 1 bs))) (token_at header (b ∷ bs)) is
    (λ not_line_feed not_blank none. some_token _ (b ∷ bs) (scanned (b ∷ bs)) (scanned-longest b bs not_line_feed not_blank) none) in
    (found.0, map_none (up_to_close (drop 1 bs)) found.1)

open_here : (lines header : Bool) (cs : List Char) → is_some (first_byte cs) ≡ true → piece_at lines header (bytes_of cs) ≡ None → IsOpen (bytes_of cs)
open_here lines header [] some is = cc
open_here lines header (c ∷ cs) some is = open_at lines header c.byte (bytes_of cs) is

pub scans-err : (lines : Bool) (page : LinesSoFar) (chars : List Char) (now : LinesSoFar) (left : List Char) (next : LinesSoFar) (behind : List Char) (fault : LexFault) →
    Continues lines page chars now left → is_some (first_byte left) ≡ true → Steps lines now left next behind (Err fault) → Scans lines page chars next (Err fault)
scans-err lines page chars now left next behind (NulByte line) so_far some step = step
scans-err lines page chars now left next behind (OpenComment line) so_far some step =
    so_far.opens line ([], left, record { whole = refl; each = tt }, open_here lines (header_may_stand now.tokens) left some step.0, step.1)
scans-err lines page chars now left next behind NoMemory so_far some step = tt
