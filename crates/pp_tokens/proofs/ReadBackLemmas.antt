-- The printed text is cut into its tokens again.
use Rattle.std.proofs.Common.{◌≡◌, ℕ, eqb, Bool, true, false, cond, ◌&&◌, ◌||◌, List, [], ◌∷◌, ◌++◌, length, take, Option, Some, None, Result, Ok, refl, sym, ◌∙◌, ap, subst, append_assoc, append-nil, inl, inr}
use Rattle.std.proofs.lemmas.List.{length-map}
use Rattle.std.specs.List.{AllByRecursion}
use lib.Chars.{codes}
use Rattle.pp_tokens.specs.declared.piece.PieceKind.{PieceKind}
use Rattle.pp_tokens.specs.declared.piece.PieceKind.TheVariants.{Blank, Word}
use Rattle.pp_tokens.specs.declared.token.Kind.{Kind}
use Rattle.pp_tokens.specs.declared.token.Token.{Token}
use Rattle.pp_tokens.specs.Cleaning.{Char, bytes_of, on_line_one, first_nul}
use Rattle.pp_tokens.specs.Kinds.{same, kind_of}
use Rattle.pp_tokens.specs.Cut.{LinesSoFar, Piece, no_page, put, put_all, with_token, chars_of, piece_at, header_may_stand, IsCut, LexesText}
use Rattle.pp_tokens.specs.Printing.{SameToken, SameTokens, IsParted, IsGap, Prints}
use Rattle.pp_tokens.specs.declared.fault.LexFault.{LexFault}
use Rattle.pp_tokens.specs.Laws.{IsAnswer, IsPrintable, PrintedIsReadBack}
use Rattle.pp_tokens.proofs.UniqueLemmas.{text-unique}
use Rattle.pp_tokens.proofs.BothLemmas.{bytes_back}
use Rattle.pp_tokens.proofs.AheadLemmas.{Ahead, ahead-end, ahead-blank, ahead-next, token-stands}

on_line_append : (xs ys : List ℕ) → on_line_one (xs ++ ys) ≡ on_line_one xs ++ on_line_one ys
on_line_append [] ys = refl
on_line_append (x ∷ xs) ys = ap (λ (cs : List Char). record { byte = x; line = 1 } ∷ cs) (on_line_append xs ys)

-- a cut of the text that puts these tokens on the page
record Laid (page : LinesSoFar) (ts : List Token) (text : List ℕ) : Type 0 where
  pieces : List Piece
  cut : IsCut false page (on_line_one text) pieces []
  new : List Token
  tokens : (put_all page pieces).tokens ≡ page.tokens ++ new
  same : SameTokens new ts

-- a piece in front of a cut
cut_first : (page : LinesSoFar) (what : PieceKind) (front r : List ℕ) (pieces : List Piece) → piece_at false (header_may_stand page.tokens) (front ++ r) ≡ Some (what, length front) →
    IsCut false (put page what (on_line_one front)) (on_line_one r) pieces [] → IsCut false page (on_line_one (front ++ r)) (record { what = what; chars = on_line_one front } ∷ pieces) []
cut_first page what front r pieces stands cut =
    let whole : on_line_one (front ++ r) ≡ on_line_one front ++ chars_of pieces ++ [] = on_line_append front r ∙ ap (λ (cs : List Char). on_line_one front ++ cs) cut.whole ∙ sym (append_assoc (on_line_one front) (chars_of pieces) []) in
    record {
      whole = whole;
      each = (
        ap (λ (cs : List Char). piece_at false (header_may_stand page.tokens) (bytes_of cs)) (sym whole)
            ∙ ap (piece_at false (header_may_stand page.tokens)) (bytes_back (front ++ r)) ∙ stands
            ∙ ap (λ n. Some (what, n)) (sym (length-map {B = Char} front (λ b. record { byte = b; line = 1 }))),
        cut.each,
      );
    }

-- the token that a piece makes
made : LinesSoFar → List Token → Kind → List ℕ → Token
made page [] kind text = record { kind = kind; text = bytes_of (on_line_one text); space = false }
made page (t ∷ ts) kind text = record { kind = kind; text = bytes_of (on_line_one text); space = page.space }

made_there : (page : LinesSoFar) (now : List Token) (kind : Kind) (text : List ℕ) → page.tokens ≡ now → (with_token page now kind (on_line_one text)).tokens ≡ page.tokens ++ made page now kind text ∷ []
unfolding made
made_there page [] kind text is = ap (λ (ts : List Token). ts ++ record { kind = kind; text = bytes_of (on_line_one text); space = false } ∷ []) (sym is)
made_there page (t ∷ ts) kind text is = refl

made_same : (page : LinesSoFar) (now : List Token) (t : Token) → SameToken (made page now t.kind t.text) t
unfolding made
made_same page [] t = record { kind = refl; text = bytes_back t.text }
made_same page (x ∷ xs) t = record { kind = refl; text = bytes_back t.text }

laid_token : (page : LinesSoFar) (t : Token) (ts : List Token) (r : List ℕ) → header_may_stand page.tokens ≡ false → kind_of t.text ≡ Some t.kind → Ahead t.text r → Laid (put page (Word t.kind) (on_line_one t.text)) ts r → Laid page (t ∷ ts) (t.text ++ r)
laid_token page t ts r header is ahead laid =
    let token : Token = made page page.tokens t.kind t.text in
    record {
      pieces = record { what = Word t.kind; chars = on_line_one t.text } ∷ laid.pieces;
      cut = cut_first page (Word t.kind) t.text r laid.pieces (ap (λ h. piece_at false h (t.text ++ r)) header ∙ token-stands t.kind t.text r is ahead) laid.cut;
      new = token ∷ laid.new;
      tokens = laid.tokens ∙ ap (λ (xs : List Token). xs ++ laid.new) (made_there page page.tokens t.kind t.text refl) ∙ append_assoc page.tokens (token ∷ []) laid.new;
      same = (made_same page page.tokens t, laid.same);
    }

laid_blank : (page : LinesSoFar) (ts : List Token) (r : List ℕ) → Laid (put page Blank (on_line_one (codes " "))) ts r → Laid page ts (32 ∷ r)
laid_blank page ts r laid = record {
  pieces = record { what = Blank; chars = on_line_one (codes " ") } ∷ laid.pieces;
  cut = cut_first page Blank (codes " ") r laid.pieces refl laid.cut;
  new = laid.new;
  tokens = laid.tokens;
  same = laid.same;
}

-- no header name may be there
NoHeader : List Token → List Token → Type 0
NoHeader before ts = header_may_stand (take 2 (before ++ ts)) ≡ false

no_header_now : (before : List Token) (t : Token) (ts : List Token) → NoHeader before (t ∷ ts) → header_may_stand before ≡ false
unfolding NoHeader
no_header_now [] t ts none = refl
no_header_now (a ∷ []) t ts none = refl
no_header_now (a ∷ b ∷ []) t ts none = none
no_header_now (a ∷ b ∷ c ∷ before) t ts none = refl

same_headers : (a b t u : Token) → a.text ≡ t.text → b.text ≡ u.text → header_may_stand (a ∷ b ∷ []) ≡ header_may_stand (t ∷ u ∷ [])
same_headers a b t u first second =
    ap (λ x. (same x (codes "#") || same x (codes "%:")) && same b.text (codes "include")) first ∙ ap (λ x. (same t.text (codes "#") || same t.text (codes "%:")) && same x (codes "include")) second

no_header_next : (before : List Token) (t made : Token) (ts : List Token) → made.text ≡ t.text → NoHeader before (t ∷ ts) → NoHeader (before ++ made ∷ []) ts
unfolding NoHeader
no_header_next [] t made [] is none = refl
no_header_next [] t made (u ∷ ts) is none = same_headers made u t u is refl ∙ none
no_header_next (a ∷ []) t made ts is none = same_headers a made a t refl is ∙ none
no_header_next (a ∷ b ∷ before) t made ts is none = none

-- what follows each token

record Behind (t : Token) (text : List ℕ) : Type 0 where
  rest : List ℕ
  is : text ≡ t.text ++ rest
  ahead : Ahead t.text rest

not_dots : (t u : Token) → (IsParted t u → ⊥) → t.text ≡ codes "." → u.text ≡ codes "." → ⊥
not_dots t u parted first second = parted (inr (inr (record { first = first; second = second })))

gap_behind : (t u : Token) (gap rest : List ℕ) → IsPrintable t → IsPrintable u → IsGap t u gap → Behind u rest → Ahead t.text (gap ++ rest)
gap_behind t u gap rest first second (inl spaced) behind = subst (λ g. Ahead t.text (g ++ rest)) (sym spaced.0) (ahead-blank t.kind t.text rest first.kind first.no_lone)
gap_behind t u gap rest first second (inr together) behind =
    subst (λ g. Ahead t.text (g ++ rest)) (sym together.0)
    (subst (Ahead t.text) (sym behind.is)
    (ahead-next t u behind.rest first.kind first.no_lone second.kind second.no_lone (not_dots t u together.1) behind.ahead (λ never. together.1 (inr (inl never)))))

behind_of : (t : Token) (ts : List Token) (text : List ℕ) → AllByRecursion IsPrintable (t ∷ ts) → Prints (t ∷ ts) text → Behind t text
behind_of t [] text all prints = record { rest = []; is = prints ∙ sym (append-nil t.text); ahead = ahead-end t.kind t.text all.0.kind }
behind_of t (u ∷ ts) text all prints =
    let next = behind_of u ts prints.1 all.1 prints.3 in
    record {
      rest = prints.0 ++ prints.1;
      is = prints.4 ∙ append_assoc t.text prints.0 prints.1;
      ahead = gap_behind t u prints.0 prints.1 all.0 all.1.0 prints.2 next;
    }

-- the whole text

gap_laid : (t u : Token) (page : LinesSoFar) (ts : List Token) (gap rest : List ℕ) → IsGap t u gap → Laid (put page Blank (on_line_one (codes " "))) ts rest → Laid page ts rest → Laid page ts (gap ++ rest)
gap_laid t u page ts gap rest (inl spaced) blank plain = subst (λ g. Laid page ts (g ++ rest)) (sym spaced.0) (laid_blank page ts rest blank)
gap_laid t u page ts gap rest (inr together) blank plain = subst (λ g. Laid page ts (g ++ rest)) (sym together.0) plain

lay : (ts : List Token) (page : LinesSoFar) (text : List ℕ) → AllByRecursion IsPrintable ts → NoHeader page.tokens ts → Prints ts text → Laid page ts text
lay [] page text all none prints =
    subst (Laid page []) (sym prints) (record { pieces = []; cut = record { whole = refl; each = tt }; new = []; tokens = sym (append-nil page.tokens); same = tt })
lay (t ∷ []) page text all none prints =
    subst (Laid page (t ∷ [])) (append-nil t.text ∙ sym prints)
    (laid_token page t [] [] (no_header_now page.tokens t [] none) all.0.kind (ahead-end t.kind t.text all.0.kind)
    (record { pieces = []; cut = record { whole = refl; each = tt }; new = []; tokens = sym (append-nil (put page (Word t.kind) (on_line_one t.text)).tokens); same = tt }))
lay (t ∷ u ∷ ts) page text all none prints =
    let next : LinesSoFar = put page (Word t.kind) (on_line_one t.text) in
    let there : next.tokens ≡ page.tokens ++ made page page.tokens t.kind t.text ∷ [] = made_there page page.tokens t.kind t.text refl in
    let none_next : NoHeader next.tokens (u ∷ ts) = subst (λ (xs : List Token). NoHeader xs (u ∷ ts)) (sym there) (no_header_next page.tokens t (made page page.tokens t.kind t.text) (u ∷ ts) (made_same page page.tokens t).text none) in
    let plain = lay (u ∷ ts) next prints.1 all.1 none_next prints.3 in
    let blank = lay (u ∷ ts) (put next Blank (on_line_one (codes " "))) prints.1 all.1 none_next prints.3 in
    let ahead = gap_behind t u prints.0 prints.1 all.0 all.1.0 prints.2 (behind_of u ts prints.1 all.1 prints.3) in
    subst (Laid page (t ∷ u ∷ ts)) (sym (prints.4 ∙ append_assoc t.text prints.0 prints.1))
    (laid_token page t (u ∷ ts) (prints.0 ++ prints.1) (no_header_now page.tokens t (u ∷ ts) none) all.0.kind ahead (gap_laid t u next (u ∷ ts) prints.0 prints.1 prints.2 blank plain))

-- no byte 0

nul_step : (t : Bool) (o p : Option ℕ) → cond {A = Option ℕ} t (Some 1) o ≡ None → (o ≡ None → p ≡ None) → cond {A = Option ℕ} t (Some 1) p ≡ None
nul_step true o p none inner = cc
nul_step false o p none inner = inner none

nul_append : (xs ys : List ℕ) → first_nul (on_line_one xs) ≡ None → first_nul (on_line_one ys) ≡ None → first_nul (on_line_one (xs ++ ys)) ≡ None
nul_append [] ys first second = second
nul_append (x ∷ xs) ys first second = nul_step (eqb x 0) (first_nul (on_line_one xs)) (first_nul (on_line_one (xs ++ ys))) first (λ none. nul_append xs ys none second)

gap_nul : (t u : Token) (gap : List ℕ) → IsGap t u gap → first_nul (on_line_one gap) ≡ None
gap_nul t u gap (inl spaced) = ap (λ g. first_nul (on_line_one g)) spaced.0
gap_nul t u gap (inr together) = ap (λ g. first_nul (on_line_one g)) together.0

prints_nul : (ts : List Token) (text : List ℕ) → AllByRecursion IsPrintable ts → Prints ts text → first_nul (on_line_one text) ≡ None
prints_nul [] text all prints = ap (λ x. first_nul (on_line_one x)) prints
prints_nul (t ∷ []) text all prints = ap (λ x. first_nul (on_line_one x)) prints ∙ all.0.no_nul
prints_nul (t ∷ u ∷ ts) text all prints =
    ap (λ x. first_nul (on_line_one x)) prints.4
    ∙ nul_append (t.text ++ prints.0) prints.1 (nul_append t.text prints.0 all.0.no_nul (gap_nul t u prints.0 prints.2)) (prints_nul (u ∷ ts) prints.1 all.1 prints.3)

pub printed-lexes : PrintedIsReadBack
unfolding NoHeader
printed-lexes tokens text all none prints =
    let laid = lay tokens no_page text all none prints in
    let page : LinesSoFar = put_all no_page laid.pieces in
    (page.tokens, (prints_nul tokens text all prints, page, (laid.pieces, laid.cut, refl), refl), subst (λ (ts : List Token). SameTokens ts tokens) (sym laid.tokens) laid.same)

-- the same, from an answer that is known
pub printed-read_back : (tokens : List Token) (text : List ℕ) (answer : Result (List Token) LexFault) →
    AllByRecursion IsPrintable tokens → header_may_stand (take 2 tokens) ≡ false → Prints tokens text → IsAnswer answer → LexesText text answer →
    (found : List Token) × (answer ≡ Ok found) × SameTokens found tokens
printed-read_back tokens text answer all none prints given lexed =
    let own = printed-lexes tokens text all none prints in
    (own.0, text-unique text answer (Ok own.0) given tt lexed own.1, own.2)
