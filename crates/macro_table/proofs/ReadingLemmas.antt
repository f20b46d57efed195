-- Tokens that are printed one after another are read again, after a name.
use Rattle.std.proofs.Common.{◌≡◌, ℕ, zero, suc, ◌≤◌, Bool, true, false, cond, List, [], ◌∷◌, ◌++◌, length, take, drop, Some, Ok, refl, sym, ◌∙◌, ap, arith, append_assoc, append-nil, length-append}
use Rattle.std.proofs.lemmas.List.{take_at, drop_at, length-map}
use Rattle.std.specs.List.{AllByRecursion, flat_map}
use lib.Chars.{codes}
use Rattle.pp_tokens.specs.declared.piece.PieceKind.{PieceKind}
use Rattle.pp_tokens.specs.declared.piece.PieceKind.TheVariants.{Blank, Word}
use Rattle.pp_tokens.specs.declared.token.Kind.{Kind}
use Rattle.pp_tokens.specs.declared.token.Token.{Token}
use Rattle.pp_tokens.specs.Cleaning.{Char, bytes_of, on_line_one}
use Rattle.pp_tokens.specs.Kinds.{kind_of}
use Rattle.pp_tokens.specs.Cut.{LinesSoFar, no_page, put, piece_at, header_may_stand, line_of}
use Rattle.pp_tokens.specs.Laws.{IsPrintable}
use Rattle.pp_tokens.proofs.BothLemmas.{bytes_back}
use Rattle.pp_tokens.proofs.AheadLemmas.{Ahead, token-stands}
use Rattle.macro_table.specs.Texts.{page_behind, page_of, page_tokens, spaced, body_text}
use Rattle.macro_table.specs.DefinitionLaws.{first_spaced}
use Rattle.macro_table.proofs.AheadLemmas.{AllAhead, printed_ahead}

on_line_append : (xs ys : List ℕ) → on_line_one (xs ++ ys) ≡ on_line_one xs ++ on_line_one ys
on_line_append [] ys = refl
on_line_append (x ∷ xs) ys = ap (λ (cs : List Char). record { byte = x; line = 1 } ∷ cs) (on_line_append xs ys)

long_line : (xs : List ℕ) → length (on_line_one xs) ≡ length xs
long_line xs = length-map {B = Char} xs (λ b. record { byte = b; line = 1 })

front_line : (xs ys : List ℕ) → take (length xs) (on_line_one (xs ++ ys)) ≡ on_line_one xs
front_line xs ys = ap (take (length xs)) (on_line_append xs ys) ∙ take_at (on_line_one xs) (on_line_one ys) (length xs) (long_line xs)

back_line : (xs ys : List ℕ) → drop (length xs) (on_line_one (xs ++ ys)) ≡ on_line_one ys
back_line xs ys = ap (drop (length xs)) (on_line_append xs ys) ∙ drop_at (on_line_one xs) (on_line_one ys) (length xs) (long_line xs)

-- one piece in front
one_piece : (n : ℕ) (page : LinesSoFar) (what : PieceKind) (b : ℕ) (front r : List ℕ) → header_may_stand page.tokens ≡ false → piece_at false false ((b ∷ front) ++ r) ≡ Some (what, length (b ∷ front)) →
    page_of (suc n) page (on_line_one ((b ∷ front) ++ r)) ≡ page_of n (put page what (on_line_one (b ∷ front))) (on_line_one r)
one_piece n page what b front r header stands =
    let chars : List Char = on_line_one ((b ∷ front) ++ r) in
    let piece : piece_at false (header_may_stand page.tokens) (bytes_of chars) ≡ Some (what, length (b ∷ front)) =
    ap (λ h. piece_at false h (bytes_of chars)) header ∙ ap (piece_at false false) (bytes_back ((b ∷ front) ++ r)) ∙ stands in
    ap (page_behind (page_of n) page chars) piece
    ∙ ap (λ (cs : List Char). page_of n (put page what cs) (drop (length (b ∷ front)) chars)) (front_line (b ∷ front) r)
    ∙ ap (page_of n (put page what (on_line_one (b ∷ front)))) (back_line (b ∷ front) r)

-- a page after a name
abbrev pub page_at : Token → List Token → Bool → ℕ → LinesSoFar
page_at a done s number = record { lines = []; number = number; tokens = a ∷ done; space = s }

-- after these tokens the text gives those
abbrev pub Reads : Token → List Token → Bool → List ℕ → List Token → Type 0
Reads a done s text ts = (number n : ℕ) → length text ≤ n → page_tokens (page_of n (page_at a done s number) (on_line_one text)) ≡ Ok (a ∷ done ++ ts)

-- no directive begins with this token
abbrev pub IsName : Token → Type 0
IsName a = (u : Token) → header_may_stand (a ∷ u ∷ []) ≡ false

no_header : (a : Token) (done : List Token) → IsName a → header_may_stand (a ∷ done) ≡ false
no_header a [] is = refl
no_header a (u ∷ []) is = is u
no_header a (u ∷ v ∷ done) is = refl

pub end_read : (a : Token) (done : List Token) (s : Bool) → Reads a done s [] []
end_read a done s number zero enough = ap (λ (ts : List Token). Ok (a ∷ ts)) (sym (append-nil done))
end_read a done s number (suc n) enough = ap (λ (ts : List Token). Ok (a ∷ ts)) (sym (append-nil done))

pub blank_read : (a : Token) (done : List Token) (s : Bool) (r : List ℕ) (ts : List Token) → IsName a → Reads a done true r ts → Reads a done s (32 ∷ r) ts
blank_read a done s r ts name rest number zero enough = absurd (omega arith)
blank_read a done s r ts name rest number (suc n) enough =
    ap page_tokens (one_piece n (page_at a done s number) Blank 32 [] r (no_header a done name) refl) ∙ rest number n (omega arith)

token_by : (a : Token) (done : List Token) (s : Bool) (k : Kind) (x : List ℕ) (t : Token) (r : List ℕ) (ts : List Token) → IsName a → kind_of x ≡ Some k → Ahead x r → t ≡ record { kind = k; text = x; space = s } → Reads a (done ++ t ∷ []) false r ts → Reads a done s (x ++ r) (t ∷ ts)
token_by a done s k [] t r ts name kind ahead is rest number n enough = cc
token_by a done s k (b ∷ x) t r ts name kind ahead is rest number zero enough = absurd (omega arith)
token_by a done s k (b ∷ x) t r ts name kind ahead is rest number (suc n) enough =
    let made : Token = record { kind = k; text = bytes_of (on_line_one (b ∷ x)); space = s } in
    let same_token : made ≡ t = ap (λ text. record { kind = k; text = text; space = s }) (bytes_back (b ∷ x)) ∙ sym is in
    ap page_tokens (one_piece n (page_at a done s number) (Word k) b x r (no_header a done name) (token-stands k (b ∷ x) r kind ahead))
    ∙ ap (λ (u : Token). page_tokens (page_of n (page_at a (done ++ u ∷ []) false number) (on_line_one r))) same_token
    ∙ rest number n (let long = length-append (b ∷ x) r in omega (arith, long))
    ∙ ap (λ (us : List Token). Ok (a ∷ us)) (append_assoc done (t ∷ []) ts)

-- a token in front
pub token_read : (a : Token) (done : List Token) (s : Bool) (t : Token) (r : List ℕ) (ts : List Token) → IsName a → kind_of t.text ≡ Some t.kind → Ahead t.text r → t.space ≡ s → Reads a (done ++ t ∷ []) false r ts → Reads a done s (t.text ++ r) (t ∷ ts)
token_read a done s t r ts name kind ahead is rest = token_by a done s t.kind t.text t r ts name kind ahead (ap (λ b. record { kind = t.kind; text = t.text; space = b }) is) rest

-- a replacement list after its first token
mark_read : (a : Token) (done : List Token) (t : Token) (r : List ℕ) (ts : List Token) (b : Bool) → IsName a → t.space ≡ b → ((s : Bool) → t.space ≡ s → Reads a done s (t.text ++ r) (t ∷ ts)) → Reads a done false (((cond b (codes " ") []) ++ t.text) ++ r) (t ∷ ts)
mark_read a done t r ts true name is reads = blank_read a done false (t.text ++ r) (t ∷ ts) name (reads true is)
mark_read a done t r ts false name is reads = reads false is

rest_read : (a : Token) (done ts : List Token) → IsName a → AllByRecursion IsPrintable ts → AllAhead ts → Reads a done false (flat_map spaced ts) ts
rest_read a done [] name all aheads = end_read a done false
rest_read a done (t ∷ ts) name all aheads =
    mark_read a done t (flat_map spaced ts) ts t.space name refl (λ s is.
    token_read a done s t (flat_map spaced ts) ts name all.0.kind (printed_ahead t ts all aheads) is (rest_read a (done ++ t ∷ []) ts name all.1 aheads.1))

-- a replacement list after white space
pub body_read : (a : Token) (done body : List Token) → IsName a → AllByRecursion IsPrintable body → AllAhead body → Reads a done true (body_text body) (first_spaced body)
body_read a done [] name all aheads = end_read a done true
body_read a done (t ∷ ts) name all aheads =
    let first : Token = record t { space = true } in
    token_read a done true first (flat_map spaced ts) ts name all.0.kind (printed_ahead t ts all aheads) refl (rest_read a (done ++ first ∷ []) ts name all.1 aheads.1)

-- the name in front of all
pub name_read : (a : Token) (r : List ℕ) (ts : List Token) → a.space ≡ false → kind_of a.text ≡ Some a.kind → Ahead a.text r → Reads a [] false r ts → page_tokens (page_of (length (a.text ++ r)) no_page (on_line_one (a.text ++ r))) ≡ Ok (a ∷ ts)
name_read a r ts mark kind ahead rest = by a.text kind ahead refl
  where
    by : (x : List ℕ) → kind_of x ≡ Some a.kind → Ahead x r → x ≡ a.text → page_tokens (page_of (length (x ++ r)) no_page (on_line_one (x ++ r))) ≡ Ok (a ∷ ts)
    by [] kind ahead is = cc
    by (b ∷ x) kind ahead is =
        let made : Token = record { kind = a.kind; text = bytes_of (on_line_one (b ∷ x)); space = false } in
        let same_token : made ≡ a = ap (λ text. record { kind = a.kind; text = text; space = false }) (bytes_back (b ∷ x) ∙ is) ∙ ap (λ s. record { kind = a.kind; text = a.text; space = s }) (sym mark) in
        let number : ℕ = line_of (on_line_one (b ∷ x)) in
        ap page_tokens (one_piece (length (x ++ r)) no_page (Word a.kind) b x r refl (token-stands a.kind (b ∷ x) r kind ahead))
        ∙ ap (λ (u : Token). page_tokens (page_of (length (x ++ r)) (page_at u [] false number) (on_line_one r))) same_token
        ∙ rest number (length (x ++ r)) (let long = length-append x r in omega (arith, long))
