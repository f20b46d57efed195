-- Tokens are printed as exactly one text.
use Rattle.std.proofs.Common.{◌≡◌, ◌⊎◌, ℕ, zero, suc, eqb, Bool, true, false, List, [], ◌∷◌, ◌++◌, Result, Ok, Err, inl, inr, refl, ap, subst, ◌∙◌, sym}
use borrow.Author.Tests.{eqb-true, eqb-false}
use lib.Chars.{codes}
use Rattle.pp_tokens.specs.declared.token.Token.{Token}
use Rattle.pp_tokens.specs.declared.token.Kind.{Kind}
use Rattle.pp_tokens.specs.declared.token.Kind.TheVariants.{Identifier, Number, Char, Str, Punct, Header, LoneQuote, Other}
use Rattle.pp_tokens.specs.declared.fault.LexFault.{LexFault}
use Rattle.pp_tokens.specs.Cut.{LexesText}
use Rattle.pp_tokens.specs.Printing.{SameToken, SameTokens, GivesBoth, IsParted, AreDots, IsGap, Prints}
use Rattle.pp_tokens.specs.Laws.{IsAnswer, OneAnswer, OneText, TokensHaveOneText}
use Rattle.pp_tokens.proofs.ExistLemmas.{text-lexed}

abbrev pub Decided : Type 0 → Type 0
Decided P = P ⊎ (P → ⊥)

pub both_decided : {P Q : Type 0} → Decided P → Decided Q → Decided (P × Q)
both_decided (inl p) (inl q) = inl (p, q)
both_decided (inl p) (inr never) = inr (λ both. never both.1)
both_decided (inr never) q = inr (λ both. never both.0)

abbrev code : Kind → ℕ
code Identifier = zero
code Number = suc zero
code Char = suc (suc zero)
code Str = suc (suc (suc zero))
code Punct = suc (suc (suc (suc zero)))
code Header = suc (suc (suc (suc (suc zero))))
code LoneQuote = suc (suc (suc (suc (suc (suc zero)))))
code Other = suc (suc (suc (suc (suc (suc (suc zero))))))

abbrev kind_by : ℕ → Kind
kind_by zero = Identifier
kind_by (suc zero) = Number
kind_by (suc (suc zero)) = Char
kind_by (suc (suc (suc zero))) = Str
kind_by (suc (suc (suc (suc zero)))) = Punct
kind_by (suc (suc (suc (suc (suc zero))))) = Header
kind_by (suc (suc (suc (suc (suc (suc zero)))))) = LoneQuote
kind_by (suc (suc (suc (suc (suc (suc (suc n))))))) = Other

kind_back : (k : Kind) → kind_by (code k) ≡ k
kind_back Identifier = refl
kind_back Number = refl
kind_back Char = refl
kind_back Str = refl
kind_back Punct = refl
kind_back Header = refl
kind_back LoneQuote = refl
kind_back Other = refl

number_decided : (a b : ℕ) (t : Bool) → eqb a b ≡ t → Decided (a ≡ b)
number_decided a b true is = inl (eqb-true a b is)
number_decided a b false is = inr (eqb-false a b is)

kind_of_code : (a b : Kind) → Decided (code a ≡ code b) → Decided (a ≡ b)
kind_of_code a b (inl same) = inl (sym (kind_back a) ∙ ap kind_by same ∙ kind_back b)
kind_of_code a b (inr never) = inr (λ same. never (ap code same))

kind_decided : (a b : Kind) → Decided (a ≡ b)
kind_decided a b = kind_of_code a b (number_decided (code a) (code b) (eqb (code a) (code b)) refl)

heads : {a b : ℕ} {xs ys : List ℕ} → a ∷ xs ≡ b ∷ ys → (a ≡ b) × (xs ≡ ys)
heads is = (cc, cc)

cons_decided : {a b : ℕ} {xs ys : List ℕ} → Decided (a ≡ b) → Decided (xs ≡ ys) → Decided (a ∷ xs ≡ b ∷ ys)
cons_decided {a} {b} {xs} {ys} (inl first) (inl others) = inl (ap (λ x. x ∷ xs) first ∙ ap (λ zs. b ∷ zs) others)
cons_decided (inl first) (inr never) = inr (λ is. never (heads is).1)
cons_decided (inr never) others = inr (λ is. never (heads is).0)

text_decided : (a b : List ℕ) → Decided (a ≡ b)
text_decided [] [] = inl refl
text_decided [] (b ∷ ys) = inr (λ is. cc)
text_decided (a ∷ xs) [] = inr (λ is. cc)
text_decided (a ∷ xs) (b ∷ ys) = cons_decided (number_decided a b (eqb a b) refl) (text_decided xs ys)

token_decided : (t u : Token) → Decided (SameToken t u)
token_decided t u = go (both_decided (kind_decided t.kind u.kind) (text_decided t.text u.text))
  where
    go : Decided ((t.kind ≡ u.kind) × (t.text ≡ u.text)) → Decided (SameToken t u)
    go (inl both) = inl (record { kind = both.0; text = both.1 })
    go (inr never) = inr (λ same. never (same.kind, same.text))

tokens_decided : (ts us : List Token) → Decided (SameTokens ts us)
tokens_decided [] [] = inl tt
tokens_decided [] (u ∷ us) = inr (λ same. same)
tokens_decided (t ∷ ts) [] = inr (λ same. same)
tokens_decided (t ∷ ts) (u ∷ us) = both_decided (token_decided t u) (tokens_decided ts us)

err_no_ok : (fault : LexFault) (x : List Token) → ◌≡◌ {A = Result (List Token) LexFault} (Ok x) (Err fault) → ⊥
err_no_ok fault x is = cc

same_ok : (xs ys : List Token) → ◌≡◌ {A = Result (List Token) LexFault} (Ok xs) (Ok ys) → xs ≡ ys
same_ok xs ys is = cc

-- what the texts together give decides
gives_by : (t u : Token) (answer : Result (List Token) LexFault) → LexesText (t.text ++ u.text) answer → ((other : Result (List Token) LexFault) → IsAnswer other → LexesText (t.text ++ u.text) other → other ≡ answer) → Decided (GivesBoth t u)
gives_by t u (Err fault) said only = inr (λ gives. err_no_ok fault gives.0 (only (Ok gives.0) tt gives.1))
gives_by t u (Ok found) said only = go (tokens_decided found (t ∷ u ∷ []))
  where
    go : Decided (SameTokens found (t ∷ u ∷ [])) → Decided (GivesBoth t u)
    go (inl same) = inl (found, said, same)
    go (inr never) = inr (λ gives. never (subst (λ (ts : List Token). SameTokens ts (t ∷ u ∷ [])) (same_ok gives.0 found (only (Ok gives.0) tt gives.1)) gives.2))

pub gives_decided : (t u : Token) → Decided (GivesBoth t u)
gives_decided t u = let one = text-lexed (t.text ++ u.text) in gives_by t u one.answer one.said one.only

dots_decided : (t u : Token) → Decided (AreDots t u)
dots_decided t u = go (both_decided (text_decided t.text (codes ".")) (text_decided u.text (codes ".")))
  where
    go : Decided ((t.text ≡ codes ".") × (u.text ≡ codes ".")) → Decided (AreDots t u)
    go (inl both) = inl (record { first = both.0; second = both.1 })
    go (inr never) = inr (λ dots. never (dots.first, dots.second))

parted_by : (t u : Token) (space : Bool) → u.space ≡ space → Decided (GivesBoth t u) → Decided (AreDots t u) → Decided (IsParted t u)
parted_by t u true marked gives dots = inl (inl marked)
parted_by t u false marked (inr never) dots = inl (inr (inl never))
parted_by t u false marked (inl gives) (inl dots) = inl (inr (inr dots))
parted_by t u false marked (inl gives) (inr never) = inr none
  where
    none : IsParted t u → ⊥
    none (inl also) = cc
    none (inr (inl not_both)) = not_both gives
    none (inr (inr dots)) = never dots

gap_by : (t u : Token) → Decided (IsParted t u) → (gap : List ℕ) × IsGap t u gap
gap_by t u (inl parted) = (codes " ", inl (refl, parted))
gap_by t u (inr never) = ([], inr (refl, never))

pub gap_between : (t u : Token) → (gap : List ℕ) × IsGap t u gap
gap_between t u = gap_by t u (parted_by t u u.space refl (gives_decided t u) (dots_decided t u))

-- a gap is one
gap_unique : (t u : Token) (one other : List ℕ) → IsGap t u one → IsGap t u other → one ≡ other
gap_unique t u one other (inl (first, parted)) (inl (second, also)) = first ∙ sym second
gap_unique t u one other (inl (first, parted)) (inr (second, never)) = absurd (never parted)
gap_unique t u one other (inr (first, never)) (inl (second, parted)) = absurd (never parted)
gap_unique t u one other (inr (first, never)) (inr (second, also)) = first ∙ sym second

pub printed : (tokens : List Token) → (text : List ℕ) × Prints tokens text
printed [] = ([], refl)
printed (t ∷ []) = (t.text, refl)
printed (t ∷ u ∷ ts) =
    let gap = gap_between t u in
    let rest = printed (u ∷ ts) in
    (t.text ++ gap.0 ++ rest.0, (gap.0, rest.0, gap.1, rest.1, refl))

pub printed_unique : (tokens : List Token) (one other : List ℕ) → Prints tokens one → Prints tokens other → one ≡ other
printed_unique [] one other first second = first ∙ sym second
printed_unique (t ∷ []) one other first second = first ∙ sym second
printed_unique (t ∷ u ∷ ts) one other (gap, rest, is_gap, prints, whole) (gap', rest', is_gap', prints', whole') =
    whole ∙ ap (λ g. t.text ++ g ++ rest) (gap_unique t u gap gap' is_gap is_gap') ∙ ap (λ r. t.text ++ gap' ++ r) (printed_unique (u ∷ ts) rest rest' prints prints') ∙ sym whole'

pub tokens-printed : TokensHaveOneText
tokens-printed tokens =
    let found = printed tokens in
    record { text = found.0; printed = found.1; only = λ other prints. printed_unique tokens other found.0 prints found.1 }
