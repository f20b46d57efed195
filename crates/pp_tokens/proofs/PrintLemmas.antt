-- Tokens are printed one after the other.
use Rattle.std.proofs.Common.{◌≡◌, ℕ, zero, suc, ◌+◌, ◌-◌, ◌≤◌, ◌<◌, Bool, List, [], ◌∷◌, ◌++◌, length, get_or, take, Result, Ok, Err, refl, sym, ◌∙◌, ap, subst, arith, append_assoc, ◌↔◌}
use Rattle.std.specs.Bool.{IsTrue}
use Rattle.pp_tokens.specs.declared.fault.LexFault.{LexFault}
use Rattle.pp_tokens.specs.declared.token.Token.{Token}
use Rattle.pp_tokens.specs.Cut.{LexesText}
use Rattle.pp_tokens.specs.Laws.{IsAnswer}
use Rattle.pp_tokens.specs.Printing.{SameTokens, GivesBoth, IsGap, Prints}
use Rattle.pp_tokens.proofs.UniqueLemmas.{text-unique}

-- other than two tokens
pub not_two : (found : List Token) (t u : Token) → (length found ≡ 2 → ⊥) → SameTokens found (t ∷ u ∷ []) → ⊥
not_two [] t u other same = same
not_two (a ∷ []) t u other same = same.1
not_two (a ∷ b ∷ []) t u other same = other refl
not_two (a ∷ b ∷ c ∷ found) t u other same = same.1.1

same_found : (xs ys : List Token) → ◌≡◌ {A = Result (List Token) LexFault} (Ok xs) (Ok ys) → xs ≡ ys
same_found xs ys is = cc

-- the lexer's own answer decides
pub gives-iff : (t u : Token) (found : List Token) (r : Bool) → LexesText (t.text ++ u.text) (Ok found) → (IsTrue r ↔ SameTokens found (t ∷ u ∷ [])) → IsTrue r ↔ GivesBoth t u
gives-iff t u found r lexed decides = (
  λ is. (found, lexed, decides.0 is),
  λ gives.
      let same : gives.0 ≡ found = same_found gives.0 found (text-unique (t.text ++ u.text) (Ok gives.0) (Ok found) tt tt gives.1 lexed) in
      decides.1 (subst (λ (ts : List Token). SameTokens ts (t ∷ u ∷ [])) same gives.2),
)

pub gives-not : (t u : Token) (fault : LexFault) → IsAnswer {A = List Token} (Err fault) → LexesText (t.text ++ u.text) (Err fault) → GivesBoth t u → ⊥
gives-not t u fault answer lexed gives =
    let same = text-unique (t.text ++ u.text) (Ok gives.0) (Err fault) tt answer gives.1 lexed in clash same
  where
    clash : ◌≡◌ {A = Result (List Token) LexFault} (Ok gives.0) (Err fault) → ⊥
    clash is = cc

-- one token more
pub print-more : (ts : List Token) (k : ℕ) (text gap : List ℕ) (t u : Token) → suc k < length ts → t ≡ get_or ts k t → u ≡ get_or ts (suc k) u → Prints (take (suc k) ts) text → IsGap t u gap → Prints (take (suc (suc k)) ts) (text ++ gap ++ u.text)
print-more [] k text gap t u within first second so_far here = absurd (omega arith)
print-more (a ∷ []) k text gap t u within first second so_far here = absurd (omega arith)
print-more (a ∷ b ∷ ts) zero text gap t u within first second so_far here =
    (gap, b.text, subst (λ (x : Token). IsGap x b gap) first (subst (λ (x : Token). IsGap t x gap) second here), refl, ap (λ x. x ++ gap ++ u.text) so_far ∙ ap (λ (x : Token). a.text ++ gap ++ x.text) second)
print-more (a ∷ b ∷ ts) (suc k) text gap t u within first second so_far here =
    let rest : List ℕ = so_far.1 in
    let inner = print-more (b ∷ ts) k rest gap t u (omega arith) first second so_far.3 here in (
      so_far.0,
      rest ++ gap ++ u.text,
      so_far.2,
      inner,
      ap (λ x. x ++ gap ++ u.text) so_far.4
          ∙ append_assoc (a.text ++ so_far.0 ++ rest) gap u.text ∙ append_assoc (a.text ++ so_far.0) rest (gap ++ u.text) ∙ ap (λ x. a.text ++ so_far.0 ++ x) (sym (append_assoc rest gap u.text)),
    )

pub print-next : (ts : List Token) (i : ℕ) (text gap : List ℕ) (t u : Token) → 1 ≤ i → i < length ts → t ≡ get_or ts (i - 1) t → u ≡ get_or ts i u → Prints (take i ts) text → IsGap t u gap → Prints (take (i + 1) ts) (text ++ gap ++ u.text)
print-next ts zero text gap t u some within first second so_far here = absurd (omega arith)
print-next ts (suc k) text gap t u some within first second so_far here =
    let place : suc k - 1 ≡ k = omega arith in
    let next : suc (suc k) ≡ suc k + 1 = omega arith in
    subst (λ n. Prints (take n ts) (text ++ gap ++ u.text)) next (print-more ts k text gap t u within (first ∙ ap (λ n. get_or ts n t) place) second so_far here)
