-- What an argument expands to makes no difference where its parameter is not free.
use Rattle.std.proofs.Common.{◌≡◌, ℕ, Bool, true, false, cond, ◌||◌, ◌&&◌, not, List, [], ◌∷◌, ◌++◌, Option, Some, Result, Ok, Err, ◌⊎◌, inl, inr, refl, sym, ap, ◌∙◌, map}
use Rattle.std.specs.Prelude.{is_some}
use Rattle.mac_base.specs.Input.{◌>>=◌}
use Rattle.pp_tokens.specs.declared.token.Token.{Token}
use Rattle.macro_table.specs.Definitions.{DefValue}
use Rattle.macro_expand.specs.declared.before.Before.{Before}
use Rattle.macro_expand.specs.declared.before.Before.TheVariants.{Else, Paste, Hash}
use Rattle.macro_expand.specs.declared.fault.ExpandFault.{ExpandFault}
use Rattle.macro_expand.specs.Marked.{Names, Marked, hiding, is_named, is_hash, is_paste}
use Rattle.macro_expand.specs.Calls.{makes_string, is_operator, paste_follows, is_free, stands_free}
use Rattle.macro_expand.specs.Substituted.{Argument, find_argument, Piece, Word, Joins, in_place, string_of, with_else, word_of, token_put, put_in, pasted, words, first_spaced, substituted}
use Rattle.macro_expand.proofs.AlikeLemmas.{Alike, found, bind_same}
use Rattle.mac_base.proofs.TestLemmas.{or_first, or_second}

is_else : Before → Bool
is_else Else = true
is_else Paste = false
is_else (Hash space) = false

-- a name that is used without an operator is free
needed : (e a n f : Bool) → a ≡ not e → (not a && n && not f) ≡ false → n ≡ true → (e && not f) ≡ false
needed true true n f k h u = cc
needed true false true f k h u = h
needed true false false f k h u = cc
needed false a n f k h u = refl

after_of : Before → Result (List Piece × Before) ExpandFault → Before
after_of b (Ok x) = x.1
after_of b (Err f) = b

-- what is before the next token is an operator exactly where this one is
next_is : (t : Token) (w : Result (List Piece) ExpandFault) (put : List Piece × Before) (paste hash : Bool) →
    cond paste (Ok (Joins t ∷ [], Paste)) (cond hash (Ok ([], Hash t.space)) (w >>= (λ pieces. Ok (with_else pieces)))) ≡ Ok put → (paste || hash) ≡ not (is_else put.1)
unfolding is_else after_of
next_is t w put true hash e = ap (λ r. not (is_else (after_of Paste r))) e
next_is t w put false true e = ap (λ r. not (is_else (after_of Paste r))) e
next_is t (Ok ps) put false false e = ap (λ r. not (is_else (after_of Paste r))) e
next_is t (Err f) put false false e = cc

module _ (macro : List ℕ) (more : List Argument) (one other : Argument) (same : other.name ≡ one.name) (plain : other.plain ≡ one.plain) where
  used : (before : Before) (next : Bool) (t : Token) → (is_else before && not next) ≡ false → word_of macro before next (Some one) t ≡ word_of macro before next (Some other) t
  unfolding is_else
  used (Hash space) next t k = ap (λ p. string_of macro space p >>= (λ m. Ok (Word m ∷ []))) (sym plain)
  used Paste next t k = ap (λ p. Ok (in_place t.space p)) (sym plain)
  used Else true t k = ap (λ p. Ok (in_place t.space p)) (sym plain)
  used Else false t k = cc

  word_free : (before : Before) (next : Bool) (t : Token) (a b : Option Argument) → Alike one other t a b → (is_named one.name t ≡ true → (is_else before && not next) ≡ false) → word_of macro before next a t ≡ word_of macro before next b t
  word_free before next t a b (inl e) h = ap (λ o. word_of macro before next o t) e
  word_free before next t a b (inr r) h = ap (λ o. word_of macro before next o t) r.0 ∙ used before next t (h r.2) ∙ sym (ap (λ o. word_of macro before next o t) r.1)

  put_free : (done : List Argument) (body : List Token) (before : Before) (after : Bool) → stands_free one.name after body ≡ false → after ≡ not (is_else before) → put_in macro true (done ++ one ∷ more) before body ≡ put_in macro true (done ++ other ∷ more) before body
  unfolding put_in stands_free
  put_free done [] before after h k = refl
  put_free done (t ∷ ts) before after h k =
      let here = or_first (is_free one.name after (t ∷ ts)) (stands_free one.name (is_operator t) ts) h in
      let later = or_second (is_free one.name after (t ∷ ts)) (stands_free one.name (is_operator t) ts) h in
      let word = word_free before (paste_follows ts) t (find_argument (done ++ one ∷ more) t) (find_argument (done ++ other ∷ more) t) (found more one other same done t)
      (λ n. needed (is_else before) after (is_named one.name t) (paste_follows ts) k here n) in
      bind_same (token_put macro true (done ++ one ∷ more) before (paste_follows ts) t) (token_put macro true (done ++ other ∷ more) before (paste_follows ts) t)
      (λ b. put_in macro true (done ++ one ∷ more) b ts) (λ b. put_in macro true (done ++ other ∷ more) b ts)
      (ap (λ w. cond (is_paste t) (Ok (Joins t ∷ [], Paste)) (cond (is_hash t) (Ok ([], Hash t.space)) (w >>= (λ pieces. Ok (with_else pieces))))) word)
      (λ put e. put_free done ts put.1 (is_operator t) later
      (next_is t (word_of macro before (paste_follows ts) (find_argument (done ++ one ∷ more) t) t) put (is_paste t) (is_hash t) e))

pub free_only : (d : DefValue) (macro : List ℕ) (space : Bool) (hides : Names) (done more : List Argument) (one other : Argument) → other.name ≡ one.name → other.plain ≡ one.plain → is_some d.params ≡ true → stands_free one.name false d.body ≡ false →
    substituted d macro space hides (done ++ one ∷ more) ≡ substituted d macro space hides (done ++ other ∷ more)
unfolding substituted is_else
free_only d macro space hides done more one other same plain f h =
    let finish = λ (r : Result (List Piece) ExpandFault). r >>= (λ ps. pasted ps >>= (λ qs. Ok (map (hiding hides) (first_spaced space (words qs))))) in
    ap (λ c. finish (put_in macro c (done ++ one ∷ more) Else d.body)) f
    ∙ ap finish (put_free macro more one other same plain done d.body Else false h refl)
    ∙ sym (ap (λ c. finish (put_in macro c (done ++ other ∷ more) Else d.body)) f)
