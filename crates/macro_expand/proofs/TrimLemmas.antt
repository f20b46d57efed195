-- An argument whose parameter is beside no operator is not looked at as written.
use Rattle.std.proofs.Common.{◌≡◌, ℕ, Bool, true, false, cond, ◌||◌, ◌&&◌, not, List, [], ◌∷◌, ◌++◌, Option, Some, Result, Ok, Err, ◌⊎◌, inl, inr, refl, sym, ap, ◌∙◌, map}
use Rattle.std.specs.Prelude.{is_some}
use Rattle.mac_base.specs.Input.{◌>>=◌}
use Rattle.pp_tokens.specs.declared.token.Token.{Token}
use Rattle.macro_table.specs.Definitions.{DefValue}
use Rattle.macro_expand.specs.declared.before.Before.{Before}
use Rattle.macro_expand.specs.declared.before.Before.TheVariants.{Else, Paste, Hash}
use Rattle.macro_expand.specs.declared.fault.ExpandFault.{ExpandFault}
use Rattle.macro_expand.specs.Marked.{Names, Marked, hiding, is_named, is_hash, is_paste}
use Rattle.macro_expand.specs.Calls.{makes_string, is_operator, paste_follows}
use Rattle.macro_expand.specs.Substituted.{Argument, find_argument, Piece, Joins, front, with_else, word_of, token_put, put_in, pasted, words, first_spaced, substituted}
use Rattle.macro_expand.specs.States.{stands_bound}
use Rattle.macro_expand.proofs.AlikeLemmas.{Alike, found, bind_same}
use Rattle.mac_base.proofs.TestLemmas.{or_first, or_second}

and_with : (p q : Bool) → (p && q) ≡ false → p ≡ true → q ≡ false
and_with true q h e = h
and_with false q h e = cc

behind_by : (calls : Bool) (t : Token) (before : Before) (w : Result (List Piece) ExpandFault) (put : List Piece × Before) (paste hash : Bool) → paste ≡ false → hash ≡ false →
    cond paste (Ok (Joins t ∷ [], Paste)) (cond (calls && hash) (Ok ([], Hash t.space)) (w >>= (λ pieces. Ok (with_else pieces)))) ≡ Ok put → put.1 ≡ Else
behind_by calls t before w put true hash p h e = cc
behind_by calls t before w put false true p h e = cc
behind_by true t before (Ok ps) put false false p h e = sym (ap after_of e)
  where
    after_of : Result (List Piece × Before) ExpandFault → Before
    after_of (Ok x) = x.1
    after_of (Err f) = Else
behind_by false t before (Ok ps) put false false p h e = sym (ap after_of e)
  where
    after_of : Result (List Piece × Before) ExpandFault → Before
    after_of (Ok x) = x.1
    after_of (Err f) = Else
behind_by true t before (Err f) put false false p h e = cc
behind_by false t before (Err f) put false false p h e = cc

module _ (macro : List ℕ) (calls : Bool) (more : List Argument) (name : List ℕ) (p q x : List Marked) where
  one : Argument
  one = record { name = name; plain = p; expanded = x }

  other : Argument
  other = record { name = name; plain = q; expanded = x }

  word_same : (before : Before) (next : Bool) (t : Token) (a b : Option Argument) → Alike one other t a b → (is_named name t ≡ true → (before ≡ Else) × (next ≡ false)) → word_of macro before next a t ≡ word_of macro before next b t
  unfolding one other
  word_same before next t a b (inl e) h = ap (λ o. word_of macro before next o t) e
  word_same before next t a b (inr r) h =
      let k = h r.2 in
      ap (λ o. word_of macro before next o t) r.0 ∙ ap (λ z. word_of macro z next (Some one) t) k.0 ∙ ap (λ n. word_of macro Else n (Some one) t) k.1
      ∙ sym (ap (λ o. word_of macro before next o t) r.1 ∙ ap (λ z. word_of macro z next (Some other) t) k.0 ∙ ap (λ n. word_of macro Else n (Some other) t) k.1)

  put_same : (done : List Argument) (body : List Token) (before : Before) (behind : Bool) → stands_bound name behind body ≡ false → (behind ≡ false → before ≡ Else) → put_in macro calls (done ++ one ∷ more) before body ≡ put_in macro calls (done ++ other ∷ more) before body
  unfolding put_in stands_bound one other
  put_same done [] before behind h k = refl
  put_same done (t ∷ ts) before behind h k =
      let free = or_first (is_named name t && (behind || paste_follows ts)) (stands_bound name (is_operator t) ts) h in
      let later = or_second (is_named name t && (behind || paste_follows ts)) (stands_bound name (is_operator t) ts) h in
      let word = word_same before (paste_follows ts) t (find_argument (done ++ one ∷ more) t) (find_argument (done ++ other ∷ more) t) (found more one other refl done t)
      (λ n. let none = and_with (is_named name t) (behind || paste_follows ts) free n in (k (or_first behind (paste_follows ts) none), or_second behind (paste_follows ts) none)) in
      bind_same (token_put macro calls (done ++ one ∷ more) before (paste_follows ts) t) (token_put macro calls (done ++ other ∷ more) before (paste_follows ts) t)
      (λ b. put_in macro calls (done ++ one ∷ more) b ts) (λ b. put_in macro calls (done ++ other ∷ more) b ts)
      (ap (λ w. cond (is_paste t) (Ok (Joins t ∷ [], Paste)) (cond (makes_string calls t) (Ok ([], Hash t.space)) (w >>= (λ pieces. Ok (with_else pieces))))) word)
      (λ put e. put_same done ts put.1 (is_operator t) later
      (λ n. behind_by calls t before (word_of macro before (paste_follows ts) (find_argument (done ++ one ∷ more) t) t) put (is_paste t) (is_hash t) (or_first (is_paste t) (is_hash t) n) (or_second (is_paste t) (is_hash t) n) e))

-- the tokens as written make no difference
pub trimmed : (d : DefValue) (macro : List ℕ) (space : Bool) (hides : Names) (done more : List Argument) (name : List ℕ) (p q x : List Marked) → stands_bound name false d.body ≡ false →
    substituted d macro space hides (done ++ record { name = name; plain = p; expanded = x } ∷ more) ≡ substituted d macro space hides (done ++ record { name = name; plain = q; expanded = x } ∷ more)
unfolding substituted one other
trimmed d macro space hides done more name p q x h =
    ap (λ r. r >>= (λ ps. pasted ps >>= (λ qs. Ok (map (hiding hides) (first_spaced space (words qs)))))) (put_same macro (is_some d.params) more name p q x done d.body Else false h (λ e. refl))
