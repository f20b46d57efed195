-- Replacement lists whose tokens go in as they are.
use Rattle.std.proofs.Common.{◌≡◌, ℕ, Bool, true, false, cond, ◌&&◌, ◌||◌, not, List, [], ◌∷◌, ◌++◌, map, Ok, refl, sym, ap, ◌∙◌}
use Rattle.std.proofs.Math.Path.{fun_ext}
use Rattle.std.specs.Prelude.{is_some}
use Rattle.std.proofs.lemmas.List.{map_push}
use Rattle.std.proofs.lemmas.Bool.{cond-false}
use Rattle.pp_tokens.specs.declared.token.Token.{Token}
use Rattle.mac_base.specs.Input.{◌>>=◌}
use Rattle.macro_expand.specs.declared.before.Before.TheVariants.{Else}
use Rattle.macro_expand.specs.declared.hide_set.hidden_token.HiddenToken.{HiddenToken}
use Rattle.macro_table.specs.Definitions.{DefValue}
use Rattle.macro_expand.specs.Marked.{Names, no_names, union, Marked, fresh, spaced, hiding, is_paste}
use Rattle.macro_expand.specs.Substituted.{Argument, Word, front, with_else, put_in, pasted_on, pasted, words, first_spaced, substituted}
use Rattle.macro_expand.specs.States.{marked, hidden_names, has_paste, no_arguments}
use Rattle.macro_expand.proofs.PassLemmas.{by_put, paste_plain, is_nil, nil_push}
use Rattle.mac_base.proofs.TestLemmas.{or_first, or_second}

-- a token more, of which the first gets the mark
copied_on : (hides : Names) (space first : Bool) (list list2 : List HiddenToken) (before : List Marked) (b : Marked) (k : HiddenToken) → map marked list ≡ map (hiding hides) (first_spaced space before) → first ≡ is_nil before →
    marked k ≡ hiding hides (cond first (spaced space b) b) → list2 ≡ list ++ k ∷ [] → map marked list2 ≡ map (hiding hides) (first_spaced space (before ++ b ∷ []))
copied_on hides space first list list2 [] b k v f a e =
    ap (map marked) e ∙ map_push marked list k ∙ ap (λ l. l ++ marked k ∷ []) v ∙ ap (λ z. z ∷ []) (a ∙ ap (λ t. hiding hides (cond t (spaced space b) b)) f)
copied_on hides space first list list2 (x ∷ xs) b k v f a e =
    ap (map marked) e ∙ map_push marked list k ∙ ap (λ l. l ++ marked k ∷ []) v ∙ ap (λ z. hiding hides (spaced space x) ∷ (map (hiding hides) xs ++ z ∷ [])) (a ∙ ap (λ t. hiding hides (cond t (spaced space b) b)) f)
    ∙ ap (λ l. hiding hides (spaced space x) ∷ l) (sym (map_push (hiding hides) xs b))

-- the first of some tokens has the mark, whether it gets it before or after its names
marked_first : (first space : Bool) (hides : Names) (b : Marked) → cond first (spaced space (hiding hides b)) (hiding hides b) ≡ hiding hides (cond first (spaced space b) b)
marked_first true space hides b = refl
marked_first false space hides b = refl

module _ (hides : Names) (space first : Bool) (list list2 : List HiddenToken) (before : List Token) (t : Token) (h m : HiddenToken) where
  pub copied_more : map marked list ≡ map (hiding hides) (first_spaced space (map fresh before)) → first ≡ is_nil (map fresh before) → marked h ≡ hiding hides (fresh t) →
      marked m ≡ cond first (spaced space (marked h)) (marked h) → list2 ≡ list ++ m ∷ [] →
      map marked list2 ≡ map (hiding hides) (first_spaced space (map fresh (before ++ t ∷ [])))
  copied_more v f c a e =
      copied_on hides space first list list2 (map fresh before) (fresh t) m v f (a ∙ ap (λ x. cond first (spaced space x) x) c ∙ marked_first first space hides (fresh t)) e
      ∙ ap (λ l. map (hiding hides) (first_spaced space l)) (sym (map_push fresh before t))

-- no name more
pub none_more : (names : Names) → names ≡ union names no_names
none_more names = fun_ext (λ n. go (names n))
  where
    go : (p : Bool) → p ≡ (p || false)
    go true = refl
    go false = refl

-- a copy of a token with these names
pub copied : (h : HiddenToken) (t : Token) (names : Names) → h.token ≡ t → hidden_names h.hides ≡ names → marked h ≡ hiding names (fresh t)
copied h t names e f = ap (λ k. record { token = k; hides = hidden_names h.hides }) e ∙ ap (λ n. record { token = t; hides = n }) (f ∙ none_more names)

pub begun : (before : List Token) (t : Token) → false ≡ is_nil (map fresh (before ++ t ∷ []))
begun before t = sym (ap is_nil (map_push fresh before t) ∙ nil_push (map fresh before) (fresh t))

-- the three passes leave such tokens alone
plain_put : (name : List ℕ) (ts : List Token) → has_paste ts ≡ false → put_in name false [] Else ts ≡ Ok (map Word (map fresh ts))
unfolding put_in
plain_put name [] h = refl
plain_put name (t ∷ ts) h =
    ap (λ r. r >>= (λ put. front put.0 (put_in name false [] put.1 ts))) (cond-false (is_paste t) _ (Ok (with_else (Word (fresh t) ∷ []))) (or_first (is_paste t) (has_paste ts) h))
    ∙ ap (front (Word (fresh t) ∷ [])) (plain_put name ts (or_second (is_paste t) (has_paste ts) h))

plain_on : (m : Marked) (ms : List Marked) → pasted_on (Word m) (map Word ms) ≡ Ok (Word m ∷ map Word ms)
unfolding pasted_on
plain_on m [] = refl
plain_on m (n ∷ ms) = paste_plain (Word m) (Word n) (map Word ms) refl ∙ ap (front (Word m ∷ [])) (plain_on n ms)

plain_pasted : (ms : List Marked) → pasted (map Word ms) ≡ Ok (map Word ms)
unfolding pasted
plain_pasted [] = refl
plain_pasted (m ∷ ms) = plain_on m ms

plain_words : (ms : List Marked) → words (map Word ms) ≡ ms
plain_words [] = refl
plain_words (m ∷ ms) = ap (λ l. m ∷ l) (plain_words ms)

pub plain_list : (d : DefValue) (name : List ℕ) (space calls : Bool) (hides : Names) (args : List Argument) (body : List Token) (list : List Marked) → calls ≡ is_some d.params → body ≡ d.body →
    (not calls && no_arguments args && not (has_paste body)) ≡ true → list ≡ map (hiding hides) (first_spaced space (map fresh body)) → substituted d name space hides args ≡ Ok list
plain_list d name space calls hides args body list ec eb g e = go calls args (has_paste body) refl ec g
  where
    go : (c : Bool) (given : List Argument) (p : Bool) → has_paste body ≡ p → c ≡ is_some d.params → (not c && no_arguments given && not p) ≡ true → substituted d name space hides given ≡ Ok list
    go true given p h ec g = cc
    go false (a ∷ more) p h ec g = cc
    go false [] true h ec g = cc
    go false [] false h ec g =
        by_put d name space false hides [] body ec eb (Ok (map Word (map fresh body))) (plain_put name body h)
        ∙ ap (λ r. r >>= (λ qs. Ok (map (hiding hides) (first_spaced space (words qs))))) (plain_pasted (map fresh body))
        ∙ ap Ok (ap (λ ws. map (hiding hides) (first_spaced space ws)) (plain_words (map fresh body)) ∙ sym e)
