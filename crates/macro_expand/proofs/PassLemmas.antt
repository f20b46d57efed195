-- The passes over a replacement list.
use Rattle.std.proofs.Common.{◌≡◌, ℕ, Bool, true, false, cond, ◌&&◌, not, List, [], ◌∷◌, ◌++◌, map, Result, Ok, Err, ◌⊎◌, inl, inr, refl, sym, ap, ◌∙◌, subst, append_assoc}
use Rattle.std.specs.Prelude.{reverse, is_some}
use Rattle.std.proofs.lemmas.List.{append-nil, map_push, reverse-append}
use Rattle.std.proofs.lemmas.Bool.{cond-true, cond-false}
use Rattle.pp_tokens.specs.declared.token.Token.{Token}
use Rattle.mac_base.specs.Input.{◌>>=◌}
use Rattle.mac_base.proofs.Choices.{same_ok}
use Rattle.macro_expand.specs.declared.before.Before.{Before}
use Rattle.macro_expand.specs.declared.before.Before.TheVariants.{Else}
use Rattle.macro_expand.specs.declared.fault.ExpandFault.{ExpandFault}
use Rattle.macro_expand.specs.declared.fault.ExpandFault.TheVariants.{NoMemory}
use Rattle.macro_table.specs.Definitions.{DefValue}
use Rattle.macro_expand.specs.declared.substitution.argument_pass.Cell.{Cell}
use Rattle.macro_expand.specs.declared.hide_set.hidden_token.HiddenToken.{HiddenToken}
use Rattle.macro_expand.specs.Marked.{Names, Marked, spaced, hiding, is_hash, is_paste}
use Rattle.macro_expand.specs.Calls.{makes_string, paste_follows}
use Rattle.macro_expand.specs.Substituted.{Argument, find_argument, Piece, front, with_else, word_of, token_put, put_in, join, is_joins, pasted_on, pasted, as_words, words, first_spaced, substituted}
use Rattle.macro_expand.specs.States.{backwards, marked, piece_of, onto}

-- a fault that is answered: want of memory, or the one that is read
abbrev pub Fails : {A : Type 0} → ExpandFault → Result A ExpandFault → Type 0
Fails fault reading = (fault ≡ NoMemory) ⊎ (reading ≡ Err fault)

pub fails_as : {A B : Type 0} (fault : ExpandFault) (r : Result A ExpandFault) (s : Result B ExpandFault) → (r ≡ Err fault → s ≡ Err fault) → Fails fault r → Fails fault s
fails_as fault r s h (inl m) = inl m
fails_as fault r s h (inr e) = inr (h e)

front_front : {A : Type 0} (xs ys : List A) (r : Result (List A) ExpandFault) → front xs (front ys r) ≡ front (xs ++ ys) r
front_front xs ys (Ok zs) = ap Ok (sym (append_assoc xs ys zs))
front_front xs ys (Err e) = refl

-- The first pass.

abbrev as_else : Result (List Piece) ExpandFault → Result (List Piece × Before) ExpandFault
as_else w = w >>= (λ pieces. Ok (with_else pieces))

word_ok : (xs ys : List Piece) (w : Result (List Piece) ExpandFault) → front xs w ≡ Ok ys → onto xs (as_else w) ≡ Ok (ys, Else)
word_ok xs ys (Ok zs) h = ap (λ l. Ok (l, Else)) (same_ok {E = ExpandFault} (xs ++ zs) ys h)
word_ok xs ys (Err e) h = cc

word_err : (xs : List Piece) (w : Result (List Piece) ExpandFault) (fault : ExpandFault) → front xs w ≡ Err fault → onto xs (as_else w) ≡ Err fault
word_err xs (Ok zs) fault h = cc
word_err xs (Err e) fault h = cc

module _ (macro : List ℕ) (calls : Bool) (args : List Argument) (before : Before) (next : Bool) (t : Token) (xs : List Piece)
    (p : is_paste t ≡ false) (s : makes_string calls t ≡ false) where
  plain_put : token_put macro calls args before next t ≡ as_else (word_of macro before next (find_argument args t) t)
  plain_put = rw (p, s) refl

  pub put_word_ok : (ys : List Piece) → front xs (word_of macro before next (find_argument args t) t) ≡ Ok ys → onto xs (token_put macro calls args before next t) ≡ Ok (ys, Else)
  put_word_ok ys h = ap (onto xs) plain_put ∙ word_ok xs ys (word_of macro before next (find_argument args t) t) h

  pub put_word_err : (fault : ExpandFault) → Fails fault (front xs (word_of macro before next (find_argument args t) t)) → Fails fault (onto xs (token_put macro calls args before next t))
  put_word_err fault = fails_as fault (front xs (word_of macro before next (find_argument args t) t)) (onto xs (token_put macro calls args before next t)) (λ h. ap (onto xs) plain_put ∙ word_err xs (word_of macro before next (find_argument args t) t) fault h)

then_ok : (xs ys : List Piece) (b : Before) (r : Result (List Piece × Before) ExpandFault) (k : Before → Result (List Piece) ExpandFault) → onto xs r ≡ Ok (ys, b) → front xs (r >>= (λ put. front put.0 (k put.1))) ≡ front ys (k b)
then_ok xs ys b (Ok put) k h =
    let e = same_ok {A = List Piece × Before} {E = ExpandFault} (xs ++ put.0, put.1) (ys, b) h in
    front_front xs put.0 (k put.1) ∙ ap (λ (q : List Piece × Before). front q.0 (k q.1)) e
then_ok xs ys b (Err f) k h = cc

then_err : (xs : List Piece) (fault : ExpandFault) (r : Result (List Piece × Before) ExpandFault) (k : Before → Result (List Piece) ExpandFault) → onto xs r ≡ Err fault → front xs (r >>= (λ put. front put.0 (k put.1))) ≡ Err fault
then_err xs fault (Ok put) k h = cc
then_err xs fault (Err f) k h = cc

module _ (macro : List ℕ) (calls : Bool) (args : List Argument) (before : Before) (t : Token) (ts left : List Token) (xs : List Piece) (whole : Result (List Piece) ExpandFault)
    (n : Bool) (e : n ≡ paste_follows ts) (l : left ≡ t ∷ ts) (v : front xs (put_in macro calls args before left) ≡ whole) where
  pub put_next : (ys : List Piece) (b : Before) → onto xs (token_put macro calls args before n t) ≡ Ok (ys, b) → front ys (put_in macro calls args b ts) ≡ whole
  unfolding put_in
  put_next ys b h = sym (then_ok xs ys b (token_put macro calls args before (paste_follows ts) t) (λ b. put_in macro calls args b ts) (subst (λ n. onto xs (token_put macro calls args before n t) ≡ Ok (ys, b)) e h)) ∙ ap (λ l. front xs (put_in macro calls args before l)) (sym l) ∙ v

  pub put_fails : (fault : ExpandFault) → Fails fault (onto xs (token_put macro calls args before n t)) → Fails fault whole
  unfolding put_in
  put_fails fault = fails_as fault (onto xs (token_put macro calls args before n t)) whole
      (λ h. sym v ∙ ap (λ l. front xs (put_in macro calls args before l)) l ∙ then_err xs fault (token_put macro calls args before (paste_follows ts) t) (λ b. put_in macro calls args b ts) (subst (λ n. onto xs (token_put macro calls args before n t) ≡ Err fault) e h))

pub put_end : (macro : List ℕ) (calls : Bool) (args : List Argument) (before : Before) (left : List Token) (xs : List Piece) (whole : Result (List Piece) ExpandFault) → left ≡ [] → front xs (put_in macro calls args before left) ≡ whole → whole ≡ Ok xs
unfolding put_in
put_end macro calls args before left xs whole l v = sym v ∙ ap (λ l. front xs (put_in macro calls args before l)) l ∙ ap Ok (append-nil xs)

-- Lists that are kept in reverse order.

pub backwards_push : {A B : Type 0} (f : A → B) (xs : List A) (x : A) → backwards f (xs ++ x ∷ []) ≡ f x ∷ backwards f xs
backwards_push f [] x = refl
backwards_push f (y ∷ ys) x = ap (λ l. l ++ f y ∷ []) (backwards_push f ys x)

pub backwards_reverse : {A B : Type 0} (f : A → B) (xs : List A) → backwards f (reverse xs) ≡ map f xs
backwards_reverse f [] = refl
backwards_reverse f (x ∷ xs) = ap (backwards f) (reverse-append (x ∷ []) xs) ∙ backwards_push f (reverse xs) x ∙ ap (λ l. f x ∷ l) (backwards_reverse f xs)

front_nil : {A : Type 0} (r : Result (List A) ExpandFault) → front [] r ≡ r
front_nil (Ok ys) = refl
front_nil (Err e) = refl

-- The second pass.

at_top : (xs ys : List Cell) (o : Cell) → xs ≡ ys ++ o ∷ [] → backwards piece_of xs ≡ piece_of o ∷ backwards piece_of ys
at_top xs ys o e = ap (backwards piece_of) e ∙ backwards_push piece_of ys o

pub paste_plain : (p o : Piece) (ps : List Piece) → is_joins o ≡ false → pasted_on p (o ∷ ps) ≡ front (p ∷ []) (pasted_on o ps)
unfolding pasted_on
paste_plain p o [] h = refl
paste_plain p o (q ∷ ps) h = cond-false (is_joins o) _ _ h

paste_join : (p o q : Piece) (ps : List Piece) → is_joins o ≡ true → pasted_on p (o ∷ q ∷ ps) ≡ (join p q >>= (λ r. pasted_on r ps))
unfolding pasted_on
paste_join p o q ps h = cond-true (is_joins o) _ _ h

pub paste_start : (xs ys done : List Cell) (p : Cell) → xs ≡ ys ++ p ∷ [] → done ≡ [] → front (map piece_of done) (pasted_on (piece_of p) (backwards piece_of ys)) ≡ pasted (backwards piece_of xs)
unfolding pasted
paste_start xs ys done p e d = rw d (front_nil (pasted_on (piece_of p) (backwards piece_of ys)) ∙ ap pasted (sym (at_top xs ys p e)))

pub paste_none : (xs done : List Cell) → xs ≡ [] → done ≡ [] → pasted (backwards piece_of xs) ≡ Ok (map piece_of done)
unfolding pasted
paste_none xs done e d = rw (e, d) refl

module _ (all rest rest2 done : List Cell) (p o : Cell) (v : front (map piece_of done) (pasted_on (piece_of p) (backwards piece_of rest)) ≡ pasted (backwards piece_of all)) (e : rest ≡ rest2 ++ o ∷ []) where
  pub paste_word : (done2 : List Cell) → done2 ≡ done ++ p ∷ [] → is_joins (piece_of o) ≡ false → front (map piece_of done2) (pasted_on (piece_of o) (backwards piece_of rest2)) ≡ pasted (backwards piece_of all)
  paste_word done2 d j =
      ap (λ l. front l (pasted_on (piece_of o) (backwards piece_of rest2))) (ap (map piece_of) d ∙ map_push piece_of done p)
      ∙ sym (front_front (map piece_of done) (piece_of p ∷ []) (pasted_on (piece_of o) (backwards piece_of rest2)))
      ∙ ap (front (map piece_of done)) (sym (ap (pasted_on (piece_of p)) (at_top rest rest2 o e) ∙ paste_plain (piece_of p) (piece_of o) (backwards piece_of rest2) j)) ∙ v

  pub paste_last : (done1 done2 : List Cell) → rest2 ≡ [] → done1 ≡ done ++ p ∷ [] → done2 ≡ done1 ++ o ∷ [] → pasted (backwards piece_of all) ≡ Ok (map piece_of done2)
  unfolding pasted_on
  paste_last done1 done2 n d1 d2 =
      sym v ∙ ap (λ l. front (map piece_of done) (pasted_on (piece_of p) l)) (at_top rest rest2 o e ∙ ap (λ r. piece_of o ∷ backwards piece_of r) n)
      ∙ ap Ok (sym (rw (d2, d1, map_push, map_push) (append_assoc (map piece_of done) (piece_of p ∷ []) (piece_of o ∷ []))))

  module _ (rest3 : List Cell) (q : Cell) (e2 : rest2 ≡ rest3 ++ q ∷ []) (j : is_joins (piece_of o) ≡ true) where
    joining : pasted_on (piece_of p) (backwards piece_of rest) ≡ (join (piece_of p) (piece_of q) >>= (λ r. pasted_on r (backwards piece_of rest3)))
    joining = ap (pasted_on (piece_of p)) (at_top rest rest2 o e ∙ ap (λ l. piece_of o ∷ l) (at_top rest2 rest3 q e2)) ∙ paste_join (piece_of p) (piece_of o) (piece_of q) (backwards piece_of rest3) j

    pub paste_joined : (r : Cell) → join (piece_of p) (piece_of q) ≡ Ok (piece_of r) → front (map piece_of done) (pasted_on (piece_of r) (backwards piece_of rest3)) ≡ pasted (backwards piece_of all)
    paste_joined r g = ap (front (map piece_of done)) (sym (joining ∙ ap (λ r. r >>= (λ r. pasted_on r (backwards piece_of rest3))) g)) ∙ v

    pub paste_fault : (fault : ExpandFault) → Fails fault (join (piece_of p) (piece_of q)) → Fails fault (pasted (backwards piece_of all))
    paste_fault fault = fails_as fault (join (piece_of p) (piece_of q)) (pasted (backwards piece_of all))
        (λ k. sym v ∙ ap (front (map piece_of done)) (joining ∙ ap (λ r. r >>= (λ r. pasted_on r (backwards piece_of rest3))) k))

pub paste_end : (all rest done done2 : List Cell) (p : Cell) → front (map piece_of done) (pasted_on (piece_of p) (backwards piece_of rest)) ≡ pasted (backwards piece_of all) → rest ≡ [] → done2 ≡ done ++ p ∷ [] → pasted (backwards piece_of all) ≡ Ok (map piece_of done2)
unfolding pasted_on
paste_end all rest done done2 p v e d =
    sym v ∙ ap (λ l. front (map piece_of done) (pasted_on (piece_of p) (backwards piece_of l))) e ∙ ap Ok (sym (ap (map piece_of) d ∙ map_push piece_of done p))

-- The third pass.

words-append : (ps qs : List Piece) → words (ps ++ qs) ≡ words ps ++ words qs
words-append [] qs = refl
words-append (p ∷ ps) qs = ap (λ l. as_words p ++ l) (words-append ps qs) ∙ sym (append_assoc (as_words p) (words ps) (words qs))

-- the token of a piece more
pub word_more : (list list2 : List HiddenToken) (before : List Cell) (o : Cell) → map marked list ≡ words (map piece_of before) → map marked list2 ≡ map marked list ++ as_words (piece_of o) → map marked list2 ≡ words (map piece_of (before ++ o ∷ []))
word_more list list2 before o v e =
    e ∙ ap (λ l. l ++ as_words (piece_of o)) v ∙ ap (λ l. words (map piece_of before) ++ l) (sym (append-nil (as_words (piece_of o))))
    ∙ sym (ap words (map_push piece_of before o) ∙ words-append (map piece_of before) (piece_of o ∷ []))

-- whether there is no token before
abbrev pub is_nil : {A : Type 0} → List A → Bool
is_nil [] = true
is_nil (x ∷ xs) = false

pub nil_push : {A : Type 0} (xs : List A) (x : A) → is_nil (xs ++ x ∷ []) ≡ false
nil_push [] x = refl
nil_push (y ∷ ys) x = refl

-- a token more, of which the first gets the mark
pub hidden_more : (hides : Names) (space first : Bool) (list list2 before : List HiddenToken) (h m k : HiddenToken) → map marked list ≡ map (hiding hides) (first_spaced space (map marked before)) → first ≡ is_nil before →
    marked m ≡ cond first (spaced space (marked h)) (marked h) → marked k ≡ hiding hides (marked m) → list2 ≡ list ++ k ∷ [] → map marked list2 ≡ map (hiding hides) (first_spaced space (map marked (before ++ h ∷ [])))
hidden_more hides space first list list2 [] h m k v f a b e =
    ap (map marked) e ∙ map_push marked list k ∙ ap (λ l. l ++ marked k ∷ []) v ∙ ap (λ z. z ∷ []) (b ∙ ap (hiding hides) (a ∙ ap (λ t. cond t (spaced space (marked h)) (marked h)) f))
hidden_more hides space first list list2 (x ∷ xs) h m k v f a b e =
    ap (map marked) e ∙ map_push marked list k ∙ ap (λ l. l ++ marked k ∷ []) v ∙ ap (λ z. hiding hides (spaced space (marked x)) ∷ (map (hiding hides) (map marked xs) ++ z ∷ [])) (b ∙ ap (hiding hides) (a ∙ ap (λ t. cond t (spaced space (marked h)) (marked h)) f))
    ∙ ap (λ l. hiding hides (spaced space (marked x)) ∷ l) (sym (ap (map (hiding hides)) (map_push marked xs h) ∙ map_push (hiding hides) (map marked xs) (marked h)))

-- The three passes.

abbrev finish : Bool → Names → List Piece → List Marked
finish space hides qs = map (hiding hides) (first_spaced space (words qs))

module _ (d : DefValue) (name : List ℕ) (space calls : Bool) (hides : Names) (args : List Argument) (body : List Token) (ec : calls ≡ is_some d.params) (eb : body ≡ d.body) where
  pub by_put : (r : Result (List Piece) ExpandFault) → put_in name calls args Else body ≡ r → substituted d name space hides args ≡ (r >>= (λ ps. pasted ps >>= (λ qs. Ok (finish space hides qs))))
  unfolding substituted
  by_put r e = ap (λ r. r >>= (λ ps. pasted ps >>= (λ qs. Ok (finish space hides qs)))) (ap (λ b. put_in name b args Else d.body) (sym ec) ∙ ap (λ l. put_in name calls args Else l) (sym eb) ∙ e)

  pub put_in_fault : (fault : ExpandFault) → Fails fault (put_in name calls args Else body) → Fails fault (substituted d name space hides args)
  put_in_fault fault = fails_as fault (put_in name calls args Else body) (substituted d name space hides args) (λ k. by_put (Err fault) k)

  module _ (cells turned : List Cell) (g : put_in name calls args Else body ≡ Ok (map piece_of cells)) (t : turned ≡ reverse cells) where
    put_is : put_in name calls args Else body ≡ Ok (backwards piece_of turned)
    put_is = g ∙ ap Ok (sym (ap (backwards piece_of) t ∙ backwards_reverse piece_of cells))

    pub pasted_fault : (fault : ExpandFault) → Fails fault (pasted (backwards piece_of turned)) → Fails fault (substituted d name space hides args)
    pasted_fault fault = fails_as fault (pasted (backwards piece_of turned)) (substituted d name space hides args)
        (λ k. by_put (Ok (backwards piece_of turned)) put_is ∙ ap (λ r. r >>= (λ qs. Ok (finish space hides qs))) k)

    pub all_passes : (joined : List Cell) (list : List Marked) → pasted (backwards piece_of turned) ≡ Ok (map piece_of joined) → list ≡ finish space hides (map piece_of joined) → substituted d name space hides args ≡ Ok list
    all_passes joined list h f = by_put (Ok (backwards piece_of turned)) put_is ∙ ap (λ r. r >>= (λ qs. Ok (finish space hides qs))) h ∙ ap Ok (sym f)
