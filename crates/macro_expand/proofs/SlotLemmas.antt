-- The lists that the stack holds, step by step.
use Rattle.std.proofs.Common.{◌≡◌, ℕ, zero, suc, ◌+◌, ◌-◌, ◌<◌, ◌≤◌, true, false, List, [], ◌∷◌, ◌++◌, map, take, drop, set, get_or, length, Option, Some, None, refl, sym, ap, ◌∙◌, arith, append_assoc, append-nil}
use Rattle.std.proofs.lemmas.List.{map_push, set_split, take_more, take-set, drop-set}
use Rattle.std.proofs.lemmas.Bool.{cond-true, cond-false}
use Rattle.std.proofs.Math.Seq.{drop-cons}
use Rattle.pp_tokens.specs.declared.token.Token.{Token}
use Rattle.macro_expand.specs.declared.hide_set.hidden_token.HiddenToken.{HiddenToken}
use Rattle.macro_expand.specs.declared.delimiter.Delimiter.{Delimiter}
use Rattle.macro_expand.specs.declared.delimiter.Delimiter.TheVariants.{Opens, Closes, Comma, Inner}
use Rattle.macro_expand.specs.declared.rescan.slots.Slot.{Slot}
use Rattle.macro_expand.specs.declared.rescan.slots.Slot.TheVariants as slot
use Rattle.macro_expand.specs.Marked.{Marked, fresh, delimiter_of}
use Rattle.macro_expand.specs.Calls.{to_first, depth_behind, ends_call, parts, first_list, other_lists}
use Rattle.macro_expand.specs.States.{backwards, marked}
use Rattle.macro_expand.specs.Slots.{Place, Stands, Ends, place_of, lists_of, places, lists, in_front, first_delimiter, place_delimiter, place_hides, Opened, stands_too, ends_too, opened, passed}
use Rattle.macro_expand.proofs.PassLemmas.{backwards_push}

-- the top of the stack
pub top : (xs ys : List Slot) (s : Slot) → xs ≡ ys ++ s ∷ [] → places xs ≡ place_of s ∷ places ys
top xs ys s e = ap places e ∙ backwards_push place_of ys s

pub top_word : (xs ys : List Slot) (s : Slot) (m : Marked) → xs ≡ ys ++ s ∷ [] → place_of s ≡ Stands m → lists xs ≡ to_first m (lists ys)
top_word xs ys s m e p = ap lists_of (top xs ys s e ∙ ap (λ q. q ∷ places ys) p)

pub top_end : (xs ys : List Slot) (s : Slot) → xs ≡ ys ++ s ∷ [] → place_of s ≡ Ends → lists xs ≡ [] ∷ lists ys
top_end xs ys s e p = ap lists_of (top xs ys s e ∙ ap (λ q. q ∷ places ys) p)

pub ended : (ls old : List (List Marked)) → old ≡ [] ∷ ls → (first_list old ≡ []) × (ls ≡ other_lists old)
ended ls old e = (ap first_list e, sym (ap other_lists e))

-- one token taken, before a first list
pub first_more : (m : Marked) (ls : List (List Marked)) → first_list (to_first m ls) ≡ m ∷ first_list ls
first_more m [] = refl
first_more m (a ∷ more) = refl

pub others_same : (m : Marked) (ls : List (List Marked)) → other_lists (to_first m ls) ≡ other_lists ls
others_same m [] = refl
others_same m (a ∷ more) = refl

pub front_push : (ms : List Marked) (m : Marked) (ls : List (List Marked)) → in_front (ms ++ m ∷ []) ls ≡ in_front ms (to_first m ls)
front_push [] m ls = refl
front_push (k ∷ ks) m ls = ap (to_first k) (front_push ks m ls)

pub front_first : (ms : List Marked) (ls : List (List Marked)) → first_list (in_front ms ls) ≡ ms ++ first_list ls
front_first [] ls = refl
front_first (m ∷ ms) ls = first_more m (in_front ms ls) ∙ ap (λ l. m ∷ l) (front_first ms ls)

pub front_others : (ms : List Marked) (ls : List (List Marked)) → other_lists (in_front ms ls) ≡ other_lists ls
front_others [] ls = refl
front_others (m ∷ ms) ls = others_same m (in_front ms ls) ∙ front_others ms ls

pub front_alone : (ms : List Marked) → in_front ms ([] ∷ []) ≡ ms ∷ []
front_alone [] = refl
front_alone (m ∷ ms) = ap (to_first m) (front_alone ms)

-- a token goes from a list to the stack
pub word_on : (xs ys : List Slot) (h : HiddenToken) (j : ℕ) → ys ≡ xs ++ slot.Word h j ∷ [] → lists ys ≡ to_first (marked h) (lists xs)
word_on xs ys h j e = top_word ys xs (slot.Word h j) (marked h) e refl

pub back_one : (list list2 : List HiddenToken) (old new : List (List Marked)) (h : HiddenToken) → list ≡ list2 ++ h ∷ [] → new ≡ to_first (marked h) old → in_front (map marked list2) new ≡ in_front (map marked list) old
back_one list list2 old new h e p =
    ap (in_front (map marked list2)) p ∙ sym (front_push (map marked list2) (marked h) old) ∙ ap (λ l. in_front l old) (sym (ap (map marked) e ∙ map_push marked list2 h))

pub fresh_one : (left rest : List Token) (old new : List (List Marked)) (t : Token) (m : Marked) → left ≡ rest ++ t ∷ [] → m ≡ fresh t → new ≡ to_first m old → in_front (map fresh rest) new ≡ in_front (map fresh left) old
fresh_one left rest old new t m e f p =
    ap (in_front (map fresh rest)) (p ∙ ap (λ m. to_first m old) f) ∙ sym (front_push (map fresh rest) (fresh t) old) ∙ ap (λ l. in_front l old) (sym (ap (map fresh) e ∙ map_push fresh rest t))

-- a token goes from the stack to a list
pub list_one : (ms : List Marked) (m : Marked) (old new : List (List Marked)) (first : List Marked) → old ≡ to_first m new → ms ++ first_list old ≡ first → (ms ++ m ∷ []) ++ first_list new ≡ first
list_one ms m old new first e v = append_assoc ms (m ∷ []) (first_list new) ∙ ap (λ l. ms ++ l) (sym (ap first_list e ∙ first_more m new)) ∙ v

pub list_end : (ms : List Marked) (old : List (List Marked)) (first : List Marked) → first_list old ≡ [] → ms ++ first_list old ≡ first → ms ≡ first
list_end ms old first e v = sym (append-nil ms) ∙ ap (λ l. ms ++ l) (sym e) ∙ v

pub copy_one : (list list2 : List HiddenToken) (h k : HiddenToken) (left rest : List Slot) (s : Slot) (first : List Marked) → marked k ≡ marked h → list2 ≡ list ++ k ∷ [] → left ≡ rest ++ s ∷ [] → place_of s ≡ Stands (marked h) → map marked list ++ first_list (lists left) ≡ first → map marked list2 ++ first_list (lists rest) ≡ first
copy_one list list2 h k left rest s first m e l p v =
    ap (λ l. l ++ first_list (lists rest)) (ap (map marked) e ∙ map_push marked list k ∙ ap (λ z. map marked list ++ z ∷ []) m)
    ∙ list_one (map marked list) (marked h) (lists left) (lists rest) first (top_word left rest s (marked h) l p) v

pub next_is : (p : Place) (ps : List Place) → place_delimiter p ≡ first_delimiter (first_list (lists_of (p ∷ ps)))
next_is (Stands m) ps = sym (ap first_delimiter (first_more m (lists_of ps)))
next_is Ends ps = refl

-- The cut.

backwards-append : {A B : Type 0} (f : A → B) (xs ys : List A) → backwards f (xs ++ ys) ≡ backwards f ys ++ backwards f xs
backwards-append f [] ys = sym (append-nil (backwards f ys))
backwards-append f (x ∷ xs) ys = ap (λ l. l ++ f x ∷ []) (backwards-append f xs ys) ∙ append_assoc (backwards f ys) (backwards f xs) (f x ∷ [])

pub passed_end : (n : ℕ) (before : List Place) (o : Option Opened) → passed n before (ends_too o) ≡ passed (n + 1) (before ++ Ends ∷ []) o
passed_end n before None = refl
passed_end n before (Some o) =
    let sum : n + (o.count + 1) ≡ (n + 1) + o.count = omega arith in
    ap (λ k. Some (record { count = k; close = o.close; places = before ++ Ends ∷ o.places })) sum
    ∙ ap (λ l. Some (record { count = (n + 1) + o.count; close = o.close; places = l })) (sym (append_assoc before (Ends ∷ []) o.places))

pub passed_stands : (n : ℕ) (before : List Place) (m : Marked) (o : Option Opened) → passed n before (stands_too m o) ≡ passed n (before ++ Stands m ∷ []) o
passed_stands n before m None = refl
passed_stands n before m (Some o) = ap (λ l. Some (record { count = n + o.count; close = o.close; places = l })) (sym (append_assoc before (Stands m ∷ []) o.places))

module _ (xs : List Slot) (i at : ℕ) (d s : Slot) (a : at ≡ i + 1) (h : i < length xs) (g : s ≡ get_or xs i d) where
  pub taken : places (take at xs) ≡ place_of s ∷ places (take i xs)
  taken = top (take at xs) (take i xs) s (ap (λ n. take n xs) a ∙ take_more xs i d h ∙ ap (λ v. take i xs ++ v ∷ []) (sym g))

  pub dropped : places (drop i xs) ≡ places (drop at xs) ++ place_of s ∷ []
  dropped = ap places (drop-cons xs i d h ∙ (let e : suc i ≡ at = omega arith in ap (λ n. get_or xs i d ∷ drop n xs) e) ∙ ap (λ v. v ∷ drop at xs) (sym g))

  set_places : places (set xs i slot.End) ≡ places (drop at xs) ++ Ends ∷ places (take i xs)
  set_places =
      let e : suc i ≡ at = omega arith in
      ap places (set_split xs i slot.End h ∙ ap (λ n. take i xs ++ slot.End ∷ drop n xs) e) ∙ backwards-append place_of (take i xs) (slot.End ∷ drop at xs) ∙ append_assoc (places (drop at xs)) (Ends ∷ []) (places (take i xs))

  -- what a part says of a place
  pub word_there : (p : Place) (kind : Delimiter) → place_delimiter p ≡ Some kind → (m : Marked) × (p ≡ Stands m) × (delimiter_of m.token ≡ kind)
  word_there (Stands m) kind e = (m, refl, some_same (delimiter_of m.token) kind e)
    where
      some_same : (a b : Delimiter) → Some a ≡ Some b → a ≡ b
      some_same a b e = cc
  word_there Ends kind e = cc

  module _ (n commas depth : ℕ) (whole : Option Opened) (v : passed n (places (drop at xs)) (opened (places (take at xs)) commas depth) ≡ whole) where
    pub start : (p : Place) → place_of s ≡ p → passed n (places (drop at xs)) (opened (p ∷ places (take i xs)) commas depth) ≡ whole
    start p e = ap (λ l. passed n (places (drop at xs)) (opened l commas depth)) (sym (taken ∙ ap (λ q. q ∷ places (take i xs)) e)) ∙ v

    pub cut_none : place_delimiter (place_of s) ≡ None → whole ≡ None
    cut_none e = go (place_of s) refl e
      where
        go : (p : Place) → place_of s ≡ p → place_delimiter p ≡ None → whole ≡ None
        go (Stands m) q e = cc
        go Ends q e = sym (start Ends q)

    pub cut_here : (kind : Delimiter) → place_delimiter (place_of s) ≡ Some kind → ends_call kind depth ≡ true → whole ≡ Some (record { count = n + 1; close = place_hides (place_of s); places = places (set xs i slot.End) })
    cut_here kind e t =
        let w = word_there (place_of s) kind e in
        sym (start (Stands w.0) w.1)
        ∙ ap (passed n (places (drop at xs))) (cond-true (ends_call (delimiter_of w.0.token) depth) _ _ (ap (λ k. ends_call k depth) w.2 ∙ t))
        ∙ ap (λ l. Some (record { count = n + 1; close = w.0.hides; places = l })) (sym set_places)
        ∙ ap (λ p. Some (record { count = n + 1; close = place_hides p; places = places (set xs i slot.End) })) (sym w.1)

    pub cut_comma : (kind : Delimiter) → place_delimiter (place_of s) ≡ Some kind → ends_call kind depth ≡ false → parts kind commas depth ≡ true →
        passed (n + 1) (places (drop i (set xs i slot.End))) (opened (places (take i (set xs i slot.End))) (commas - 1) depth) ≡ whole
    cut_comma kind e t c =
        let w = word_there (place_of s) kind e in
        let e1 : i + 1 ≡ at = omega arith in
        ap (λ l. passed (n + 1) (places l) (opened (places (take i (set xs i slot.End))) (commas - 1) depth)) (drop-set xs i slot.End h ∙ ap (λ k. slot.End ∷ drop k xs) e1)
        ∙ ap (λ l. passed (n + 1) (places (drop at xs) ++ Ends ∷ []) (opened (places l) (commas - 1) depth)) (take-set xs i slot.End)
        ∙ sym (passed_end n (places (drop at xs)) (opened (places (take i xs)) (commas - 1) depth))
        ∙ ap (passed n (places (drop at xs))) (sym (cond-false (ends_call (delimiter_of w.0.token) depth) _ _ (ap (λ k. ends_call k depth) w.2 ∙ t) ∙ cond-true (parts (delimiter_of w.0.token) commas depth) _ _ (ap (λ k. parts k commas depth) w.2 ∙ c)))
        ∙ start (Stands w.0) w.1

    pub cut_word : (kind : Delimiter) (deep : ℕ) → place_delimiter (place_of s) ≡ Some kind → ends_call kind depth ≡ false → parts kind commas depth ≡ false → deep ≡ depth_behind kind depth →
        passed n (places (drop i xs)) (opened (places (take i xs)) commas deep) ≡ whole
    cut_word kind deep e t c k =
        let w = word_there (place_of s) kind e in
        ap (λ l. passed n l (opened (places (take i xs)) commas deep)) (dropped ∙ ap (λ p. places (drop at xs) ++ p ∷ []) w.1)
        ∙ sym (passed_stands n (places (drop at xs)) w.0 (opened (places (take i xs)) commas deep))
        ∙ ap (λ j. passed n (places (drop at xs)) (stands_too w.0 (opened (places (take i xs)) commas j))) (k ∙ ap (λ q. depth_behind q depth) (sym w.2))
        ∙ ap (passed n (places (drop at xs))) (sym (cond-false (ends_call (delimiter_of w.0.token) depth) _ _ (ap (λ q. ends_call q depth) w.2 ∙ t) ∙ cond-false (parts (delimiter_of w.0.token) commas depth) _ _ (ap (λ q. parts q commas depth) w.2 ∙ c)))
        ∙ start (Stands w.0) w.1

pub less_deep : (kind : Delimiter) (deep depth i at n : ℕ) → deep ≡ depth_behind kind depth → at ≡ i + 1 → depth + at ≤ n → deep + i ≤ n
less_deep Opens deep depth i at n e a h = omega arith
less_deep Closes deep depth i at n e a h = omega arith
less_deep Comma deep depth i at n e a h = omega arith
less_deep Inner deep depth i at n e a h = omega arith

drop_none : (k : ℕ) → drop {A = List Marked} k [] ≡ []
drop_none zero = refl
drop_none (suc k) = refl

drop_next : (ls : List (List Marked)) (k j : ℕ) → j ≡ suc k → drop k (other_lists ls) ≡ drop j ls
drop_next [] k j e = drop_none k ∙ sym (drop_none j)
drop_next (a ∷ more) k j e = ap (λ i. drop i (a ∷ more)) (sym e)

-- lists that are dropped one by one
pub drop_more : (count n : ℕ) (ls new : List (List Marked)) → n < count → new ≡ other_lists ls → drop (count - (n + 1)) new ≡ drop (count - n) ls
drop_more count n ls new h e = ap (drop (count - (n + 1))) e ∙ drop_next ls (count - (n + 1)) (count - n) (omega arith)
