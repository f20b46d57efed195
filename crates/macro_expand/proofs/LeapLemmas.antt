-- What the slots of the stack say of the parentheses that close others.
use Rattle.std.proofs.Common.{◌≡◌, ℕ, zero, suc, ◌+◌, ◌-◌, ◌≤◌, Bool, true, false, cond, nat_eq, not, ◌&&◌, List, [], ◌∷◌, ◌++◌, map, take, drop, length, Option, Some, None, inl, inr, refl, sym, ap, ◌∙◌, subst, arith, append_assoc}
use Rattle.std.proofs.lemmas.List.{append-nil, length-drop, take-append-drop, length-take-le}
use Rattle.std.proofs.lemmas.Bool.{cond-false, eqb-true}
use Rattle.macro_expand.specs.declared.delimiter.Delimiter.{Delimiter}
use Rattle.macro_expand.specs.declared.delimiter.Delimiter.TheVariants.{Opens, Closes, Comma, Inner}
use Rattle.macro_expand.specs.declared.hide_set.hidden_token.HiddenToken.{HiddenToken}
use Rattle.macro_expand.specs.declared.rescan.slots.Slot.{Slot}
use Rattle.macro_expand.specs.declared.rescan.slots.Slot.TheVariants as slot
use Rattle.macro_expand.specs.Heads.{is_opens}
use Rattle.macro_expand.specs.Marked.{Marked, delimiter_of}
use Rattle.macro_expand.specs.Calls.{depth_behind, ends_call, parts}
use Rattle.macro_expand.specs.Slots.{Place, Stands, Ends, place_of, place_delimiter, places, Opened, stands_too, ends_too, opened, passed, turned, leap, is_none_left, closes_at, StaysWithin, IsRight, AreRight, AllRight, IsClosing}
use Rattle.macro_expand.proofs.PassLemmas.{backwards_push}

pub map_turned : (xs : List Slot) → map place_of (turned xs) ≡ places xs
map_turned [] = refl
map_turned (x ∷ xs) = map_join (turned xs) x ∙ ap (λ l. l ++ place_of x ∷ []) (map_turned xs)
  where
    map_join : (ys : List Slot) (x : Slot) → map place_of (ys ++ x ∷ []) ≡ map place_of ys ++ place_of x ∷ []
    map_join [] x = refl
    map_join (y ∷ ys) x = ap (λ l. place_of y ∷ l) (map_join ys x)

-- One group of parentheses after another.

-- what is decided by the part of the first token
abbrev pub closes_by : Delimiter → ℕ → List Place → ℕ → Bool
closes_by p k ps depth = cond (ends_call p depth) (is_none_left k) (closes_at k ps (depth_behind p depth))

not_zero : (m e : ℕ) → m ≡ suc e → nat_eq m 0 ≡ false
not_zero m e h = go (nat_eq m 0) refl
  where
    go : (t : Bool) → nat_eq m 0 ≡ t → t ≡ false
    go true t = let z = eqb-true m 0 t in absurd (omega (arith, z, h))
    go false t = refl

-- a parenthesis that closes closes an inner one
deeper : (k m e : ℕ) (ps : List Place) → m ≡ suc e → closes_by Closes k ps m ≡ closes_at k ps e
deeper k m e ps h =
    let s : m - 1 ≡ e = omega (arith, h) in
    cond-false (nat_eq m 0) (is_none_left k) (closes_at k ps (m - 1)) (not_zero m e h) ∙ ap (closes_at k ps) s

last : (i : ℕ) → is_none_left i ≡ true → i ≡ 0
last zero h = refl
last (suc i) h = cc

-- what closes further out comes after what closes here
pub over : (j k n : ℕ) (ps : List Place) (d e m : ℕ) → n ≡ j + k → m ≡ suc (d + e) → closes_at j ps d ≡ true → closes_at n ps m ≡ closes_at k (drop j ps) e
over zero k n ps d e m g f h = cc
over (suc i) k zero ps d e m g f h = absurd (omega (arith, g))
over (suc i) k (suc n) [] d e m g f h = cc
over (suc i) k (suc n) (Ends ∷ ps) d e m g f h = cc
over (suc i) k (suc n) (Stands q ∷ ps) d e m g f h = let g2 : n ≡ i + k = omega (arith, g) in go (delimiter_of q.token) d h f (λ d m. over i k n ps d e m g2)
  where
    go : (p : Delimiter) (d : ℕ) → closes_by p i ps d ≡ true → m ≡ suc (d + e) → ((d m : ℕ) → m ≡ suc (d + e) → closes_at i ps d ≡ true → closes_at n ps m ≡ closes_at k (drop i ps) e) → closes_by p n ps m ≡ closes_at k (drop i ps) e
    go Opens d h f r = r (d + 1) (m + 1) (omega (arith, f)) h
    go Closes zero h f r =
        let z = last i h in
        let y : n ≡ k = omega (arith, g, z) in
        deeper n m e ps (omega (arith, f)) ∙ ap (λ n. closes_at n ps e) y ∙ ap (λ i. closes_at k (drop i ps) e) (sym z)
    go Closes (suc d) h f r = deeper n m (suc (d + e)) ps (omega (arith, f)) ∙ r d (suc (d + e)) refl (sym (deeper i (suc d) d ps refl) ∙ h)
    go Comma d h f r = r d m f h
    go Inner d h f r = r d m f h

-- the same of what closes there, with what is said of slots alone
pub over_within : (j k n : ℕ) (ss : List Slot) → n ≡ j + k → StaysWithin j ss → StaysWithin k (drop j ss) → StaysWithin n ss
over_within zero k n ss g w v = let e : k ≡ n = omega (arith, g) in subst (λ i. StaysWithin i ss) e v
over_within (suc i) k n [] g w v = absurd w
over_within (suc i) k zero (s ∷ ss) g w v = absurd (omega (arith, g))
over_within (suc i) k (suc n) (s ∷ ss) g w v = (omega (arith, w.0, g), over_within i k n ss (omega (arith, g)) w.1 v)

pub closes_more : (k d : ℕ) (ps qs : List Place) → closes_at k ps d ≡ true → closes_at k (ps ++ qs) d ≡ true
closes_more zero d ps qs h = cc
closes_more (suc k) d [] qs h = cc
closes_more (suc k) d (Ends ∷ ps) qs h = cc
closes_more (suc k) d (Stands m ∷ ps) qs h = go (delimiter_of m.token) d h (λ d. closes_more k d ps qs)
  where
    go : (p : Delimiter) (d : ℕ) → closes_by p k ps d ≡ true → ((d : ℕ) → closes_at k ps d ≡ true → closes_at k (ps ++ qs) d ≡ true) → closes_by p k (ps ++ qs) d ≡ true
    go Opens d h r = r (d + 1) h
    go Closes zero h r = h
    go Closes (suc d) h r = deeper k (suc d) d (ps ++ qs) refl ∙ r d (sym (deeper k (suc d) d ps refl) ∙ h)
    go Comma d h r = r d h
    go Inner d h r = r d h

pub closes_take : (k d : ℕ) (ps : List Place) → closes_at k ps d ≡ true → closes_at k (take k ps) d ≡ true
closes_take zero d ps h = cc
closes_take (suc k) d [] h = cc
closes_take (suc k) d (Ends ∷ ps) h = cc
closes_take (suc k) d (Stands m ∷ ps) h = go (delimiter_of m.token) d h (λ d. closes_take k d ps)
  where
    go : (p : Delimiter) (d : ℕ) → closes_by p k ps d ≡ true → ((d : ℕ) → closes_at k ps d ≡ true → closes_at k (take k ps) d ≡ true) → closes_by p k (take k ps) d ≡ true
    go Opens d h r = r (d + 1) h
    go Closes zero h r = h
    go Closes (suc d) h r = deeper k (suc d) d (take k ps) refl ∙ r d (sym (deeper k (suc d) d ps refl) ∙ h)
    go Comma d h r = r d h
    go Inner d h r = r d h

within_more : (k : ℕ) (ss ts : List Slot) → StaysWithin k ss → StaysWithin k (ss ++ ts)
within_more zero ss ts w = tt
within_more (suc k) [] ts w = absurd w
within_more (suc k) (s ∷ ss) ts w = (w.0, within_more k ss ts w.1)

within_take : (k : ℕ) (ss : List Slot) → StaysWithin k ss → StaysWithin k (take k ss)
within_take zero ss w = tt
within_take (suc k) [] w = absurd w
within_take (suc k) (s ∷ ss) w = (w.0, within_take k ss w.1)

pub within_long : (k : ℕ) (ss : List Slot) → StaysWithin k ss → k ≤ length ss
within_long zero ss w = omega arith
within_long (suc k) [] w = absurd w
within_long (suc k) (s ∷ ss) w = omega (arith, within_long k ss w.1)

pub map_both : (ss ts : List Slot) → map place_of (ss ++ ts) ≡ map place_of ss ++ map place_of ts
map_both [] ts = refl
map_both (s ∷ ss) ts = ap (λ l. place_of s ∷ l) (map_both ss ts)

pub map_take : (k : ℕ) (ss : List Slot) → map place_of (take k ss) ≡ take k (map place_of ss)
map_take zero ss = refl
map_take (suc k) [] = refl
map_take (suc k) (s ∷ ss) = ap (λ l. place_of s ∷ l) (map_take k ss)

pub map_drop : (k : ℕ) (ss : List Slot) → map place_of (drop k ss) ≡ drop k (map place_of ss)
map_drop zero ss = refl
map_drop (suc k) [] = refl
map_drop (suc k) (s ∷ ss) = map_drop k ss

-- What is said stays right.

right_more : (s : Slot) (ss ts : List Slot) → IsRight s ss → IsRight s (ss ++ ts)
right_more s ss ts (inl z) = inl z
right_more s ss ts (inr r) =
    inr (r.0, subst (λ l. closes_at (leap s) l 0 ≡ true) (sym (map_both ss ts)) (closes_more (leap s) 0 (map place_of ss) (map place_of ts) r.1), within_more (leap s) ss ts r.2)

pub right_join : (ss ts : List Slot) → AreRight ss → AreRight ts → AreRight (ss ++ ts)
right_join [] ts a b = b
right_join (s ∷ ss) ts a b = (right_more s ss ts a.0, right_join ss ts a.1 b)

pub right_drop : (k : ℕ) (ss : List Slot) → AreRight ss → AreRight (drop k ss)
right_drop zero ss a = a
right_drop (suc k) [] a = tt
right_drop (suc k) (s ∷ ss) a = right_drop k ss a.1

-- a group of slots whose sayings are of these alone
take_right : (s : Slot) (k : ℕ) (ss : List Slot) → leap s ≤ k → IsRight s ss → IsRight s (take k ss)
take_right s k ss n (inl z) = inl z
take_right s k ss n (inr r) = inr (r.0, subst (λ l. closes_at (leap s) l 0 ≡ true) (sym (map_take k ss)) (closes_to (leap s) k 0 (map place_of ss) n r.1), within_to (leap s) k ss n r.2)
  where
    closes_to : (j k d : ℕ) (ps : List Place) → j ≤ k → closes_at j ps d ≡ true → closes_at j (take k ps) d ≡ true
    closes_to j k d ps n h =
        let e : j + (k - j) ≡ k = omega arith in
        subst (λ l. closes_at j l d ≡ true) (sym (take_both j (k - j) k ps (sym e))) ((closes_more j d (take j ps) (take (k - j) (drop j ps)) (closes_take j d ps h)))
      where
        take_both : (j i n : ℕ) (ps : List Place) → n ≡ j + i → take n ps ≡ take j ps ++ take i (drop j ps)
        take_both zero i n ps e = let f : n ≡ i = omega (arith, e) in ap (λ k. take k ps) f
        take_both (suc j) i zero ps e = absurd (omega (arith, e))
        take_both (suc j) i (suc n) [] e = nil i
          where
            nil : (i : ℕ) → [] ≡ take {A = Place} i []
            nil zero = refl
            nil (suc i) = refl
        take_both (suc j) i (suc n) (p ∷ ps) e = ap (λ l. p ∷ l) (take_both j i n ps (omega (arith, e)))

    within_to : (j k : ℕ) (ss : List Slot) → j ≤ k → StaysWithin j ss → StaysWithin j (take k ss)
    within_to zero k ss n w = tt
    within_to (suc j) k [] n w = absurd w
    within_to (suc j) zero (s ∷ ss) n w = absurd (omega (arith, n))
    within_to (suc j) (suc k) (s ∷ ss) n w = (w.0, within_to j k ss (omega (arith, n)) w.1)

pub right_take : (k : ℕ) (ss : List Slot) → StaysWithin k ss → AreRight ss → AreRight (take k ss)
right_take zero ss w a = tt
right_take (suc k) [] w a = absurd w
right_take (suc k) (s ∷ ss) w a = (take_right s k ss w.0 a.0, right_take k ss w.1 a.1)

-- a parenthesis with the group that it begins
pub right_group : (s : Slot) (ss : List Slot) → (leap s ≡ 0 → ⊥) → AreRight (s ∷ ss) → AreRight (s ∷ take (leap s) ss)
right_group s ss n a = go a.0
  where
    go : IsRight s ss → AreRight (s ∷ take (leap s) ss)
    go (inl z) = absurd (n z)
    go (inr r) = (inr (r.0, subst (λ l. closes_at (leap s) l 0 ≡ true) (sym (map_take (leap s) ss)) (closes_take (leap s) 0 (map place_of ss) r.1), within_take (leap s) ss r.2), right_take (leap s) ss r.2 a.1)

-- The cut goes over a group.

pub stands_over : (m : Marked) (before : List Place) (o : Option Opened) → stands_too m (passed 0 before o) ≡ passed 0 (Stands m ∷ before) o
stands_over m before None = refl
stands_over m before (Some o) = refl

none_passed : (o : Option Opened) → o ≡ passed 0 [] o
none_passed None = refl
none_passed (Some o) = let e : o.count ≡ 0 + o.count = omega arith in ap (λ n. Some (record { count = n; close = o.close; places = o.places })) e

abbrev pub opens_by : Delimiter → Marked → List Place → ℕ → ℕ → Option Opened
opens_by p m ps commas depth =
    cond (ends_call p depth) (Some (record { count = 1; close = m.hides; places = Ends ∷ ps })) (cond (parts p commas depth) (ends_too (opened ps (commas - 1) depth)) (stands_too m (opened ps commas (depth_behind p depth))))

opens_deeper : (q : Marked) (ps : List Place) (c m e : ℕ) → m ≡ suc e → opens_by Closes q ps c m ≡ stands_too q (opened ps c e)
opens_deeper q ps c m e h =
    let s : m - 1 ≡ e = omega (arith, h) in
    cond-false (nat_eq m 0) (Some (record { count = 1; close = q.hides; places = Ends ∷ ps })) (stands_too q (opened ps c (m - 1))) (not_zero m e h) ∙ ap (λ n. stands_too q (opened ps c n)) s

opens_comma : (q : Marked) (ps : List Place) (c m e : ℕ) → m ≡ suc e → opens_by Comma q ps c m ≡ stands_too q (opened ps c m)
opens_comma q ps c m e h = ap (λ t. cond (t && not (nat_eq c 0)) (ends_too (opened ps (c - 1) m)) (stands_too q (opened ps c m))) (not_zero m e h)

pub opened_over : (j c d e m : ℕ) (ps : List Place) → m ≡ suc (d + e) → closes_at j ps d ≡ true → opened ps c m ≡ passed 0 (take j ps) (opened (drop j ps) c e)
opened_over zero c d e m ps f h = cc
opened_over (suc i) c d e m [] f h = cc
opened_over (suc i) c d e m (Ends ∷ ps) f h = cc
opened_over (suc i) c d e m (Stands q ∷ ps) f h = go (delimiter_of q.token) d h f (λ d m. opened_over i c d e m ps)
  where
    step : (n : ℕ) → opened ps c n ≡ passed 0 (take i ps) (opened (drop i ps) c e) → stands_too q (opened ps c n) ≡ passed 0 (Stands q ∷ take i ps) (opened (drop i ps) c e)
    step n r = ap (stands_too q) r ∙ stands_over q (take i ps) (opened (drop i ps) c e)

    go : (p : Delimiter) (d : ℕ) → closes_by p i ps d ≡ true → m ≡ suc (d + e) → ((d m : ℕ) → m ≡ suc (d + e) → closes_at i ps d ≡ true → opened ps c m ≡ passed 0 (take i ps) (opened (drop i ps) c e)) → opens_by p q ps c m ≡ passed 0 (Stands q ∷ take i ps) (opened (drop i ps) c e)
    go Opens d h f r = step (m + 1) (r (d + 1) (m + 1) (omega (arith, f)) h)
    go Closes zero h f r =
        opens_deeper q ps c m e (omega (arith, f)) ∙ ap (stands_too q) (none_passed (opened ps c e)) ∙ stands_over q [] (opened ps c e)
        ∙ ap (λ i. passed 0 (Stands q ∷ take i ps) (opened (drop i ps) c e)) (sym (last i h))
    go Closes (suc d) h f r = opens_deeper q ps c m (suc (d + e)) (omega (arith, f)) ∙ step (suc (d + e)) (r d (suc (d + e)) refl (sym (deeper i (suc d) d ps refl) ∙ h))
    go Comma d h f r = opens_comma q ps c m (d + e) f ∙ step m (r d m f h)
    go Inner d h f r = step m (r d m f h)

-- What is seen from the top down.

-- what closes, or stays, after the slots that were passed does so from the top
pub record Seen (all left : List Slot) : Type 0 where
  pub right : AllRight left
  pub few : length left ≤ length all
  pub closes : (k : ℕ) → closes_at k (map place_of (turned left)) 0 ≡ true → closes_at (length all - length left + k) (map place_of (turned all)) 0 ≡ true
  pub within : (k : ℕ) → StaysWithin k (turned left) → StaysWithin (length all - length left + k) (turned all)

pub seen_start : (all : List Slot) → AllRight all → Seen all all
seen_start all r =
    let e : (k : ℕ) → k ≡ length all - length all + k = λ k. omega arith in
    record {
      right = r;
      few = omega arith;
      closes = λ k h. subst (λ i. closes_at i (map place_of (turned all)) 0 ≡ true) (e k) h;
      within = λ k w. subst (λ i. StaysWithin i (turned all)) (e k) w;
    }

pub turned_top : (left rest : List Slot) (s : Slot) → left ≡ rest ++ s ∷ [] → turned left ≡ s ∷ turned rest
turned_top left rest s e = ap turned e ∙ backwards_push (λ s. s) rest s

long_top : (left rest : List Slot) (s : Slot) → left ≡ rest ++ s ∷ [] → length left ≡ length rest + 1
long_top left rest s e = ap length e ∙ more rest
  where
    more : (xs : List Slot) → length (xs ++ s ∷ []) ≡ length xs + 1
    more [] = refl
    more (x ∷ xs) = let r = more xs in omega (arith, r)

closes_word : (p : Place) (kind : Delimiter) (k d : ℕ) (ps : List Place) → place_delimiter p ≡ Some kind → closes_at (suc k) (p ∷ ps) d ≡ closes_by kind k ps d
closes_word (Stands m) kind k d ps e = ap (λ q. closes_by q k ps d) (some_same (delimiter_of m.token) kind e)
  where
    some_same : (a b : Delimiter) → Some a ≡ Some b → a ≡ b
    some_same a b e = cc
closes_word Ends kind k d ps e = cc

-- only a parenthesis says something
quiet : (s : Slot) (ss : List Slot) (kind : Delimiter) → place_delimiter (place_of s) ≡ Some kind → (Some kind ≡ Some Opens → ⊥) → IsRight s ss → leap s ≡ 0
quiet s ss kind e n (inl z) = z
quiet s ss kind e n (inr r) = absurd (n (sym e ∙ r.0))

module _ (all left rest : List Slot) (s : Slot) (kind : Delimiter) (e : left ≡ rest ++ s ∷ []) (is : place_delimiter (place_of s) ≡ Some kind) (v : Seen all left) where
  right_top : AreRight (s ∷ turned rest)
  right_top = subst AreRight (turned_top left rest s e) v.right

  closes_on : (k : ℕ) → closes_by kind k (map place_of (turned rest)) 0 ≡ true → closes_at (length all - length left + suc k) (map place_of (turned all)) 0 ≡ true
  closes_on k h = v.closes (suc k) (ap (λ l. closes_at (suc k) (map place_of l) 0) (turned_top left rest s e) ∙ closes_word (place_of s) kind k 0 (map place_of (turned rest)) is ∙ h)

  within_on : (k : ℕ) → leap s ≤ k → StaysWithin k (turned rest) → StaysWithin (length all - length left + suc k) (turned all)
  within_on k n w = v.within (suc k) (subst (StaysWithin (suc k)) (sym (turned_top left rest s e)) (n, w))

  pub seen_close : kind ≡ Closes → IsClosing (length all - length rest) (turned all)
  seen_close q =
      let z = quiet s (turned rest) kind is (λ o. no (ap Some (sym q) ∙ o)) right_top.0 in
      let l = long_top left rest s e in
      let f = v.few in
      let t : length all - length left + 1 ≡ length all - length rest = omega (arith, l, f) in
      inr (
        subst (λ i. closes_at i (map place_of (turned all)) 0 ≡ true) t (closes_on 0 (ap (λ p. closes_by p 0 (map place_of (turned rest)) 0) q)),
        subst (λ i. StaysWithin i (turned all)) t (within_on 0 (omega (arith, z)) tt),
      )
    where
      no : Some Closes ≡ Some Opens → ⊥
      no e = cc

  pub seen_word : ((k : ℕ) → closes_by kind k (map place_of (turned rest)) 0 ≡ closes_at k (map place_of (turned rest)) 0) → (Some kind ≡ Some Opens → ⊥) → Seen all rest
  seen_word same n =
      let z = quiet s (turned rest) kind is n right_top.0 in
      let l = long_top left rest s e in
      let f = v.few in
      let t : (k : ℕ) → length all - length left + suc k ≡ length all - length rest + k = λ k. omega (arith, l, f) in
      record {
        right = right_top.1;
        few = omega (arith, l, f);
        closes = λ k h. subst (λ i. closes_at i (map place_of (turned all)) 0 ≡ true) (t k) (closes_on k (same k ∙ h));
        within = λ k w. subst (λ i. StaysWithin i (turned all)) (t k) (within_on k (omega (arith, z)) w);
      }

pub comma_same : (k : ℕ) (ps : List Place) → closes_by Comma k ps 0 ≡ closes_at k ps 0
comma_same k ps = refl

pub inner_same : (k : ℕ) (ps : List Place) → closes_by Inner k ps 0 ≡ closes_at k ps 0
inner_same k ps = refl

pub turned_both : (xs ys : List Slot) → turned (xs ++ ys) ≡ turned ys ++ turned xs
turned_both [] ys = sym (append-nil (turned ys))
turned_both (x ∷ xs) ys = ap (λ l. l ++ x ∷ []) (turned_both xs ys) ∙ append_assoc (turned ys) (turned xs) (x ∷ [])

pub turned_long : (xs : List Slot) → length (turned xs) ≡ length xs
turned_long [] = refl
turned_long (x ∷ xs) = more (turned xs) ∙ (let e = turned_long xs in omega (arith, e))
  where
    more : (ys : List Slot) → length (ys ++ x ∷ []) ≡ length ys + 1
    more [] = refl
    more (y ∷ ys) = let r = more ys in omega (arith, r)

drop_front : {A : Type 0} (xs ys : List A) (n : ℕ) → length xs ≡ n → drop n (xs ++ ys) ≡ ys
drop_front [] ys zero e = refl
drop_front [] ys (suc n) e = absurd (omega (arith, e))
drop_front (x ∷ xs) ys zero e = absurd (omega (arith, e))
drop_front (x ∷ xs) ys (suc n) e = drop_front xs ys n (omega (arith, e))

pub take_front : {A : Type 0} (xs ys : List A) (n : ℕ) → length xs ≡ n → take n (xs ++ ys) ≡ xs
take_front [] ys zero e = refl
take_front [] ys (suc n) e = absurd (omega (arith, e))
take_front (x ∷ xs) ys zero e = absurd (omega (arith, e))
take_front (x ∷ xs) ys (suc n) e = ap (λ l. x ∷ l) (take_front xs ys n (omega (arith, e)))

-- the slots below the first of a stack
pub turned_take : (xs : List Slot) (k : ℕ) → k ≤ length xs → turned (take (length xs - k) xs) ≡ drop k (turned xs)
turned_take xs k h =
    let n = length xs - k in
    let l : length (turned (drop n xs)) ≡ k = turned_long (drop n xs) ∙ length-drop n xs ∙ omega (arith, h) in
    sym (ap (drop k) (ap turned (sym (take-append-drop n xs)) ∙ turned_both (take n xs) (drop n xs)) ∙ drop_front (turned (drop n xs)) (turned (take n xs)) k l)

module _ (all left rest : List Slot) (s : Slot) (e : left ≡ rest ++ s ∷ []) (is : place_delimiter (place_of s) ≡ Some Opens) (v : Seen all left) (j : ℕ) (g : j ≡ leap s) (n : j ≡ 0 → ⊥) where
  said : (closes_at (leap s) (map place_of (turned rest)) 0 ≡ true) × StaysWithin (leap s) (turned rest)
  said = go (right_top all left rest s Opens e is v).0
    where
      go : IsRight s (turned rest) → (closes_at (leap s) (map place_of (turned rest)) 0 ≡ true) × StaysWithin (leap s) (turned rest)
      go (inl z) = absurd (n (g ∙ z))
      go (inr r) = (r.1, r.2)

  pub leaps_within : j ≤ length rest
  leaps_within = let w = within_long (leap s) (turned rest) said.1 in let l = turned_long rest in omega (arith, w, l, g)

  pub seen_over : Seen all (take (length rest - j) rest)
  seen_over =
      let h = leaps_within in
      let left2 = take (length rest - j) rest in
      let t : turned left2 ≡ drop j (turned rest) = turned_take rest j h in
      let l = long_top left rest s e in
      let f = v.few in
      let m : length left2 ≡ length rest - j = length-take-le (length rest - j) rest (omega arith) in
      let c : closes_at j (map place_of (turned rest)) 0 ≡ true = subst (λ i. closes_at i (map place_of (turned rest)) 0 ≡ true) (sym g) said.0 in
      let w : StaysWithin j (turned rest) = subst (λ i. StaysWithin i (turned rest)) (sym g) said.1 in
      let k2 : (k : ℕ) → length all - length left + suc (j + k) ≡ length all - length left2 + k = λ k. omega (arith, l, f, m, h) in
      record {
        right = subst AreRight (sym t) (right_drop j (turned rest) (right_top all left rest s Opens e is v).1);
        few = omega (arith, l, f, m);
        closes = λ k q. subst (λ i. closes_at i (map place_of (turned all)) 0 ≡ true) (k2 k)
            (closes_on all left rest s Opens e is v (j + k)
            (over j k (j + k) (map place_of (turned rest)) 0 0 (0 + 1) refl (omega arith) c ∙ ap (λ l. closes_at k l 0) (sym (ap (map place_of) t ∙ map_drop j (turned rest))) ∙ q));
        within = λ k q. subst (λ i. StaysWithin i (turned all)) (k2 k)
            (within_on all left rest s Opens e is v (j + k) (omega (arith, g)) (over_within j k (j + k) (turned rest) refl w (subst (StaysWithin k) t q)));
      }

pub comma_no : Some Comma ≡ Some Opens → ⊥
comma_no e = cc

pub inner_no : Some Inner ≡ Some Opens → ⊥
inner_no e = cc

-- a token that is put on top
pub opening_right : (h : HiddenToken) (n : ℕ) (p : Delimiter) (ss : List Slot) → p ≡ delimiter_of h.token → is_opens p ≡ true → IsClosing n ss → IsRight (slot.Word h n) ss
opening_right h n Opens ss e o (inl z) = inl z
opening_right h n Opens ss e o (inr r) = inr (ap Some (sym e), r.0, r.1)
opening_right h n Closes ss e o c = cc
opening_right h n Comma ss e o c = cc
opening_right h n Inner ss e o c = cc

pub pushed_right : (xs ys : List Slot) (s : Slot) → ys ≡ xs ++ s ∷ [] → IsRight s (turned xs) → AllRight xs → AllRight ys
pushed_right xs ys s e r a = subst AreRight (sym (turned_top ys xs s e)) (r, a)

pub popped_right : (xs ys : List Slot) (s : Slot) → xs ≡ ys ++ s ∷ [] → AllRight xs → AllRight ys
popped_right xs ys s e a = (subst AreRight (turned_top xs ys s e) a).1
