-- The cut of a call's arguments, which goes over groups of parentheses.
use Rattle.std.proofs.Common.{◌≡◌, ℕ, zero, suc, ◌+◌, ◌-◌, ◌<◌, ◌≤◌, true, List, [], ◌∷◌, ◌++◌, map, take, drop, set, get_or, length, Option, Some, None, inl, inr, refl, sym, ap, ◌∙◌, subst, arith, append_assoc}
use Rattle.std.proofs.lemmas.List.{length-drop, length-take-le, take-append-drop, take_more, take-set, drop-set}
use Rattle.std.proofs.Math.Seq.{drop-cons}
use Rattle.macro_expand.specs.declared.delimiter.Delimiter.TheVariants.{Opens}
use Rattle.macro_expand.specs.declared.rescan.slots.Slot.{Slot}
use Rattle.macro_expand.specs.declared.rescan.slots.Slot.TheVariants as slot
use Rattle.macro_expand.specs.Slots.{Place, Stands, place_of, place_delimiter, places, Opened, stands_too, opened, passed, turned, leap, closes_at, StaysWithin, IsRight, AreRight, AllRight}
use Rattle.macro_expand.proofs.SlotLemmas.{start, word_there}
use Rattle.macro_expand.proofs.LeapLemmas.{map_turned, map_both, map_take, map_drop, stands_over, opens_by, opened_over, turned_both, turned_long, turned_top, turned_take, take_front, right_join, right_drop, right_group, within_long}

pub whole_right : (xs : List Slot) (at : ℕ) → AreRight (turned (drop at xs)) → AreRight (turned (take at xs)) → AllRight xs
whole_right xs at above below =
    subst AreRight (sym (ap turned (sym (take-append-drop at xs)) ∙ turned_both (take at xs) (drop at xs))) (right_join (turned (drop at xs)) (turned (take at xs)) above below)

turned_drop : (xs : List Slot) (k : ℕ) → k ≤ length xs → turned (drop (length xs - k) xs) ≡ take k (turned xs)
turned_drop xs k h =
    let n = length xs - k in
    let l : length (turned (drop n xs)) ≡ k = turned_long (drop n xs) ∙ length-drop n xs ∙ omega (arith, h) in
    sym (ap (take k) (ap turned (sym (take-append-drop n xs)) ∙ turned_both (take n xs) (drop n xs)) ∙ take_front (turned (drop n xs)) (turned (take n xs)) k l)

drop_under : (xs : List Slot) (i n : ℕ) → n ≤ i → drop n xs ≡ drop n (take i xs) ++ drop i xs
drop_under xs i zero h = sym (take-append-drop i xs)
drop_under [] zero (suc n) h = absurd (omega (arith, h))
drop_under [] (suc i) (suc n) h = refl
drop_under (x ∷ xs) zero (suc n) h = absurd (omega (arith, h))
drop_under (x ∷ xs) (suc i) (suc n) h = drop_under xs i n (omega (arith, h))

take_under : (xs : List Slot) (i n : ℕ) → n ≤ i → take n xs ≡ take n (take i xs)
take_under xs i zero h = refl
take_under xs zero (suc n) h = absurd (omega (arith, h))
take_under [] (suc i) (suc n) h = refl
take_under (x ∷ xs) (suc i) (suc n) h = ap (λ l. x ∷ l) (take_under xs i n (omega (arith, h)))

passed_both : (n : ℕ) (before mid : List Place) (o : Option Opened) → passed n before (passed 0 mid o) ≡ passed n (before ++ mid) o
passed_both n before mid None = refl
passed_both n before mid (Some o) =
    let e : n + (0 + o.count) ≡ n + o.count = omega arith in
    ap (λ k. Some (record { count = k; close = o.close; places = before ++ (mid ++ o.places) })) e
    ∙ ap (λ l. Some (record { count = n + o.count; close = o.close; places = l })) (sym (append_assoc before mid o.places))

module _ (xs : List Slot) (i at : ℕ) (d s : Slot) (a : at ≡ i + 1) (h : i < length xs) (g : s ≡ get_or xs i d) (above : AreRight (turned (drop at xs))) (below : AreRight (turned (take at xs))) where
  next_right : AreRight (s ∷ turned (take i xs))
  next_right = subst AreRight (turned_top (take at xs) (take i xs) s (ap (λ n. take n xs) a ∙ take_more xs i d h ∙ ap (λ v. take i xs ++ v ∷ []) (sym g))) below

  passed_turned : turned (drop i xs) ≡ turned (drop at xs) ++ s ∷ []
  passed_turned = ap turned (drop-cons xs i d h ∙ (let e : suc i ≡ at = omega arith in ap (λ n. get_or xs i d ∷ drop n xs) e) ∙ ap (λ v. v ∷ drop at xs) (sym g))

  -- a token is passed
  pub below_word : AreRight (turned (take i xs))
  below_word = next_right.1

  pub above_word : leap s ≡ 0 → AreRight (turned (drop i xs))
  above_word z = subst AreRight (sym passed_turned) (right_join (turned (drop at xs)) (s ∷ []) above (inl z, tt))

  -- it becomes the end of a list
  pub below_end : AreRight (turned (take i (set xs i slot.End)))
  below_end = subst (λ l. AreRight (turned l)) (sym (take-set xs i slot.End)) next_right.1

  pub above_end : AreRight (turned (drop i (set xs i slot.End)))
  above_end =
      let e : i + 1 ≡ at = omega arith in
      subst (λ l. AreRight (turned l)) (sym (drop-set xs i slot.End h ∙ ap (λ k. slot.End ∷ drop k xs) e)) (right_join (turned (drop at xs)) (slot.End ∷ []) above (inl refl, tt))

  pub end_right : AllRight (set xs i slot.End)
  end_right = whole_right (set xs i slot.End) i above_end below_end

  -- a group is passed
  module _ (j : ℕ) (q : j ≡ leap s) (n : j ≡ 0 → ⊥) where
    group : (place_delimiter (place_of s) ≡ Some Opens) × (closes_at j (map place_of (turned (take i xs))) 0 ≡ true) × StaysWithin j (turned (take i xs))
    group = go next_right.0
      where
        go : IsRight s (turned (take i xs)) → (place_delimiter (place_of s) ≡ Some Opens) × (closes_at j (map place_of (turned (take i xs))) 0 ≡ true) × StaysWithin j (turned (take i xs))
        go (inl z) = absurd (n (q ∙ z))
        go (inr r) = (r.0, subst (λ k. closes_at k (map place_of (turned (take i xs))) 0 ≡ true) (sym q) r.1, subst (λ k. StaysWithin k (turned (take i xs))) (sym q) r.2)

    long : length (take i xs) ≡ i
    long = length-take-le i xs (omega arith)

    pub group_within : j ≤ i
    group_within = let w = within_long j (turned (take i xs)) group.2 in let l = turned_long (take i xs) in let k = long in omega (arith, w, l, k)

    taken_turned : turned (take (i - j) xs) ≡ drop j (turned (take i xs))
    taken_turned =
        let w = group_within in let l = long in
        let w2 : j ≤ length (take i xs) = omega (arith, w, l) in
        ap turned (take_under xs i (i - j) (omega arith)) ∙ ap (λ k. turned (take (k - j) (take i xs))) (sym l) ∙ turned_take (take i xs) j w2

    dropped_turned : turned (drop (i - j) xs) ≡ turned (drop at xs) ++ s ∷ take j (turned (take i xs))
    dropped_turned =
        let w = group_within in let l = long in
        let w2 : j ≤ length (take i xs) = omega (arith, w, l) in
        ap turned (drop_under xs i (i - j) (omega arith)) ∙ turned_both (drop (i - j) (take i xs)) (drop i xs)
        ∙ ap (λ t. t ++ turned (drop (i - j) (take i xs))) passed_turned
        ∙ ap (λ t. (turned (drop at xs) ++ s ∷ []) ++ t) (ap (λ k. turned (drop (k - j) (take i xs))) (sym l) ∙ turned_drop (take i xs) j w2)
        ∙ append_assoc (turned (drop at xs)) (s ∷ []) (take j (turned (take i xs)))

    pub below_group : AreRight (turned (take (i - j) xs))
    below_group = subst AreRight (sym taken_turned) (right_drop j (turned (take i xs)) next_right.1)

    pub above_group : AreRight (turned (drop (i - j) xs))
    above_group = subst AreRight (sym dropped_turned) (right_join (turned (drop at xs)) (s ∷ take j (turned (take i xs))) above
        (subst (λ k. AreRight (s ∷ take k (turned (take i xs)))) (sym q) (right_group s (turned (take i xs)) (λ z. n (q ∙ z)) next_right)))

    module _ (count commas depth : ℕ) (whole : Option Opened) (v : passed count (places (drop at xs)) (opened (places (take at xs)) commas depth) ≡ whole) where
      pub cut_group : passed count (places (drop (i - j) xs)) (opened (places (take (i - j) xs)) commas depth) ≡ whole
      cut_group =
          let w = word_there xs i at d s a h g (place_of s) Opens group.0 in
          let ps = places (take i xs) in
          let c : closes_at j ps 0 ≡ true = subst (λ l. closes_at j l 0 ≡ true) (map_turned (take i xs)) group.1 in
          let t : places (take (i - j) xs) ≡ drop j ps = sym (map_turned (take (i - j) xs)) ∙ ap (map place_of) taken_turned ∙ map_drop j (turned (take i xs)) ∙ ap (drop j) (map_turned (take i xs)) in
          let u : places (drop (i - j) xs) ≡ places (drop at xs) ++ Stands w.0 ∷ take j ps =
          sym (map_turned (drop (i - j) xs)) ∙ ap (map place_of) dropped_turned ∙ map_both (turned (drop at xs)) (s ∷ take j (turned (take i xs)))
          ∙ ap (λ l. l ++ place_of s ∷ map place_of (take j (turned (take i xs)))) (map_turned (drop at xs))
          ∙ ap (λ l. places (drop at xs) ++ place_of s ∷ l) (map_take j (turned (take i xs)) ∙ ap (take j) (map_turned (take i xs)))
          ∙ ap (λ p. places (drop at xs) ++ p ∷ take j ps) w.1 in
          let o : opened (Stands w.0 ∷ ps) commas depth ≡ passed 0 (Stands w.0 ∷ take j ps) (opened (drop j ps) commas depth) =
          ap (λ p. opens_by p w.0 ps commas depth) w.2 ∙ ap (stands_too w.0) (opened_over j commas 0 depth (depth + 1) ps (omega arith) c) ∙ stands_over w.0 (take j ps) (opened (drop j ps) commas depth) in
          ap (λ l. passed count l (opened (places (take (i - j) xs)) commas depth)) u ∙ ap (λ l. passed count (places (drop at xs) ++ Stands w.0 ∷ take j ps) (opened l commas depth)) t
          ∙ sym (passed_both count (places (drop at xs)) (Stands w.0 ∷ take j ps) (opened (drop j ps) commas depth))
          ∙ ap (passed count (places (drop at xs))) (sym o) ∙ start xs i at d s a h g count commas depth whole v (Stands w.0) w.1
