-- The roots that are read are those of the units, and those of the units are read.
use Rattle.std.proofs.Common.{◌≡◌, ◌≢◌, ℕ, zero, suc, ◌+◌, ◌-◌, ◌<◌, ◌≤◌, Bool, true, false, eqb, cond, List, [], ◌∷◌, ◌++◌, length, take, drop, Option, Some, None, Result, Ok, Err, inl, inr, refl, ap, subst, ◌∙◌, sym, arith, length-append, length-drop, append_assoc, append-nil}
use Rattle.std.specs.Prelude.{filter_map}
use Rattle.std.specs.List.{cons_option}
use Rattle.std.proofs.lemmas.List.{drop-drop, drop-take, take-append-drop, length-take-le, take_at, drop_at, drop_all}
use borrow.Author.Tests.{eqb-true, eqb-false, apart_eqb, le-ltb}
use Rattle.mac_base.specs.declared.extent.Extent.{Extent}
use Rattle.mac_base.specs.declared.extent.ExtentFault.{ExtentFault}
use Rattle.mac_base.specs.declared.extent.ExtentFault.TheVariants.{Cut}
use Rattle.mac_base.specs.Input.{Input, rest, ahead, ◌>>=◌}
use Rattle.mac_base.specs.SectionBytes.{SectionBytes}
use Rattle.mac_base.specs.Extents.{extent_of}
use Rattle.mac_base.proofs.Choices.{bind_ok, same_ok, chosen, guarded_not}
use Rattle.mac_base.proofs.InputLemmas.{between_front}
use Rattle.info_roots.specs.declared.fault.InfoFault.{InfoFault}
use Rattle.info_roots.specs.declared.fault.InfoKind.TheVariants.{TooManyRoots}
use Rattle.info_roots.specs.declared.root.Root.{Root}
use Rattle.info_roots.specs.Faults.{extent_field, fault_at}
use Rattle.mac_base.specs.LengthSpelling.{IsLength}
use Rattle.info_roots.specs.Roots.{fields_of, root_at, with_root, unit_read, roots_from, roots_in}
use Rattle.info_roots.specs.UnitSpelling.{IsUnitBody, IsUnit, AreUnits, AreRoots}
use Rattle.mac_base.proofs.LengthLemmas.{length-takes, length-again}
use Rattle.info_roots.proofs.RootLemmas.{roots_more, roots_end}
use Rattle.info_roots.proofs.PrefixLemmas.{joined, rest_after}
use Rattle.info_roots.proofs.UnitLemmas.{body_takes, body_again}

extent_ok : {A : Type 0} (r : Result A ExtentFault) (x : A) → extent_field r ≡ Ok x → r ≡ Ok x
extent_ok (Ok y) x is = cc
extent_ok (Err e) x is = cc

length_long : (wide : Bool) (bytes : List ℕ) (n : ℕ) → IsLength wide bytes n → 0 < length bytes
length_long false bytes n is = omega (arith, is.0.long)
length_long true bytes n is = rw is.2 (omega (arith, length-append is.0 is.1, is.3.long))

-- the fields of a unit are what follows its length, up to its end
fields_are : (info : List ℕ) (e : Extent) (start n : ℕ) → e.start ≡ start → e.end ≡ start + n → rest (fields_of info e) ≡ take n (drop start info)
fields_are info e start n begins ends = ap (λ k. drop k (take e.end info)) begins ∙ ap (λ k. drop start (take k info)) ends ∙ drop-take start n info

extent_takes : (info : List ℕ) (at : ℕ) (e : Extent) → extent_of info at ≡ Ok e →
    (front : List ℕ) × (body : List ℕ) × (drop at info ≡ (front ++ body) ++ drop e.end info) × IsLength e.wide front (length body) × (rest (fields_of info e) ≡ body) × (e.end ≤ length info) × (at < e.end)
extent_takes info at e is =
    let p : Input = record { bytes = info; at = at } in
    let found = length-takes p e is in
    let front = found.1 in
    let n = found.2 in
    let start = at + length front in
    let place : found.0 ≡ ahead p (length front) = found.3.place in
    let left : rest found.0 ≡ drop start info = ap rest place in
    let begins : e.start ≡ start = found.5 ∙ ap (λ (q : Input). q.at) place in
    let ends : e.end ≡ start + n = found.6 ∙ ap (λ (q : Input). q.at + n) place in
    let body = take n (drop start info) in
    let enough : n ≤ length (drop start info) = omega (arith, length-drop start info, ends, found.7) in
    let long : length body ≡ n = length-take-le n (drop start info) enough in
    let back : drop n (drop start info) ≡ drop e.end info = drop-drop n start info ∙ ap (λ k. drop k info) (sym ends) in
    let parts : drop start info ≡ body ++ drop e.end info = sym (take-append-drop n (drop start info)) ∙ ap (λ (xs : List ℕ). body ++ xs) back in (
      front,
      body,
      joined (drop at info) front body (drop start info) (drop e.end info) (found.3.front ∙ ap (λ (xs : List ℕ). front ++ xs) left) parts,
      subst (IsLength e.wide front) (sym long) found.4,
      fields_are info e start n begins ends,
      found.7,
      omega (arith, ends, length_long e.wide front n found.4),
    )

extent_again : (info : List ℕ) (at : ℕ) (wide : Bool) (front body back : List ℕ) → drop at info ≡ front ++ (body ++ back) → IsLength wide front (length body) →
    (e : Extent) × (extent_of info at ≡ Ok e) × (wide ≡ e.wide) × (rest (fields_of info e) ≡ body) × (drop e.end info ≡ back) × (e.end ≤ length info) × (at < e.end)
extent_again info at wide front body back spelled is =
    let p : Input = record { bytes = info; at = at } in
    let start = at + length front in
    let some = length_long wide front (length body) is in
    let whole : length (drop at info) ≡ length front + (length body + length back) = ap length spelled ∙ length-append front (body ++ back) ∙ ap (λ k. length front + k) (length-append body back) in
    let inside : start + length body ≤ length info = omega (arith, whole, length-drop at info, some) in
    let left : drop start info ≡ body ++ back = rest_after p front (body ++ back) spelled in
    let e : Extent = record { wide = wide; start = start; end = start + length body } in
    let read = length-again p (ahead p (length front)) front wide (length body) (between_front p front (body ++ back) spelled) is in (
      e,
      read ∙ ap (λ t. cond t (Err (Cut at)) (Ok e)) (le-ltb (length info) (start + length body) inside),
      refl,
      fields_are info e start (length body) refl refl ∙ ap (take (length body)) left ∙ take_at body back (length body) refl,
      sym (drop-drop (length body) start info) ∙ ap (drop (length body)) left ∙ drop_at body back (length body) refl,
      inside,
      omega (arith, some),
    )

abbrev roots_of : List (Option Root) → List Root
roots_of units = filter_map (λ unit. unit) units

one_more : (roots : List Root) (unit : Option Root) (units : List (Option Root)) → (roots ++ cons_option unit []) ++ roots_of units ≡ roots ++ roots_of (unit ∷ units)
one_more roots None units = ap (λ (xs : List Root). xs ++ roots_of units) (append-nil roots)
one_more roots (Some root) units = append_assoc roots (root ∷ []) (roots_of units)

with_takes : (at : ℕ) (roots more : List Root) (unit : Option Root) → length roots ≤ 65536 → with_root at roots unit ≡ Ok more → (more ≡ roots ++ cons_option unit []) × (length more ≤ 65536)
with_takes at roots more None few is =
    let same = same_ok {E = InfoFault} roots more is in
    (sym same ∙ sym (append-nil roots), subst (λ (xs : List Root). length xs ≤ 65536) same few)
with_takes at roots more (Some root) few is =
    let room = guarded_not (eqb (length roots) 65536) (Ok (roots ++ root ∷ [])) more (fault_at at TooManyRoots) is in
    let same = same_ok {E = InfoFault} (roots ++ root ∷ []) more room.1 in
    let not : length roots ≢ 65536 = eqb-false (length roots) 65536 room.0 in
    (sym same, subst (λ (xs : List Root). length xs ≤ 65536) same (omega (arith, few, not, length-append roots (root ∷ []))))

with_again : (at : ℕ) (roots : List Root) (unit : Option Root) → length (roots ++ cons_option unit []) ≤ 65536 → with_root at roots unit ≡ Ok (roots ++ cons_option unit [])
with_again at roots None few = ap (λ (xs : List Root). Ok xs) (sym (append-nil roots))
with_again at roots (Some root) few =
    let not : length roots ≢ 65536 = λ same. absurd (omega (arith, few, same, length-append roots (root ∷ []))) in
    ap (λ t. cond t (Err (fault_at at TooManyRoots)) (Ok (roots ++ root ∷ []))) (apart_eqb (length roots) 65536 not)

-- what is read of one unit
unit_takes : (s : SectionBytes) (at next : ℕ) (roots more : List Root) → length roots ≤ 65536 → unit_read s at roots ≡ Ok (next, more) →
    (unit : Option Root) × (bytes : List ℕ) × (drop at s.info ≡ bytes ++ drop next s.info) × IsUnit s bytes unit × (more ≡ roots ++ cons_option unit []) × (length more ≤ 65536) × (next ≤ length s.info) × (at < next)
unit_takes s at next roots more few is =
    let extent = bind_ok (extent_field (extent_of s.info at)) _ (next, more) is in
    let e = extent.0 in
    let root = bind_ok (root_at s at e) _ (next, more) extent.2 in
    let all = bind_ok (with_root at roots root.0) _ (next, more) root.2 in
    let same = same_ok {E = InfoFault} (e.end, all.0) (next, more) all.2 in
    let lies = extent_takes s.info at e (extent_ok (extent_of s.info at) e extent.1) in
    let body = body_takes s at e.wide (fields_of s.info e) root.0 root.1 in
    let added = with_takes at roots all.0 root.0 few all.1 in
    subst (λ (x : ℕ × List Root). (unit : Option Root) × (bytes : List ℕ) × (drop at s.info ≡ bytes ++ drop x.0 s.info) × IsUnit s bytes unit × (x.1 ≡ roots ++ cons_option unit []) × (length x.1 ≤ 65536) × (x.0 ≤ length s.info) × (at < x.0)) same (
      root.0,
      lies.0 ++ lies.1,
      lies.2,
      record { wide = e.wide; front = lies.0; body = lies.1; spelled = refl; is_length = lies.3; is_body = subst (λ (xs : List ℕ). IsUnitBody s e.wide xs root.0) lies.4 body },
      added.0,
      added.1,
      lies.5,
      lies.6,
    )

units_takes : (n : ℕ) (s : SectionBytes) (at : ℕ) (roots all : List Root) → length s.info ≤ at + n → length roots ≤ 65536 → roots_from s n at roots ≡ Ok all →
    (units : List (Option Root)) × AreUnits s (drop at s.info) units × (all ≡ roots ++ roots_of units) × (length all ≤ 65536)
units_takes zero s at roots all left few is =
    let same = same_ok {E = InfoFault} roots all is in
    ([], drop_all at s.info (omega (arith, left)), sym same ∙ sym (append-nil roots), subst (λ (xs : List Root). length xs ≤ 65536) same few)
units_takes (suc n) s at roots all left few is =
    elim (chosen (eqb at (length s.info)) (Ok roots) (unit_read s at roots >>= λ next. roots_from s n next.0 next.1) (Ok all) is) [
      | inl end ↦
          let same = same_ok {E = InfoFault} roots all end.1 in
          let here : length s.info ≤ at = omega (arith, eqb-true at (length s.info) end.0) in
          ([], drop_all at s.info here, sym same ∙ sym (append-nil roots), subst (λ (xs : List Root). length xs ≤ 65536) same few)
      | inr more ↦
          let next = bind_ok (unit_read s at roots) _ all more.1 in
          let one = unit_takes s at next.0.0 roots next.0.1 few next.1 in
          let near : length s.info ≤ next.0.0 + n = omega (arith, left, one.7) in
          let others = units_takes n s next.0.0 next.0.1 all near one.5 next.2 in (
            one.0 ∷ others.0,
            (one.1, drop next.0.0 s.info, one.2, one.3, others.1),
            others.2 ∙ ap (λ (xs : List Root). xs ++ roots_of others.0) one.4 ∙ one_more roots one.0 others.0,
            others.3,
          )
    ]

length_within : (xs ys : List Root) → length xs ≤ length (xs ++ ys)
length_within xs ys = omega (arith, length-append xs ys)

units_again : (units : List (Option Root)) (n : ℕ) (s : SectionBytes) (at : ℕ) (roots : List Root) → length s.info ≤ at + n → at ≤ length s.info → AreUnits s (drop at s.info) units → length (roots ++ roots_of units) ≤ 65536 → roots_from s n at roots ≡ Ok (roots ++ roots_of units)
units_again [] zero s at roots left within are few = ap (λ (xs : List Root). Ok xs) (sym (append-nil roots))
units_again [] (suc n) s at roots left within are few =
    let none : length (drop at s.info) ≡ 0 = ap length are in
    let end : at ≡ length s.info = omega (arith, none, within, length-drop at s.info) in
    roots_end s (suc n) at roots (omega arith) end ∙ ap (λ (xs : List Root). Ok xs) (sym (append-nil roots))
units_again (unit ∷ units) n s at roots left within are few =
    let one = are.3 in
    let spelled : drop at s.info ≡ one.front ++ (one.body ++ are.1) = are.2 ∙ ap (λ (xs : List ℕ). xs ++ are.1) one.spelled ∙ append_assoc one.front one.body are.1 in
    let lies = extent_again s.info at one.wide one.front one.body are.1 spelled one.is_length in
    let e = lies.0 in
    let body : root_at s at e ≡ Ok unit = body_again s at e.wide one.body (fields_of s.info e) unit lies.3 (subst (λ w. IsUnitBody s w one.body unit) lies.2 one.is_body) in
    let whole = one_more roots unit units in
    let some_few : length (roots ++ cons_option unit []) ≤ 65536 = omega (arith, few, ap length whole, length_within (roots ++ cons_option unit []) (roots_of units)) in
    let read : unit_read s at roots ≡ Ok (e.end, roots ++ cons_option unit []) = rw (lies.1, body, with_again at roots unit some_few) refl in
    let some : 0 < n = omega (arith, left, lies.5, lies.6) in
    let not : at ≢ length s.info = λ same. absurd (omega (arith, same, lies.5, lies.6)) in
    let near : length s.info ≤ e.end + (n - 1) = omega (arith, left, lies.6, some) in
    roots_more s n at e.end roots (roots ++ cons_option unit []) some not read
    ∙ units_again units (n - 1) s e.end (roots ++ cons_option unit []) near lies.5 (subst (λ (xs : List ℕ). AreUnits s xs units) (sym lies.4) are.4) (subst (λ (xs : List Root). length xs ≤ 65536) (sym whole) few)
    ∙ ap (λ (xs : List Root). Ok xs) whole

pub roots_takes : (s : SectionBytes) (roots : List Root) → roots_in s ≡ Ok roots → AreRoots s roots
roots_takes s roots is =
    let found = units_takes (length s.info) s 0 [] roots (omega arith) (omega arith) is in
    record { units = found.0; are_units = found.1; has_roots = found.2; few = found.3 }

pub roots_again : (s : SectionBytes) (roots : List Root) → AreRoots s roots → roots_in s ≡ Ok roots
roots_again s roots is =
    units_again is.units (length s.info) s 0 [] (omega arith) (omega arith) is.are_units (subst (λ (xs : List Root). length xs ≤ 65536) is.has_roots is.few) ∙ ap (λ (xs : List Root). Ok xs) (sym is.has_roots)

pub one_list : (s : SectionBytes) (roots others : List Root) → AreRoots s roots → AreRoots s others → roots ≡ others
one_list s roots others is other = same_ok {E = InfoFault} roots others (sym (roots_again s roots is) ∙ roots_again s others other)

pub units_follow : (s : SectionBytes) (front back : List ℕ) (units more : List (Option Root)) → AreUnits s front units → AreUnits s back more → AreUnits s (front ++ back) (units ++ more)
units_follow s front back [] more are others = subst (λ (xs : List ℕ). AreUnits s (xs ++ back) more) (sym are) others
units_follow s front back (unit ∷ units) more are others =
    (are.0, are.1 ++ back, ap (λ (xs : List ℕ). xs ++ back) are.2 ∙ append_assoc are.0 are.1 back, are.3, units_follow s are.1 back units more are.4 others)
