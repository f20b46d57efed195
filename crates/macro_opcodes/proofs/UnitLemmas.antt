-- Entries one after another: a unit has one list of entries, and what isn't read isn't spelled.
use Rattle.std.proofs.Common.{◌≡◌, ℕ, ◌+◌, false, eqb, List, [], ◌∷◌, ◌++◌, length, take, Option, Some, None, Ok, Err, refl, ap, subst, ◌∙◌, sym, arith, length-append, append_assoc}
use Rattle.std.proofs.lemmas.List.{drop_at, take_at, append_cancel_left, append-nil}
use Rattle.mac_base.specs.Input.{Input, rest, ahead}
use Rattle.mac_base.specs.Spelling.{Between}
use Rattle.mac_base.proofs.Choices.{same_ok, same_some, ok_is_no_err}
use Rattle.mac_base.proofs.InputLemmas.{between_front}
use Rattle.unit_header.specs.declared.fault.UnitFault.{UnitFault}
use Rattle.unit_header.specs.Header.{Header}
use Rattle.unit_header.specs.Spelling.{IsHeader}
use Rattle.unit_header.specs.Reading.{header_at}
use Rattle.unit_header.proofs.HeaderLemmas.{header_again, one_header}
use Rattle.macro_opcodes.specs.Entry.{Entry}
use Rattle.macro_opcodes.specs.Spells.{IsEntry, AreEntries, Spells}
use Rattle.macro_opcodes.specs.Reading.{entry_at}
use Rattle.macro_opcodes.proofs.EntryLemmas.{no_forms_at_zero, entry_again, close_takes, close_again}

moved : (h : Header) (bytes : List ℕ) (e : Entry) (at : ℕ) → IsEntry h bytes e → IsEntry h bytes (record e { at = at })
moved h [] e at is = is
moved h (opcode ∷ bytes) e at is = is

no_zero : (h : Header) (front : List ℕ) (e : Entry) (x after : List ℕ) → IsEntry h front e → front ++ x ≡ 0 ∷ after → ⊥
no_zero h [] e x after is same = is
no_zero h (opcode ∷ bytes) e x after is same =
    let first : opcode ≡ 0 = cc in
    let t = no_forms_at_zero h opcode is.1 is.3 in
    let u : eqb 0 0 ≡ false = subst (λ (n : ℕ). eqb n 0 ≡ false) first t in
    cc

at_front : (front x : List ℕ) → Between (record { bytes = front ++ x; at = 0 }) (record { bytes = front ++ x; at = length front }) front
at_front front x = record {
  front = ap (λ xs. front ++ xs) (sym (drop_at front x (length front) refl));
  place = ap (λ n. record { bytes = front ++ x; at = n }) (omega arith);
}

-- an entry's bytes are no front of another's
pub one_entry : (h : Header) (a b x y : List ℕ) (e f : Entry) → IsEntry h a e → IsEntry h b f → a ++ x ≡ b ++ y → (a ≡ b) × (record e { at = 0 } ≡ record f { at = 0 })
one_entry h a b x y e f is also same =
    let p : Input = record { bytes = a ++ x; at = 0 } in
    let one : entry_at h p ≡ Ok (Some (record e { at = 0 }), record { bytes = a ++ x; at = length a }) =
    entry_again h p (record { bytes = a ++ x; at = length a }) a (record e { at = 0 }) (at_front a x) (moved h a e 0 is) refl in
    let two : entry_at h p ≡ Ok (Some (record f { at = 0 }), record { bytes = a ++ x; at = length b }) =
    subst (λ (xs : List ℕ). entry_at h (record { bytes = xs; at = 0 }) ≡ Ok (Some (record f { at = 0 }), record { bytes = xs; at = length b })) (sym same)
    (entry_again h (record { bytes = b ++ y; at = 0 }) (record { bytes = b ++ y; at = length b }) b (record f { at = 0 }) (at_front b y) (moved h b f 0 also) refl) in
    let both = same_ok (Some (record e { at = 0 }), record { bytes = a ++ x; at = length a }) (Some (record f { at = 0 }), record { bytes = a ++ x; at = length b }) (sym one ∙ two) in
    let long : length a ≡ length b = ap (λ (z : Option Entry × Input). z.1.at) both in (
      sym (take_at a x (length a) refl) ∙ ap (take (length a)) same ∙ take_at b y (length a) (sym long),
      same_some (record e { at = 0 }) (record f { at = 0 }) (ap (λ (z : Option Entry × Input). z.0) both),
    )

placed : (e f : Entry) (at : ℕ) → record e { at = 0 } ≡ record f { at = 0 } → e.at ≡ at → f.at ≡ at → e ≡ f
placed e f at same here there =
    let moved_both : record e { at = at } ≡ record f { at = at } = ap (λ (g : Entry). record g { at = at }) same in
    ap (λ n. record e { at = n }) here ∙ moved_both ∙ ap (λ n. record f { at = n }) (sym there)

-- one more entry behind those that were read
pub are_more : (h : Header) (at : ℕ) (xs front : List ℕ) (es : List Entry) (e : Entry) → AreEntries h at xs es → IsEntry h front e → e.at ≡ at + length xs → AreEntries h at (xs ++ front) (es ++ e ∷ [])
are_more h at xs front [] e are is here =
    let place : e.at ≡ at = here ∙ ap (λ (ys : List ℕ). at + length ys) are ∙ omega arith in
    (front, [], ap (λ (ys : List ℕ). ys ++ front) are ∙ sym (append-nil front), place, is, refl)
are_more h at xs front (d ∷ es) e are is here =
    let far : e.at ≡ at + length are.0 + length are.1 = omega (arith, here, ap length are.2, length-append are.0 are.1) in
    let whole : xs ++ front ≡ are.0 ++ (are.1 ++ front) = ap (λ (ys : List ℕ). ys ++ front) are.2 ∙ append_assoc are.0 are.1 front in
    (are.0, are.1 ++ front, whole, are.3, are.4, are_more h (at + length are.0) are.1 front es e are.5 is far)

-- what stands behind entries that were read, where all of them are the front of a unit's
pub data Next (h : Header) (es es' : List Entry) (xs ys r after : List ℕ) : Type 0 where
  closed : es ≡ es' → xs ≡ ys → r ≡ 0 ∷ after → Next h es es' xs ys r after
  goes_on : (front more : List ℕ) (e : Entry) → IsEntry h front e → r ≡ front ++ more → Next h es es' xs ys r after

next_more : (h : Header) (e f : Entry) (es fs : List Entry) (front back ys r after : List ℕ) → e ≡ f → Next h es fs back ys r after → Next h (e ∷ es) (f ∷ fs) (front ++ back) (front ++ ys) r after
next_more h e f es fs front back ys r after same (closed entries bytes is) = closed (λ i. same i ∷ entries i) (ap (λ (zs : List ℕ). front ++ zs) bytes) is
next_more h e f es fs front back ys r after same (goes_on begin more g is stands) = goes_on begin more g is stands

pub next_of : (h : Header) (at : ℕ) (es fs : List Entry) (xs ys r after : List ℕ) → AreEntries h at xs es → AreEntries h at ys fs → xs ++ r ≡ ys ++ 0 ∷ after → Next h es fs xs ys r after
next_of h at [] [] xs ys r after are also same =
    closed refl (are ∙ sym also) (sym (ap (λ (zs : List ℕ). zs ++ r) are) ∙ same ∙ ap (λ (zs : List ℕ). zs ++ 0 ∷ after) also)
next_of h at [] (f ∷ fs) xs ys r after are also same =
    goes_on also.0 (also.1 ++ 0 ∷ after) f also.4 (sym (ap (λ (zs : List ℕ). zs ++ r) are) ∙ same ∙ ap (λ (zs : List ℕ). zs ++ 0 ∷ after) also.2 ∙ append_assoc also.0 also.1 (0 ∷ after))
next_of h at (e ∷ es) [] xs ys r after are also same =
    absurd (no_zero h are.0 e (are.1 ++ r) after are.4 (sym (append_assoc are.0 are.1 r) ∙ sym (ap (λ (zs : List ℕ). zs ++ r) are.2) ∙ same ∙ ap (λ (zs : List ℕ). zs ++ 0 ∷ after) also))
next_of h at (e ∷ es) (f ∷ fs) xs ys r after are also same =
    let a = are.0 in
    let b = also.0 in
    let lined : a ++ (are.1 ++ r) ≡ b ++ (also.1 ++ 0 ∷ after) =
    sym (append_assoc a are.1 r) ∙ sym (ap (λ (zs : List ℕ). zs ++ r) are.2) ∙ same ∙ ap (λ (zs : List ℕ). zs ++ 0 ∷ after) also.2 ∙ append_assoc b also.1 (0 ∷ after) in
    let one = one_entry h a b (are.1 ++ r) (also.1 ++ 0 ∷ after) e f are.4 also.4 lined in
    let left : are.1 ++ r ≡ also.1 ++ 0 ∷ after = append_cancel_left a _ _ (lined ∙ ap (λ (zs : List ℕ). zs ++ (also.1 ++ 0 ∷ after)) (sym one.0)) in
    let there : AreEntries h (at + length a) also.1 fs = subst (λ (zs : List ℕ). AreEntries h (at + length zs) also.1 fs) (sym one.0) also.5 in
    let later = next_of h (at + length a) es fs are.1 also.1 r after are.5 there left in
    let both = next_more h e f es fs a are.1 also.1 r after (placed e f at one.1 are.3 also.3) later in
    subst (λ (zs : List ℕ). Next h (e ∷ es) (f ∷ fs) xs zs r after) (ap (λ (zs : List ℕ). zs ++ also.1) one.0 ∙ sym also.2)
    (subst (λ (zs : List ℕ). Next h (e ∷ es) (f ∷ fs) zs (a ++ also.1) r after) (sym are.2) both)

-- the unit that was read up to its closing 0
pub unit_spelled : (section : List ℕ) (offset : ℕ) (h : Header) (p q r : Input) (header xs : List ℕ) (es : List Entry) → Between (record { bytes = section; at = offset }) p header → IsHeader header h → Between p q xs → AreEntries h p.at xs es → entry_at h q ≡ Ok (None, r) → Spells section offset h es r.at
unit_spelled section offset h p q r header xs es first is second are ended =
    let last = close_takes h q r ended in
    let place : p.at ≡ offset + length header = ap (λ (z : Input). z.at) first.place in
    let next : q.at ≡ p.at + length xs = ap (λ (z : Input). z.at) second.place in
    let end : r.at ≡ q.at + 1 = ap (λ (z : Input). z.at) last.place in
    record {
      header = header;
      body = xs;
      after = rest r;
      stands = first.front ∙ ap (λ ys. header ++ ys) (second.front ∙ ap (λ ys. xs ++ ys) last.front) ∙ sym (append_assoc header xs (0 ∷ rest r));
      is_header = is;
      are_entries = subst (λ (n : ℕ). AreEntries h n xs es) place are;
      ends = omega (arith, place, next, end);
    }

-- entries that were read, beside any unit at the same offset
beside : (section : List ℕ) (offset : ℕ) (h h' : Header) (p q : Input) (header xs : List ℕ) (es es' : List Entry) (end : ℕ) → Between (record { bytes = section; at = offset }) p header → IsHeader header h → Between p q xs → AreEntries h p.at xs es → (s : Spells section offset h' es' end) → Next h es es' xs s.body (rest q) s.after
beside section offset h h' p q header xs es es' end first is second are s =
    let whole : header ++ (xs ++ rest q) ≡ s.header ++ (s.body ++ 0 ∷ s.after) =
    ap (λ ys. header ++ ys) (sym second.front) ∙ sym first.front ∙ s.stands ∙ append_assoc s.header s.body (0 ∷ s.after) in
    let same = one_header header s.header (xs ++ rest q) (s.body ++ 0 ∷ s.after) h h' is s.is_header whole in
    let place : p.at ≡ offset + length header = ap (λ (z : Input). z.at) first.place in
    let there : AreEntries h (offset + length header) s.body es' =
    subst (λ (z : Header). AreEntries z (offset + length header) s.body es') (sym same.1) (subst (λ (zs : List ℕ). AreEntries h' (offset + length zs) s.body es') (sym same.0) s.are_entries) in
    let lined : xs ++ rest q ≡ s.body ++ 0 ∷ s.after = append_cancel_left header _ _ (whole ∙ ap (λ (zs : List ℕ). zs ++ (s.body ++ 0 ∷ s.after)) (sym same.0)) in
    next_of h (offset + length header) es es' xs s.body (rest q) s.after (subst (λ (n : ℕ). AreEntries h n xs es) place are) there lined

no_next : (h : Header) (es es' : List Entry) (xs ys after : List ℕ) (q : Input) (fault : UnitFault) → entry_at h q ≡ Err fault → Next h es es' xs ys (rest q) after → ⊥
no_next h es es' xs ys after q fault refused (closed entries bytes is) =
    ok_is_no_err _ _ fault (close_again h q (ahead q 1) (between_front q (0 ∷ []) after is)) refused
no_next h es es' xs ys after q fault refused (goes_on front more e is stands) =
    ok_is_no_err _ _ fault (entry_again h q (ahead q (length front)) front (record e { at = q.at }) (between_front q front more stands) (moved h front e q.at is) refl) refused

-- where an entry can't be read, no unit is spelled
pub unit_refused : (section : List ℕ) (offset : ℕ) (h : Header) (p q : Input) (header xs : List ℕ) (es : List Entry) (fault : UnitFault) → Between (record { bytes = section; at = offset }) p header → IsHeader header h → Between p q xs → AreEntries h p.at xs es → entry_at h q ≡ Err fault → (h' : Header) (es' : List Entry) (end : ℕ) → Spells section offset h' es' end → ⊥
unit_refused section offset h p q header xs es fault first is second are refused h' es' end s =
    no_next h es es' xs s.body s.after q fault refused (beside section offset h h' p q header xs es es' end first is second are s)

-- nor where its header can't
pub header_refused : (section : List ℕ) (offset : ℕ) (fault : UnitFault) → header_at (record { bytes = section; at = offset }) ≡ Err fault → (h : Header) (es : List Entry) (end : ℕ) → Spells section offset h es end → ⊥
header_refused section offset fault refused h es end s =
    let p : Input = record { bytes = section; at = offset } in
    ok_is_no_err _ _ fault (header_again p (ahead p (length s.header)) s.header h (between_front p s.header (s.body ++ 0 ∷ s.after) (s.stands ∙ append_assoc s.header s.body (0 ∷ s.after))) s.is_header) refused

entries_of_next : (h : Header) (es es' : List Entry) (xs ys after more : List ℕ) → Next h es es' xs ys (0 ∷ after) more → (es ≡ es') × (xs ≡ ys)
entries_of_next h es es' xs ys after more (closed entries bytes is) = (entries, bytes)
entries_of_next h es es' xs ys after more (goes_on front rest_of e is stands) = absurd (no_zero h front e rest_of after is (sym stands))

-- at most one unit stands at an offset
pub one_unit : (section : List ℕ) (offset : ℕ) (h h' : Header) (es es' : List Entry) (end end' : ℕ) → Spells section offset h es end → Spells section offset h' es' end' → (h ≡ h') × (es ≡ es') × (end ≡ end')
one_unit section offset h h' es es' end end' s t =
    let p0 : Input = record { bytes = section; at = offset } in
    let p = ahead p0 (length s.header) in
    let first = between_front p0 s.header (s.body ++ 0 ∷ s.after) (s.stands ∙ append_assoc s.header s.body (0 ∷ s.after)) in
    let left : rest p ≡ s.body ++ 0 ∷ s.after = append_cancel_left s.header _ _ (sym first.front ∙ s.stands ∙ append_assoc s.header s.body (0 ∷ s.after)) in
    let second = between_front p s.body (0 ∷ s.after) left in
    let behind : rest (ahead p (length s.body)) ≡ 0 ∷ s.after = append_cancel_left s.body _ _ (sym second.front ∙ left) in
    let next = beside section offset h h' p (ahead p (length s.body)) s.header s.body es es' end' first s.is_header second s.are_entries t in
    let found = entries_of_next h es es' s.body t.body s.after t.after (subst (λ (zs : List ℕ). Next h es es' s.body t.body zs t.after) behind next) in
    let headers = one_header s.header t.header _ _ h h' s.is_header t.is_header (sym (append_assoc s.header s.body (0 ∷ s.after)) ∙ sym s.stands ∙ t.stands ∙ append_assoc t.header t.body (0 ∷ t.after)) in
    (headers.1, found.0, omega (arith, s.ends, t.ends, ap length found.1, ap length headers.0))
