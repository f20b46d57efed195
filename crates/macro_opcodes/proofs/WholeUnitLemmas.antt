-- A macro unit is read entry by entry.
use Rattle.std.proofs.Common.{◌≡◌, ℕ, ◌+◌, List, [], ◌∷◌, ◌++◌, length, Option, Some, None, Ok, Err, refl, ap, subst, ◌∙◌, sym, append_assoc}
use Rattle.std.proofs.lemmas.List.{append_cancel_left}
use Rattle.mac_base.specs.Input.{Input, rest, ahead}
use Rattle.mac_base.specs.Spelling.{Between}
use Rattle.mac_base.proofs.Choices.{same_ok, same_some}
use Rattle.mac_base.proofs.InputLemmas.{between_none, between_both, between_cut, between_front}
use Rattle.unit_header.specs.declared.fault.UnitFault.{UnitFault}
use Rattle.unit_header.specs.Header.{Header}
use Rattle.unit_header.specs.Reading.{header_at}
use Rattle.unit_header.proofs.HeaderLemmas.{header_takes, header_again}
use Rattle.macro_opcodes.specs.Entry.{Entry}
use Rattle.macro_opcodes.specs.Spells.{IsEntry, AreEntries, Spells}
use Rattle.macro_opcodes.specs.Reading.{entry_at, AreRead}
use Rattle.macro_opcodes.proofs.EntryLemmas.{entry_takes, entry_again, close_again}
use Rattle.macro_opcodes.proofs.UnitLemmas.{unit_spelled, unit_refused}

entries_read : (h : Header) (es : List Entry) (p q : Input) (bytes : List ℕ) → Between p q bytes → AreEntries h p.at bytes es → AreRead h p es q
entries_read h [] p q bytes between are =
    let none : Between p q [] = subst (Between p q) are between in
    (between_none p).place ∙ sym none.place
entries_read h (e ∷ es) p q bytes between are =
    let parts = between_cut p q are.0 are.1 (subst (Between p q) are.2 between) in
    let r = ahead p (length are.0) in
    (r, entry_again h p r are.0 e parts.0 are.4 are.3, entries_read h es r q are.1 parts.1 are.5)

entries_spelled : (h : Header) (es : List Entry) (p q : Input) → AreRead h p es q → (bytes : List ℕ) × Between p q bytes × AreEntries h p.at bytes es
entries_spelled h [] p q are = ([], subst (λ (z : Input). Between p z []) are (between_none p), refl)
entries_spelled h (e ∷ es) p q are =
    let one = entry_takes h p are.0 e are.1 in
    let more = entries_spelled h es are.0 q are.2 in
    let place : are.0.at ≡ p.at + length one.0 = ap (λ (z : Input). z.at) one.1.place in
    (one.0 ++ more.0, between_both p are.0 q one.0 more.0 one.1 more.1, (one.0, more.0, refl {a = one.0 ++ more.0}, one.3, one.2, subst (λ (n : ℕ). AreEntries h n more.0 es) place more.2))

pub unit_read : (section : List ℕ) (offset : ℕ) (h : Header) (es : List Entry) (end : ℕ) → Spells section offset h es end
    → (p : Input) × (q : Input) × (header_at (record { bytes = section; at = offset }) ≡ Ok (h, p)) × AreRead h p es q × (entry_at h q ≡ Ok (None, record { bytes = section; at = end }))
unit_read section offset h es end s =
    let p0 : Input = record { bytes = section; at = offset } in
    let p = ahead p0 (length s.header) in
    let q = ahead p (length s.body) in
    let first = between_front p0 s.header (s.body ++ 0 ∷ s.after) (s.stands ∙ append_assoc s.header s.body (0 ∷ s.after)) in
    let left : rest p ≡ s.body ++ 0 ∷ s.after = append_cancel_left s.header _ _ (sym first.front ∙ s.stands ∙ append_assoc s.header s.body (0 ∷ s.after)) in
    let second = between_front p s.body (0 ∷ s.after) left in
    let last : rest q ≡ 0 ∷ s.after = append_cancel_left s.body _ _ (sym second.front ∙ left) in
    let closed = close_again h q (ahead q 1) (between_front q (0 ∷ []) s.after last) in
    let place : offset + length s.header + length s.body + 1 ≡ end = sym s.ends in
    (p, q, header_again p0 p s.header h first s.is_header, entries_read h es p q s.body second s.are_entries, closed ∙ ap (λ n. Ok (None, record { bytes = section; at = n })) place)

pub unit_is_spelled : (section : List ℕ) (offset : ℕ) (h : Header) (es : List Entry) (p q r : Input) → header_at (record { bytes = section; at = offset }) ≡ Ok (h, p) → AreRead h p es q → entry_at h q ≡ Ok (None, r) → Spells section offset h es r.at
unit_is_spelled section offset h es p q r header are closed =
    let first = header_takes (record { bytes = section; at = offset }) p h header in
    let body = entries_spelled h es p q are in
    unit_spelled section offset h p q r first.0 body.0 es first.1 first.2 body.1 body.2 closed

pub fault_excludes : (section : List ℕ) (offset : ℕ) (h : Header) (es : List Entry) (p q : Input) (fault : UnitFault) → header_at (record { bytes = section; at = offset }) ≡ Ok (h, p) → AreRead h p es q → entry_at h q ≡ Err fault
    → (h' : Header) (es' : List Entry) (end : ℕ) → Spells section offset h' es' end → ⊥
fault_excludes section offset h es p q fault header are refused =
    let first = header_takes (record { bytes = section; at = offset }) p h header in
    let body = entries_spelled h es p q are in
    unit_refused section offset h p q first.0 body.0 es fault first.1 first.2 body.1 body.2 refused

pub one_entry_at : (h : Header) (p q q' : Input) (a b : List ℕ) (e f : Entry) → Between p q a → Between p q' b → IsEntry h a e → IsEntry h b f → e.at ≡ p.at → f.at ≡ p.at → (e ≡ f) × (q ≡ q')
one_entry_at h p q q' a b e f first second is also here there =
    let same = same_ok {E = UnitFault} (Some e, q) (Some f, q') (sym (entry_again h p q a e first is here) ∙ entry_again h p q' b f second also there) in
    (same_some e f (ap (λ (z : Option Entry × Input). z.0) same), ap (λ (z : Option Entry × Input). z.1) same)
