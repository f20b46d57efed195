-- A unit has one report or one first fault.
use Rattle.std.proofs.Common.{◌≡◌, ℕ, List, [], ◌∷◌, ◌++◌, length, Option, Some, None, Result, Ok, Err, inl, inr, ap, subst, ◌∙◌, sym, append_assoc}
use Rattle.std.proofs.lemmas.List.{append_cancel_left}
use Rattle.mac_base.specs.Input.{Input, rest, ahead}
use Rattle.mac_base.specs.Spelling.{Between}
use Rattle.mac_base.proofs.Choices.{same_some, none_is_no_some, ok_is_no_err}
use Rattle.mac_base.proofs.InputLemmas.{between_cut, between_front}
use Rattle.unit_header.specs.declared.fault.UnitFault.{UnitFault}
use Rattle.unit_header.specs.Header.{Header}
use Rattle.unit_header.specs.Reading.{header_at}
use Rattle.unit_header.proofs.TableLemmas.{same_between}
use Rattle.unit_header.proofs.HeaderLemmas.{header_again}
use Rattle.macro_opcodes.specs.Entry.{Entry}
use Rattle.macro_opcodes.specs.Spells.{AreEntries}
use Rattle.macro_opcodes.specs.Reading.{entry_at, AreRead}
use Rattle.macro_opcodes.proofs.EntryLemmas.{entry_again, close_again}
use Rattle.macro_opcodes.proofs.UnitLemmas.{one_unit}
use Rattle.macro_query.specs.UnitLines.{report}
use Rattle.macro_query.specs.Unit.{shown, AreShown, IsReportOf, FailsAt, IsFirstFault}

same_fault : {A : Type 0} (r : Result A UnitFault) (a b : UnitFault) → r ≡ Err a → r ≡ Err b → a ≡ b
same_fault r a b is also = cc

same_value : {A : Type 0} (r : Result A UnitFault) (x y : A) → r ≡ Ok x → r ≡ Ok y → x ≡ y
same_value r x y is also = cc

-- what is spelled is read entry by entry
spelled_are_read : (h : Header) (es : List Entry) (p q : Input) (bytes : List ℕ) → Between p q bytes → AreEntries h p.at bytes es → AreRead h p es q
spelled_are_read h [] p q bytes between are = same_between p q (subst (λ (xs : List ℕ). Between p q xs) are between)
spelled_are_read h (e ∷ es) p q bytes between are =
    let cut = between_cut p q are.0 are.1 (subst (λ (xs : List ℕ). Between p q xs) are.2 between) in
    let m = ahead p (length are.0) in
    (m, entry_again h p m are.0 e cut.0 are.4 are.3, spelled_are_read h es m q are.1 cut.1 are.5)

-- a unit that is read to its closing 0
record Closed (strs : Option (List ℕ)) (section : List ℕ) (offset : ℕ) : Type 0 where
  header : Header
  start : Input
  entries : List Entry
  lines : List Entry
  place : Input
  behind : Input
  read_header : header_at (record { bytes = section; at = offset }) ≡ Ok (header, start)
  are_read : AreRead header start entries place
  are_shown : AreShown strs entries lines
  closes : entry_at header place ≡ Ok (None, behind)

closed_of : (strs : Option (List ℕ)) (section : List ℕ) (offset : ℕ) (text : List ℕ) → IsReportOf strs section offset text → Closed strs section offset
closed_of strs section offset text is =
    let s = is.spelled in
    let p0 : Input = record { bytes = section; at = offset } in
    let p = ahead p0 (length s.header) in
    let whole = s.stands ∙ append_assoc s.header s.body (0 ∷ s.after) in
    let first = between_front p0 s.header (s.body ++ 0 ∷ s.after) whole in
    let left : rest p ≡ s.body ++ 0 ∷ s.after = append_cancel_left s.header _ _ (sym first.front ∙ whole) in
    let second = between_front p s.body (0 ∷ s.after) left in
    let q = ahead p (length s.body) in
    let behind : rest q ≡ 0 ∷ s.after = append_cancel_left s.body _ _ (sym second.front ∙ left) in
    record {
      header = is.header;
      start = p;
      entries = is.entries;
      lines = is.lines;
      place = q;
      behind = ahead q 1;
      read_header = header_again p0 p s.header is.header first s.is_header;
      are_read = spelled_are_read is.header is.entries p q s.body second s.are_entries;
      are_shown = is.are_shown;
      closes = close_again is.header q (ahead q 1) (between_front q (0 ∷ []) s.after behind);
    }

fails_or_shows : (strs : Option (List ℕ)) (h : Header) (p r : Input) (e line : Entry) (fault : UnitFault) → FailsAt strs h p fault → entry_at h p ≡ Ok (Some e, r) → shown strs e ≡ Ok line → ⊥
fails_or_shows strs h p r e line fault (inl refused) is shows = ok_is_no_err _ _ fault is refused
fails_or_shows strs h p r e line fault (inr x) is shows =
    let both = same_value (entry_at h p) (Some x.0, x.1) (Some e, r) x.2 is in
    let same : x.0 ≡ e = same_some x.0 e (ap (λ (z : Option Entry × Input). z.0) both) in
    ok_is_no_err (shown strs e) line fault shows (ap (shown strs) (sym same) ∙ x.3)

fails_or_closes : (strs : Option (List ℕ)) (h : Header) (p r : Input) (fault : UnitFault) → FailsAt strs h p fault → entry_at h p ≡ Ok (None, r) → ⊥
fails_or_closes strs h p r fault (inl refused) is = ok_is_no_err _ _ fault is refused
fails_or_closes strs h p r fault (inr x) is =
    none_is_no_some x.0 (ap (λ (z : Option Entry × Input). z.0) (same_value (entry_at h p) (None, r) (Some x.0, x.1) is x.2))

one_failure : (strs : Option (List ℕ)) (h : Header) (p : Input) (a b : UnitFault) → FailsAt strs h p a → FailsAt strs h p b → a ≡ b
one_failure strs h p a b (inl is) (inl also) = same_fault (entry_at h p) a b is also
one_failure strs h p a b (inl is) (inr x) = absurd (ok_is_no_err _ _ a x.2 is)
one_failure strs h p a b (inr x) (inl also) = absurd (ok_is_no_err _ _ b x.2 also)
one_failure strs h p a b (inr x) (inr y) =
    let both = same_value (entry_at h p) (Some x.0, x.1) (Some y.0, y.1) x.2 y.2 in
    let same : x.0 ≡ y.0 = same_some x.0 y.0 (ap (λ (z : Option Entry × Input). z.0) both) in
    same_fault (shown strs y.0) a b (ap (shown strs) (sym same) ∙ x.3) y.3

-- two readings from one place go the same way
next_same : (h : Header) (p r s : Input) (d e : Entry) (fs : List Entry) (q : Input) → entry_at h p ≡ Ok (Some d, r) → entry_at h p ≡ Ok (Some e, s) → AreRead h s fs q → AreRead h r fs q
next_same h p r s d e fs q is also are = subst (λ (z : Input). AreRead h z fs q) (sym (ap (λ (x : Option Entry × Input). x.1) (same_value (entry_at h p) (Some d, r) (Some e, s) is also))) are

one_fault_behind : (strs : Option (List ℕ)) (h : Header) (es fs ls ms : List Entry) (p q r : Input) (a b : UnitFault) → AreRead h p es q → AreShown strs es ls → FailsAt strs h q a → AreRead h p fs r → AreShown strs fs ms → FailsAt strs h r b → a ≡ b
one_fault_behind strs h [] [] ls ms p q r a b are shows fails are' shows' fails' =
    one_failure strs h p a b (subst (λ (z : Input). FailsAt strs h z a) (sym are) fails) (subst (λ (z : Input). FailsAt strs h z b) (sym are') fails')
one_fault_behind strs h [] (f ∷ fs) ls [] p q r a b are shows fails are' shows' fails' = absurd shows'
one_fault_behind strs h [] (f ∷ fs) ls (m ∷ ms) p q r a b are shows fails are' shows' fails' =
    absurd (fails_or_shows strs h p are'.0 f m a (subst (λ (z : Input). FailsAt strs h z a) (sym are) fails) are'.1 shows'.0)
one_fault_behind strs h (e ∷ es) fs [] ms p q r a b are shows fails are' shows' fails' = absurd shows
one_fault_behind strs h (e ∷ es) [] (l ∷ ls) ms p q r a b are shows fails are' shows' fails' =
    absurd (fails_or_shows strs h p are.0 e l b (subst (λ (z : Input). FailsAt strs h z b) (sym are') fails') are.1 shows.0)
one_fault_behind strs h (e ∷ es) (f ∷ fs) (l ∷ ls) [] p q r a b are shows fails are' shows' fails' = absurd shows'
one_fault_behind strs h (e ∷ es) (f ∷ fs) (l ∷ ls) (m ∷ ms) p q r a b are shows fails are' shows' fails' =
    one_fault_behind strs h es fs ls ms are.0 q r a b are.2 shows.1 fails (next_same h p are.0 are'.0 e f fs r are.1 are'.1 are'.2) shows'.1 fails'

no_fault_closed : (strs : Option (List ℕ)) (h : Header) (es fs ls ms : List Entry) (p q r behind : Input) (a : UnitFault) → AreRead h p es q → AreShown strs es ls → FailsAt strs h q a → AreRead h p fs r → AreShown strs fs ms → entry_at h r ≡ Ok (None, behind) → ⊥
no_fault_closed strs h [] [] ls ms p q r behind a are shows fails are' shows' closes =
    fails_or_closes strs h p behind a (subst (λ (z : Input). FailsAt strs h z a) (sym are) fails) (ap (entry_at h) are' ∙ closes)
no_fault_closed strs h [] (f ∷ fs) ls [] p q r behind a are shows fails are' shows' closes = shows'
no_fault_closed strs h [] (f ∷ fs) ls (m ∷ ms) p q r behind a are shows fails are' shows' closes =
    fails_or_shows strs h p are'.0 f m a (subst (λ (z : Input). FailsAt strs h z a) (sym are) fails) are'.1 shows'.0
no_fault_closed strs h (e ∷ es) fs [] ms p q r behind a are shows fails are' shows' closes = shows
no_fault_closed strs h (e ∷ es) [] (l ∷ ls) ms p q r behind a are shows fails are' shows' closes =
    none_is_no_some e (ap (λ (x : Option Entry × Input). x.0) (same_value (entry_at h p) (None, behind) (Some e, are.0) (ap (entry_at h) are' ∙ closes) are.1))
no_fault_closed strs h (e ∷ es) (f ∷ fs) (l ∷ ls) [] p q r behind a are shows fails are' shows' closes = shows'
no_fault_closed strs h (e ∷ es) (f ∷ fs) (l ∷ ls) (m ∷ ms) p q r behind a are shows fails are' shows' closes =
    no_fault_closed strs h es fs ls ms are.0 q r behind a are.2 shows.1 fails (next_same h p are.0 are'.0 e f fs r are.1 are'.1 are'.2) shows'.1 closes

same_start : (p start start' : Input) (h h' : Header) → header_at p ≡ Ok (h, start) → header_at p ≡ Ok (h', start') → (h' ≡ h) × (start' ≡ start)
same_start p start start' h h' is also =
    let both = same_value (header_at p) (h', start') (h, start) also is in
    (ap (λ (x : Header × Input). x.0) both, ap (λ (x : Header × Input). x.1) both)

-- one first fault
pub one_fault : (strs : Option (List ℕ)) (section : List ℕ) (offset : ℕ) (a b : UnitFault) → IsFirstFault strs section offset a → IsFirstFault strs section offset b → a ≡ b
one_fault strs section offset a b (inl is) (inl also) = same_fault (header_at (record { bytes = section; at = offset })) a b is also
one_fault strs section offset a b (inl is) (inr also) = absurd (ok_is_no_err _ _ a also.read_header is)
one_fault strs section offset a b (inr is) (inl also) = absurd (ok_is_no_err _ _ b is.read_header also)
one_fault strs section offset a b (inr is) (inr also) =
    let same = same_start (record { bytes = section; at = offset }) is.start also.start is.header also.header is.read_header also.read_header in
    let read : AreRead is.header is.start also.entries also.place =
    subst (λ (z : Input). AreRead is.header z also.entries also.place) same.1 (subst (λ (k : Header). AreRead k also.start also.entries also.place) same.0 also.are_read) in
    one_fault_behind strs is.header is.entries also.entries is.lines also.lines is.start is.place also.place a b is.are_read is.are_shown is.fails read also.are_shown
    (subst (λ (k : Header). FailsAt strs k also.place b) same.0 also.fails)

-- what has a report has no fault
pub no_fault : (strs : Option (List ℕ)) (section : List ℕ) (offset : ℕ) (text : List ℕ) (a : UnitFault) → IsReportOf strs section offset text → IsFirstFault strs section offset a → ⊥
no_fault strs section offset text a is (inl also) = ok_is_no_err _ _ a (closed_of strs section offset text is).read_header also
no_fault strs section offset text a is (inr also) =
    let closed = closed_of strs section offset text is in
    let same = same_start (record { bytes = section; at = offset }) also.start closed.start also.header closed.header also.read_header closed.read_header in
    let read : AreRead also.header also.start closed.entries closed.place =
    subst (λ (z : Input). AreRead also.header z closed.entries closed.place) same.1 (subst (λ (k : Header). AreRead k closed.start closed.entries closed.place) same.0 closed.are_read) in
    no_fault_closed strs also.header also.entries closed.entries also.lines closed.lines also.start also.place closed.place closed.behind a also.are_read also.are_shown also.fails read closed.are_shown
    (subst (λ (k : Header). entry_at k closed.place ≡ Ok (None, closed.behind)) same.0 closed.closes)

same_lines : (strs : Option (List ℕ)) (es ls ms : List Entry) → AreShown strs es ls → AreShown strs es ms → ls ≡ ms
same_lines strs [] ls ms are also = are ∙ sym also
same_lines strs (e ∷ es) [] ms are also = absurd are
same_lines strs (e ∷ es) (l ∷ ls) [] are also = absurd also
same_lines strs (e ∷ es) (l ∷ ls) (m ∷ ms) are also =
    let first = same_value (shown strs e) l m are.0 also.0 in
    let more = same_lines strs es ls ms are.1 also.1 in
    λ i. first i ∷ more i

-- and one report
pub one_report : (strs : Option (List ℕ)) (section : List ℕ) (offset : ℕ) (s t : List ℕ) → IsReportOf strs section offset s → IsReportOf strs section offset t → s ≡ t
one_report strs section offset s t is also =
    let same = one_unit section offset is.header also.header is.entries also.entries is.end also.end is.spelled also.spelled in
    let lines = same_lines strs also.entries is.lines also.lines (subst (λ (es : List Entry). AreShown strs es is.lines) same.1 is.are_shown) also.are_shown in
    is.told ∙ ap report lines ∙ sym also.told
