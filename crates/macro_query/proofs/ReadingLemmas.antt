-- A unit is read entry by entry, to its closing 0 or to its first fault, and in one way.
use Rattle.std.proofs.Common.{◌≡◌, ◌⊎◌, ℕ, zero, suc, ◌+◌, ◌<◌, List, [], ◌∷◌, ◌++◌, length, Option, Some, None, Result, Ok, Err, inl, inr, refl, ap, subst, ◌∙◌, sym, arith, length-append}
use Rattle.mac_base.specs.Input.{Input, rest}
use Rattle.mac_base.specs.Spelling.{Between}
use Rattle.mac_base.proofs.InputLemmas.{between_none, between_both}
use Rattle.unit_header.specs.declared.fault.UnitFault.{UnitFault}
use Rattle.unit_header.specs.Header.{Header}
use Rattle.unit_header.specs.Spelling.{IsHeader}
use Rattle.unit_header.specs.Reading.{header_at}
use Rattle.unit_header.proofs.HeaderLemmas.{header_takes}
use Rattle.macro_opcodes.specs.Entry.{Entry}
use Rattle.macro_opcodes.specs.Spells.{IsEntry, AreEntries}
use Rattle.macro_opcodes.specs.Reading.{entry_at, AreRead}
use Rattle.macro_opcodes.proofs.EntryLemmas.{entry_takes}
use Rattle.macro_opcodes.proofs.UnitLemmas.{are_more, unit_spelled}
use Rattle.macro_query.specs.UnitLines.{report}
use Rattle.macro_query.specs.Unit.{shown, AreShown, IsReportOf, FailsAt, IsFirstFault}

-- the entries up to a place were read without a fault, and these are their lines
pub record ReadSoFar (strs : Option (List ℕ)) (section : List ℕ) (offset : ℕ) (h : Header) (place : Input) (lines : List Entry) : Type 0 where
  pub start : Input
  pub front : List ℕ
  pub body : List ℕ
  pub entries : List Entry
  pub read_header : header_at (record { bytes = section; at = offset }) ≡ Ok (h, start)
  pub header : Between (record { bytes = section; at = offset }) start front
  pub is_header : IsHeader front h
  pub passed : Between start place body
  pub are_entries : AreEntries h start.at body entries
  pub are_read : AreRead h start entries place
  pub are_shown : AreShown strs entries lines

are_read_more : (h : Header) (es : List Entry) (p q r : Input) (e : Entry) → AreRead h p es q → entry_at h q ≡ Ok (Some e, r) → AreRead h p (es ++ e ∷ []) r
are_read_more h [] p q r e are is = (r, ap (entry_at h) are ∙ is, refl)
are_read_more h (d ∷ es) p q r e are is = (are.0, are.1, are_read_more h es are.0 q r e are.2 is)

are_shown_more : (strs : Option (List ℕ)) (es lines : List Entry) (e line : Entry) → AreShown strs es lines → shown strs e ≡ Ok line → AreShown strs (es ++ e ∷ []) (lines ++ line ∷ [])
are_shown_more strs [] lines e line are is = subst (λ (ls : List Entry). AreShown strs (e ∷ []) (ls ++ line ∷ [])) (sym are) (is, refl)
are_shown_more strs (d ∷ es) [] e line are is = absurd are
are_shown_more strs (d ∷ es) (l ∷ lines) e line are is = (are.0, are_shown_more strs es lines e line are.1 is)

pub read_none : (strs : Option (List ℕ)) (section : List ℕ) (offset : ℕ) (h : Header) (p : Input) → header_at (record { bytes = section; at = offset }) ≡ Ok (h, p) → ReadSoFar strs section offset h p []
read_none strs section offset h p is =
    let found = header_takes (record { bytes = section; at = offset }) p h is in
    record { start = p; front = found.0; body = []; entries = []; read_header = is; header = found.1; is_header = found.2; passed = between_none p; are_entries = refl; are_read = refl; are_shown = refl }

pub read_more : (strs : Option (List ℕ)) (section : List ℕ) (offset : ℕ) (h : Header) (q r : Input) (e line : Entry) (lines : List Entry) → ReadSoFar strs section offset h q lines → entry_at h q ≡ Ok (Some e, r) → shown strs e ≡ Ok line → ReadSoFar strs section offset h r (lines ++ line ∷ [])
read_more strs section offset h q r e line lines so_far is shows =
    let found = entry_takes h q r e is in
    let place : q.at ≡ so_far.start.at + length so_far.body = ap (λ (z : Input). z.at) so_far.passed.place in
    record {
      start = so_far.start;
      front = so_far.front;
      body = so_far.body ++ found.0;
      entries = so_far.entries ++ e ∷ [];
      read_header = so_far.read_header;
      header = so_far.header;
      is_header = so_far.is_header;
      passed = between_both so_far.start q r so_far.body found.0 so_far.passed found.1;
      are_entries = are_more h so_far.start.at so_far.body found.0 so_far.entries e so_far.are_entries found.2 (found.3 ∙ place);
      are_read = are_read_more h so_far.entries so_far.start q r e so_far.are_read is;
      are_shown = are_shown_more strs so_far.entries lines e line so_far.are_shown shows;
    }

pub read_all : (strs : Option (List ℕ)) (section : List ℕ) (offset : ℕ) (h : Header) (q r : Input) (lines : List Entry) (text : List ℕ) → ReadSoFar strs section offset h q lines → entry_at h q ≡ Ok (None, r) → text ≡ report lines → IsReportOf strs section offset text
read_all strs section offset h q r lines text so_far is told = record {
  header = h;
  entries = so_far.entries;
  lines = lines;
  end = r.at;
  spelled = unit_spelled section offset h so_far.start q r so_far.front so_far.body so_far.entries so_far.header so_far.is_header so_far.passed so_far.are_entries is;
  are_shown = so_far.are_shown;
  told = told;
}

pub read_fault : (strs : Option (List ℕ)) (section : List ℕ) (offset : ℕ) (h : Header) (q : Input) (lines : List Entry) (fault : UnitFault) → ReadSoFar strs section offset h q lines → FailsAt strs h q fault → IsFirstFault strs section offset fault
read_fault strs section offset h q lines fault so_far fails = inr (record {
  header = h;
  start = so_far.start;
  entries = so_far.entries;
  lines = lines;
  place = q;
  read_header = so_far.read_header;
  are_read = so_far.are_read;
  are_shown = so_far.are_shown;
  fails = fails;
})

some_bytes : (h : Header) (bytes : List ℕ) (e : Entry) → IsEntry h bytes e → 0 < length bytes
some_bytes h [] e is = absurd is
some_bytes h (b ∷ bytes) e is = omega arith

pub less_left : (h : Header) (q r : Input) (e : Entry) → entry_at h q ≡ Ok (Some e, r) → length (rest r) < length (rest q)
less_left h q r e is =
    let found = entry_takes h q r e is in
    omega (arith, some_bytes h found.0 e found.2, ap length found.1.front, length-append found.0 (rest r))

-- a unit has a report, or a first fault
abbrev pub Decided : Option (List ℕ) → List ℕ → ℕ → Type 0
Decided strs section offset = ((text : List ℕ) × IsReportOf strs section offset text) ⊎ ((fault : UnitFault) × IsFirstFault strs section offset fault)

decided_line : (strs : Option (List ℕ)) (section : List ℕ) (offset : ℕ) (h : Header) (q r : Input) (e : Entry) (lines : List Entry) (s : Result Entry UnitFault) → ReadSoFar strs section offset h q lines → entry_at h q ≡ Ok (Some e, r) → shown strs e ≡ s → ((more : List Entry) → ReadSoFar strs section offset h r more → Decided strs section offset) → Decided strs section offset
decided_line strs section offset h q r e lines (Err fault) so_far is shows on = inr (fault, read_fault strs section offset h q lines fault so_far (inr (e, r, is, shows)))
decided_line strs section offset h q r e lines (Ok line) so_far is shows on = on (lines ++ line ∷ []) (read_more strs section offset h q r e line lines so_far is shows)

decided_by : (strs : Option (List ℕ)) (section : List ℕ) (offset : ℕ) (h : Header) (q r : Input) (o : Option Entry) (lines : List Entry) → ReadSoFar strs section offset h q lines → entry_at h q ≡ Ok (o, r) → ((more : List Entry) → length (rest r) < length (rest q) → ReadSoFar strs section offset h r more → Decided strs section offset) → Decided strs section offset
decided_by strs section offset h q r None lines so_far is on = inl (report lines, read_all strs section offset h q r lines (report lines) so_far is refl)
decided_by strs section offset h q r (Some e) lines so_far is on = decided_line strs section offset h q r e lines (shown strs e) so_far is refl (λ more. on more (less_left h q r e is))

decided_next : (strs : Option (List ℕ)) (section : List ℕ) (offset : ℕ) (h : Header) (q : Input) (read : Result (Option Entry × Input) UnitFault) (lines : List Entry) → ReadSoFar strs section offset h q lines → entry_at h q ≡ read → ((r : Input) (more : List Entry) → length (rest r) < length (rest q) → ReadSoFar strs section offset h r more → Decided strs section offset) → Decided strs section offset
decided_next strs section offset h q (Err fault) lines so_far is on = inr (fault, read_fault strs section offset h q lines fault so_far (inl is))
decided_next strs section offset h q (Ok read) lines so_far is on = decided_by strs section offset h q read.1 read.0 lines so_far is (on read.1)

decided_within : (fuel : ℕ) (strs : Option (List ℕ)) (section : List ℕ) (offset : ℕ) (h : Header) (q : Input) (lines : List Entry) → length (rest q) < fuel → ReadSoFar strs section offset h q lines → Decided strs section offset
decided_within zero strs section offset h q lines small so_far = absurd (omega arith)
decided_within (suc fuel) strs section offset h q lines small so_far =
    decided_next strs section offset h q (entry_at h q) lines so_far refl (λ r more less so_far'. decided_within fuel strs section offset h r more (omega arith) so_far')

decided_by_header : (strs : Option (List ℕ)) (section : List ℕ) (offset : ℕ) (read : Result (Header × Input) UnitFault) → header_at (record { bytes = section; at = offset }) ≡ read → Decided strs section offset
decided_by_header strs section offset (Err fault) is = inr (fault, inl is)
decided_by_header strs section offset (Ok read) is = decided_within (length (rest read.1) + 1) strs section offset read.0 read.1 [] (omega arith) (read_none strs section offset read.0 read.1 is)

pub decided : (strs : Option (List ℕ)) (section : List ℕ) (offset : ℕ) → Decided strs section offset
decided strs section offset = decided_by_header strs section offset (header_at (record { bytes = section; at = offset })) refl
