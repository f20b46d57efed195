-- An operand table that is gone over is spelled by its bytes, and one that is spelled is gone over.
use Rattle.std.proofs.Common.{◌≡◌, ℕ, zero, suc, ◌<◌, ◌^◌, true, false, eqb, List, [], ◌∷◌, ◌++◌, length, Option, Some, None, Result, Ok, Err, refl, ap, subst, ◌∙◌, sym, eq-eqb}
use Rattle.std.specs.List.{list_all}
use Rattle.std.proofs.lemmas.Bool.{and_parts, and_from}
use borrow.Author.Tests.{eqb-true}
use Rattle.mac_base.specs.declared.cursor.CursorFault.{CursorFault}
use Rattle.mac_base.specs.Input.{Input, ahead}
use Rattle.mac_base.specs.Fields.{number_at, uleb_at}
use Rattle.mac_base.specs.Spelling.{Between, IsUleb}
use Rattle.mac_base.proofs.Choices.{bind_ok, same_ok, guarded, guarded_not}
use Rattle.mac_base.proofs.InputLemmas.{between_none, between_both, between_cut, byte_at-takes, byte_at-again, uleb_at-takes, uleb_at-again, bytes_at-again}
use Rattle.unit_header.specs.declared.fault.UnitFault.{UnitFault}
use Rattle.unit_header.specs.Opcodes.{opcode_by_byte, standard_forms, is_macro_form}
use Rattle.unit_header.specs.Faults.{field}
use Rattle.unit_header.specs.Rows.{Row, row_at, rows_from, rows_after, CodesFit, is_barred}
use Rattle.unit_header.proofs.AllowedLemmas.{AllowedAfter}
use Rattle.unit_header.specs.Spelling.{IsRow, AreRows}
use Rattle.unit_header.specs.Reading.{after_own, after_known, after_codes, after_count, after_row, after_rows}

pub field_ok : {A : Type 0} (r : Result A CursorFault) (x : A) → field r ≡ Ok x → r ≡ Ok x
field_ok (Ok y) x is = cc
field_ok (Err e) x is = cc

pub between_same : (p q : Input) → p ≡ q → Between p q []
between_same p q is = subst (λ (z : Input). Between p z []) is (between_none p)

pub same_between : (p q : Input) → Between p q [] → p ≡ q
same_between p q between = (between_none p).place ∙ sym between.place

own_takes : (at : ℕ) (own : List ℕ) (p q : Input) → after_own at own p ≡ Ok q → Between p q own
own_takes at [] p q is = between_same p q (same_ok {E = UnitFault} p q is)
own_takes at (own ∷ others) p q is =
    let read = bind_ok (field (number_at 1 p)) _ q is in
    let same = guarded (eqb read.0.0 own) (after_own at others read.0.1) q _ read.2 in
    let byte = byte_at-takes p read.0.1 read.0.0 (field_ok (number_at 1 p) read.0 read.1) in
    between_both p read.0.1 q (own ∷ []) others (subst (λ b. Between p read.0.1 (b ∷ [])) (eqb-true read.0.0 own same.0) byte) (own_takes at others read.0.1 q same.1)

own_again : (at : ℕ) (own : List ℕ) (p q : Input) → Between p q own → after_own at own p ≡ Ok q
own_again at [] p q between = ap (λ (z : Input). Ok z) (same_between p q between)
own_again at (own ∷ others) p q between =
    let parts = between_cut p q (own ∷ []) others between in
    rw (byte_at-again p (ahead p 1) own parts.0, eq-eqb own own refl) (own_again at others (ahead p 1) q parts.1)

known_takes : (n : ℕ) (p q : Input) → after_known n p ≡ Ok q → (codes : List ℕ) × Between p q codes × (length codes ≡ n) × (list_all is_macro_form codes ≡ true)
known_takes zero p q is = ([], between_same p q (same_ok {E = UnitFault} p q is), refl, refl)
known_takes (suc n) p q is =
    let read = bind_ok (field (number_at 1 p)) _ q is in
    let fits = guarded (is_macro_form read.0.0) (after_known n read.0.1) q _ read.2 in
    let byte = byte_at-takes p read.0.1 read.0.0 (field_ok (number_at 1 p) read.0 read.1) in
    let more = known_takes n read.0.1 q fits.1 in
    (read.0.0 ∷ more.0, between_both p read.0.1 q (read.0.0 ∷ []) more.0 byte more.1, ap suc more.2, and_from (is_macro_form read.0.0) _ fits.0 more.3)

known_again : (codes : List ℕ) (p q : Input) → Between p q codes → list_all is_macro_form codes ≡ true → after_known (length codes) p ≡ Ok q
known_again [] p q between fit = ap (λ (z : Input). Ok z) (same_between p q between)
known_again (code ∷ codes) p q between fit =
    let parts = between_cut p q (code ∷ []) codes between in
    let fits = and_parts (is_macro_form code) (list_all is_macro_form codes) fit in
    rw (byte_at-again p (ahead p 1) code parts.0, fits.0) (known_again codes (ahead p 1) q parts.1 fits.1)

codes_takes : (at : ℕ) (own : Option (List ℕ)) (n : ℕ) (p q : Input) → after_codes at own n p ≡ Ok q → (codes : List ℕ) × Between p q codes × (length codes ≡ n) × CodesFit own codes
codes_takes at (Some own) n p q is =
    let long = guarded (eqb n (length own)) (after_own at own p) q _ is in
    (own, own_takes at own p q long.1, sym (eqb-true n (length own) long.0), refl)
codes_takes at None n p q is = known_takes n p q is

codes_again : (at : ℕ) (own : Option (List ℕ)) (codes : List ℕ) (p q : Input) → Between p q codes → CodesFit own codes → after_codes at own (length codes) p ≡ Ok q
codes_again at (Some own) codes p q between fit = rw (eq-eqb (length codes) (length own) (ap length fit)) (own_again at own p q (subst (λ (xs : List ℕ). Between p q xs) fit between))
codes_again at None codes p q between fit = known_again codes p q between fit

-- a row that is gone over
record Passed (seen : List ℕ) (p q : Input) (opcode : ℕ) : Type 0 where
  row : Row
  bytes : List ℕ
  is_opcode : row.opcode ≡ opcode
  between : Between p q bytes
  is_row : IsRow bytes row
  free : is_barred seen row.opcode ≡ false
  fit : CodesFit (standard_forms (opcode_by_byte row.opcode)) row.codes
  reads : row_at p ≡ Ok (row, q)

row_of_parts : (p a b q : Input) (opcode : ℕ) (count codes : List ℕ) → Between p a (opcode ∷ []) → Between a b count → IsUleb count (length codes) → length codes < 2 ^ 64 → Between b q codes → row_at p ≡ Ok (record { opcode = opcode; codes = codes }, q)
row_of_parts p a b q opcode count codes first second counts fits third =
    rw (byte_at-again p a opcode first, uleb_at-again a b count (length codes) second counts fits, bytes_at-again b q codes (length codes) third refl) refl

count_takes : (at opcode : ℕ) (a q : Input) → after_count at opcode a ≡ Ok q → (b : Input) × (count codes : List ℕ) × Between a b count × IsUleb count (length codes) × (length codes < 2 ^ 64) × Between b q codes × CodesFit (standard_forms (opcode_by_byte opcode)) codes
count_takes at opcode a q is =
    let read = bind_ok (field (uleb_at a)) _ q is in
    let count = uleb_at-takes a read.0.1 read.0.0 (field_ok (uleb_at a) read.0 read.1) in
    let codes = codes_takes at (standard_forms (opcode_by_byte opcode)) read.0.0 read.0.1 q read.2 in
    let long = sym codes.2 in
    (read.0.1, count.0, codes.0, count.1, subst (IsUleb count.0) long count.2, subst (λ n. n < 2 ^ 64) long count.3, codes.1, codes.3)

row_takes : (seen : List ℕ) (p q : Input) (opcode : ℕ) → after_row seen p ≡ Ok (opcode, q) → Passed seen p q opcode
row_takes seen p q opcode is =
    let read = bind_ok (field (number_at 1 p)) _ (opcode, q) is in
    let a = read.0.1 in
    let free = guarded_not (is_barred seen read.0.0) _ (opcode, q) _ read.2 in
    let byte = byte_at-takes p a read.0.0 (field_ok (number_at 1 p) read.0 read.1) in
    let behind = bind_ok (after_count p.at read.0.0 a) _ (opcode, q) free.1 in
    let same = same_ok {E = UnitFault} (read.0.0, behind.0) (opcode, q) behind.2 in
    let parts = count_takes p.at read.0.0 a behind.0 behind.1 in
    let end : behind.0 ≡ q = ap (λ (x : ℕ × Input). x.1) same in
    let codes = subst (λ (z : Input). Between parts.0 z parts.2) end parts.6 in
    record {
      row = record { opcode = read.0.0; codes = parts.2 };
      bytes = read.0.0 ∷ parts.1 ++ parts.2;
      is_opcode = ap (λ (x : ℕ × Input). x.0) same;
      between = between_both p a q (read.0.0 ∷ []) (parts.1 ++ parts.2) byte (between_both a parts.0 q parts.1 parts.2 parts.3 codes);
      is_row = record { count = parts.1; spelled = refl; counts = parts.4; fits = parts.5 };
      free = free.0;
      fit = parts.7;
      reads = row_of_parts p a parts.0 q read.0.0 parts.1 parts.2 byte parts.3 parts.4 parts.5 codes;
    }

row_again : (seen : List ℕ) (p q : Input) (bytes : List ℕ) (row : Row) → Between p q bytes → IsRow bytes row → is_barred seen row.opcode ≡ false → CodesFit (standard_forms (opcode_by_byte row.opcode)) row.codes → (after_row seen p ≡ Ok (row.opcode, q)) × (row_at p ≡ Ok (row, q))
row_again seen p q bytes row between is free fit =
    let parts = between_cut p q (row.opcode ∷ []) (is.count ++ row.codes) (subst (λ (xs : List ℕ). Between p q xs) is.spelled between) in
    let a = ahead p 1 in
    let behind = between_cut a q is.count row.codes parts.1 in
    let b = ahead a (length is.count) in (
      rw (byte_at-again p a row.opcode parts.0, free, uleb_at-again a b is.count (length row.codes) behind.0 is.counts is.fits, codes_again p.at (standard_forms (opcode_by_byte row.opcode)) row.codes b q behind.1 fit) refl,
      row_of_parts p a b q row.opcode is.count row.codes parts.0 behind.0 is.counts is.fits behind.1,
    )

pub rows_takes : (n : ℕ) (seen : List ℕ) (p q : Input) → after_rows seen n p ≡ Ok q → (bytes : List ℕ) × Between p q bytes × AreRows bytes (rows_from n p) × (length (rows_from n p) ≡ n) × AllowedAfter seen (rows_from n p)
rows_takes zero seen p q is = ([], between_same p q (same_ok {E = UnitFault} p q is), refl, refl, tt)
rows_takes (suc n) seen p q is =
    let read = bind_ok (after_row seen p) _ q is in
    let one = row_takes seen p read.0.1 read.0.0 read.1 in
    let more = rows_takes n (read.0.0 ∷ seen) read.0.1 q read.2 in
    let rest : AllowedAfter (one.row.opcode ∷ seen) (rows_from n read.0.1) = subst (λ o. AllowedAfter (o ∷ seen) (rows_from n read.0.1)) (sym one.is_opcode) more.4 in
    subst (λ (rows : List Row). (bytes : List ℕ) × Between p q bytes × AreRows bytes rows × (length rows ≡ suc n) × AllowedAfter seen rows)
    (sym (ap (λ (r : Result (Row × Input) CursorFault). rows_after r (rows_from n)) one.reads)) (
      one.bytes ++ more.0,
      between_both p read.0.1 q one.bytes more.0 one.between more.1,
      (one.bytes, more.0, refl {a = one.bytes ++ more.0}, one.is_row, more.2),
      ap suc more.3,
      (one.free, one.fit, rest),
    )

pub rows_again : (rows : List Row) (seen : List ℕ) (p q : Input) (bytes : List ℕ) → Between p q bytes → AreRows bytes rows → AllowedAfter seen rows → (after_rows seen (length rows) p ≡ Ok q) × (rows_from (length rows) p ≡ rows)
rows_again [] seen p q bytes between are allowed = (ap (λ (z : Input). Ok z) (same_between p q (subst (λ (xs : List ℕ). Between p q xs) are between)), refl)
rows_again (row ∷ rows) seen p q bytes between are allowed =
    let parts = between_cut p q are.0 are.1 (subst (λ (xs : List ℕ). Between p q xs) are.2 between) in
    let m = ahead p (length are.0) in
    let one = row_again seen p m are.0 row parts.0 are.3 allowed.0 allowed.1 in
    let more = rows_again rows (row.opcode ∷ seen) m q are.1 parts.1 are.4 allowed.2 in
    (rw one.0 more.0, rw one.1 (ap (λ (rs : List Row). row ∷ rs) more.1))
