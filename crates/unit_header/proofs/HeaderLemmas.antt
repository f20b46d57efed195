-- A header that is read is spelled by its bytes, and one that is spelled is read.
use Rattle.std.proofs.Common.{◌≡◌, ℕ, zero, suc, ◌/◌, ◌%◌, ◌<◌, Bool, true, false, eqb, ltb, List, [], ◌∷◌, ◌++◌, length, take, Option, Some, None, Ok, Err, refl, ap, subst, ◌∙◌, sym, arith, if◌then◌else◌}
use Rattle.std.specs.Prelude.{is_some}
use Rattle.std.proofs.lemmas.List.{take_at, drop_at}
use borrow.Author.Tests.{eqb-true, ltb-true}
use Rattle.mac_base.specs.Input.{Input, ahead}
use Rattle.mac_base.specs.Fields.{number_at, little_endian}
use Rattle.mac_base.specs.Spelling.{Between}
use Rattle.mac_base.specs.Values.{offset_at, offset_width}
use Rattle.mac_base.proofs.Choices.{bind_ok, same_ok, guarded}
use Rattle.mac_base.proofs.InputLemmas.{between_none, between_both, between_cut, byte_at-takes, byte_at-again, number_at-takes, number_at-again}
use Rattle.mac_base.proofs.ValueLemmas.{offset_at-is}
use Rattle.unit_header.specs.declared.fault.UnitFault.{UnitFault}
use Rattle.unit_header.specs.declared.fault.UnitKind.TheVariants.{Flags}
use Rattle.unit_header.specs.Faults.{field}
use Rattle.unit_header.specs.Rows.{Row, rows_from}
use Rattle.unit_header.specs.Header.{Header}
use Rattle.unit_header.specs.Spelling.{IsTable, IsTablePart, IsLinePart, IsHeader, flags_of}
use Rattle.unit_header.specs.Reading.{after_rows, table_part_at, line_part_at, after_flags, flags_at, header_at}
use Rattle.unit_header.proofs.AllowedLemmas.{allowed_rows, allowed_after}
use Rattle.unit_header.proofs.TableLemmas.{field_ok, rows_takes, rows_again, same_between}

line_takes : (wide lined : Bool) (p q : Input) (line : Option ℕ) → line_part_at wide lined p ≡ Ok (line, q) → (bytes : List ℕ) × Between p q bytes × IsLinePart wide line bytes × (is_some line ≡ lined)
line_takes wide true p q line is =
    let read = bind_ok (field (offset_at wide p)) _ (line, q) is in
    let number = sym (offset_at-is wide p) ∙ field_ok (offset_at wide p) read.0 read.1 in
    let found = number_at-takes (offset_width wide) p read.0.1 read.0.0 number in
    let same = same_ok {E = UnitFault} (Some read.0.0, read.0.1) (line, q) read.2 in
    subst (λ (x : Option ℕ × Input). (bytes : List ℕ) × Between p x.1 bytes × IsLinePart wide x.0 bytes × (is_some x.0 ≡ true)) same (found.0, found.1, found.2, refl)
line_takes wide false p q line is =
    let same = same_ok {E = UnitFault} (None, p) (line, q) is in
    subst (λ (x : Option ℕ × Input). (bytes : List ℕ) × Between p x.1 bytes × IsLinePart wide x.0 bytes × (is_some x.0 ≡ false)) same ([], between_none p, refl, refl)

line_again : (wide : Bool) (line : Option ℕ) (p q : Input) (bytes : List ℕ) → Between p q bytes → IsLinePart wide line bytes → line_part_at wide (is_some line) p ≡ Ok (line, q)
line_again wide None p q bytes between is = ap (λ (z : Input). Ok (None, z)) (same_between p q (subst (λ (xs : List ℕ). Between p q xs) is between))
line_again wide (Some offset) p q bytes between is = rw (offset_at-is wide p, number_at-again (offset_width wide) p q bytes offset between is) refl

table_takes : (tabled : Bool) (p q : Input) (rows : List Row) → table_part_at tabled p ≡ Ok (rows, q) → (bytes : List ℕ) × Between p q bytes × IsTablePart tabled bytes rows
table_takes true p q rows is =
    let count = bind_ok (field (number_at 1 p)) _ (rows, q) is in
    let n = count.0.0 in
    let a = count.0.1 in
    let byte = byte_at-takes p a n (field_ok (number_at 1 p) count.0 count.1) in
    let behind = bind_ok (after_rows [] n a) _ (rows, q) count.2 in
    let found = rows_takes n [] a behind.0 behind.1 in
    let same = same_ok {E = UnitFault} (rows_from n a, behind.0) (rows, q) behind.2 in
    subst (λ (x : List Row × Input). (bytes : List ℕ) × Between p x.1 bytes × IsTable bytes x.0) same (
      n ∷ found.0,
      between_both p a behind.0 (n ∷ []) found.0 byte found.1,
      record { body = found.0; spelled = ap (λ m. m ∷ found.0) (sym found.3); are_rows = found.2; allowed = allowed_rows (rows_from n a) found.4 },
    )
table_takes false p q rows is =
    let same = same_ok {E = UnitFault} ([], p) (rows, q) is in
    subst (λ (x : List Row × Input). (bytes : List ℕ) × Between p x.1 bytes × IsTablePart false bytes x.0) same ([], between_none p, (refl, refl))

table_again : (tabled : Bool) (rows : List Row) (p q : Input) (bytes : List ℕ) → Between p q bytes → IsTablePart tabled bytes rows → table_part_at tabled p ≡ Ok (rows, q)
table_again true rows p q bytes between is =
    let parts = between_cut p q (length rows ∷ []) is.body (subst (λ (xs : List ℕ). Between p q xs) is.spelled between) in
    let a = ahead p 1 in
    let behind = rows_again rows [] a q is.body parts.1 is.are_rows (allowed_after rows is.allowed) in
    rw (byte_at-again p a (length rows) parts.0, behind.0) (ap (λ (rs : List Row). Ok (rs, q)) behind.1)
table_again false rows p q bytes between is =
    let here = same_between p q (subst (λ (xs : List ℕ). Between p q xs) is.0 between) in
    ap (λ (x : List Row × Input). Ok x) (λ i. (sym is.1 i, here i))

-- flags below 8 are those of their bits
flags_by_bits : (f : ℕ) → f < 8 → f ≡ flags_of (eqb (f % 2) 1) (eqb (f / 2 % 2) 1) (eqb (f / 4 % 2) 1)
flags_by_bits zero small = refl
flags_by_bits (suc zero) small = refl
flags_by_bits (suc (suc zero)) small = refl
flags_by_bits (suc (suc (suc zero))) small = refl
flags_by_bits (suc (suc (suc (suc zero)))) small = refl
flags_by_bits (suc (suc (suc (suc (suc zero))))) small = refl
flags_by_bits (suc (suc (suc (suc (suc (suc zero)))))) small = refl
flags_by_bits (suc (suc (suc (suc (suc (suc (suc zero))))))) small = refl
flags_by_bits (suc (suc (suc (suc (suc (suc (suc (suc f)))))))) small = absurd (omega arith)

-- and the bits are those of the flags
flags_at_bits : (wide lined tabled : Bool) (at : ℕ) (p : Input) → (if ltb (flags_of wide lined tabled) 8 then after_flags (eqb (flags_of wide lined tabled % 2) 1) (eqb (flags_of wide lined tabled / 2 % 2) 1) (eqb (flags_of wide lined tabled / 4 % 2) 1) p else Err (record { at = at; what = Flags })) ≡ after_flags wide lined tabled p
flags_at_bits true true true at p = refl
flags_at_bits true true false at p = refl
flags_at_bits true false true at p = refl
flags_at_bits true false false at p = refl
flags_at_bits false true true at p = refl
flags_at_bits false true false at p = refl
flags_at_bits false false true at p = refl
flags_at_bits false false false at p = refl

-- the parts that follow the flags
record Parts (wide lined tabled : Bool) (p q : Input) (h : Header) : Type 0 where
  line : List ℕ
  table : List ℕ
  between : Between p q (line ++ table)
  version : h.version ≡ 5
  is_wide : h.wide ≡ wide
  is_lined : is_some h.line ≡ lined
  is_line : IsLinePart h.wide h.line line
  is_table : IsTablePart tabled table h.operands

parts_take : (wide lined tabled : Bool) (p q : Input) (h : Header) → after_flags wide lined tabled p ≡ Ok (h, q) → Parts wide lined tabled p q h
parts_take wide lined tabled p q h is =
    let line = bind_ok (line_part_at wide lined p) _ (h, q) is in
    let table = bind_ok (table_part_at tabled line.0.1) _ (h, q) line.2 in
    let l = line_takes wide lined p line.0.1 line.0.0 line.1 in
    let t = table_takes tabled line.0.1 table.0.1 table.0.0 table.1 in
    let made : Header = record { version = 5; wide = wide; line = line.0.0; operands = table.0.0 } in
    let same = same_ok {E = UnitFault} (made, table.0.1) (h, q) table.2 in
    subst (λ (x : Header × Input). Parts wide lined tabled p x.1 x.0) same (record {
      line = l.0;
      table = t.0;
      between = between_both p line.0.1 table.0.1 l.0 t.0 l.1 t.1;
      version = refl;
      is_wide = refl;
      is_lined = l.3;
      is_line = l.2;
      is_table = t.2;
    })

parts_again : (h : Header) (tabled : Bool) (p q : Input) (line table : List ℕ) → Between p q (line ++ table) → h.version ≡ 5 → IsLinePart h.wide h.line line → IsTablePart tabled table h.operands → after_flags h.wide (is_some h.line) tabled p ≡ Ok (h, q)
parts_again h tabled p q line table between version is_line is_table =
    let cut = between_cut p q line table between in
    let a = ahead p (length line) in
    rw (line_again h.wide h.line p a line cut.0 is_line, table_again tabled h.operands a q table cut.1 is_table)
    (ap (λ v. Ok (record { version = v; wide = h.wide; line = h.line; operands = h.operands }, q)) (sym version))

two_bytes : (bytes : List ℕ) → length bytes ≡ 2 → 5 ≡ little_endian bytes → bytes ≡ 5 ∷ 0 ∷ []
two_bytes [] long is = absurd (omega arith)
two_bytes (a ∷ []) long is = absurd (omega arith)
two_bytes (a ∷ b ∷ []) long is =
    let high : b ≡ 0 = omega arith in
    let low : a ≡ 5 = omega arith in
    λ i. low i ∷ high i ∷ []
two_bytes (a ∷ b ∷ c ∷ bytes) long is = absurd (omega arith)

-- what is read as a header is spelled as it is
pub header_takes : (p q : Input) (h : Header) → header_at p ≡ Ok (h, q) → (bytes : List ℕ) × Between p q bytes × IsHeader bytes h
unfolding header_at
header_takes p q h is =
    let version = bind_ok (field (number_at 2 p)) _ (h, q) is in
    let a = version.0.1 in
    let five = guarded (eqb version.0.0 5) (flags_at a) (h, q) _ version.2 in
    let number = number_at-takes 2 p a version.0.0 (field_ok (number_at 2 p) version.0 version.1) in
    let first = two_bytes number.0 number.2.long (sym (eqb-true version.0.0 5 five.0) ∙ number.2.number) in
    let flags = bind_ok (field (number_at 1 a)) _ (h, q) five.1 in
    let f = flags.0.0 in
    let b = flags.0.1 in
    let small = guarded (ltb f 8) _ (h, q) _ flags.2 in
    let byte = byte_at-takes a b f (field_ok (number_at 1 a) flags.0 flags.1) in
    let parts = parts_take (eqb (f % 2) 1) (eqb (f / 2 % 2) 1) (eqb (f / 4 % 2) 1) b q h small.1 in
    let bits : f ≡ flags_of h.wide (is_some h.line) (eqb (f / 4 % 2) 1) =
    flags_by_bits f (ltb-true f 8 small.0) ∙ ap (λ w. flags_of w (eqb (f / 2 % 2) 1) (eqb (f / 4 % 2) 1)) (sym parts.is_wide) ∙ ap (λ l. flags_of h.wide l (eqb (f / 4 % 2) 1)) (sym parts.is_lined) in (
      number.0 ++ (f ∷ (parts.line ++ parts.table)),
      between_both p a q number.0 (f ∷ (parts.line ++ parts.table)) number.1 (between_both a b q (f ∷ []) (parts.line ++ parts.table) byte parts.between),
      record {
        tabled = eqb (f / 4 % 2) 1;
        line = parts.line;
        table = parts.table;
        spelled = ap (λ (xs : List ℕ). xs ++ (f ∷ (parts.line ++ parts.table))) first ∙ ap (λ g. 5 ∷ 0 ∷ g ∷ (parts.line ++ parts.table)) bits;
        version = parts.version;
        is_line = parts.is_line;
        is_table = parts.is_table;
      },
    )

-- and what is spelled as a header is read
pub header_again : (p q : Input) (bytes : List ℕ) (h : Header) → Between p q bytes → IsHeader bytes h → header_at p ≡ Ok (h, q)
unfolding header_at
header_again p q bytes h between is =
    let flags = flags_of h.wide (is_some h.line) is.tabled in
    let cut = between_cut p q (5 ∷ 0 ∷ []) (flags ∷ (is.line ++ is.table)) (subst (λ (xs : List ℕ). Between p q xs) is.spelled between) in
    let a = ahead p 2 in
    let behind = between_cut a q (flags ∷ []) (is.line ++ is.table) cut.1 in
    let b = ahead a 1 in
    rw (number_at-again 2 p a (5 ∷ 0 ∷ []) 5 cut.0 (record { long = refl; number = refl }), byte_at-again a b flags behind.0)
    (flags_at_bits h.wide (is_some h.line) is.tabled a.at b ∙ parts_again h is.tabled b q is.line is.table behind.1 is.version is.is_line is.is_table)

at_front : (front x : List ℕ) → Between (record { bytes = front ++ x; at = 0 }) (record { bytes = front ++ x; at = length front }) front
at_front front x = record {
  front = ap (λ xs. front ++ xs) (sym (drop_at front x (length front) refl));
  place = ap (λ n. record { bytes = front ++ x; at = n }) (omega arith);
}

-- no header begins another
pub one_header : (a b x y : List ℕ) (h h' : Header) → IsHeader a h → IsHeader b h' → a ++ x ≡ b ++ y → (a ≡ b) × (h ≡ h')
one_header a b x y h h' is also same =
    let p : Input = record { bytes = a ++ x; at = 0 } in
    let one = header_again p (record { bytes = a ++ x; at = length a }) a h (at_front a x) is in
    let two : header_at p ≡ Ok (h', record { bytes = a ++ x; at = length b }) =
    subst (λ (xs : List ℕ). header_at (record { bytes = xs; at = 0 }) ≡ Ok (h', record { bytes = xs; at = length b })) (sym same)
    (header_again (record { bytes = b ++ y; at = 0 }) (record { bytes = b ++ y; at = length b }) b h' (at_front b y) also) in
    let both = same_ok {E = UnitFault} (h, record { bytes = a ++ x; at = length a }) (h', record { bytes = a ++ x; at = length b }) (sym one ∙ two) in
    let long : length a ≡ length b = ap (λ (z : Header × Input). z.1.at) both in
    (sym (take_at a x (length a) refl) ∙ ap (take (length a)) same ∙ take_at b y (length a) (sym long), ap (λ (z : Header × Input). z.0) both)
