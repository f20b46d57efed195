-- Going over the rows of an operand table, step by step.
use Rattle.std.proofs.Common.{◌≡◌, ◌≢◌, ℕ, cond, Some, set, replicate, suc, ◌+◌, ◌-◌, ◌<◌, Bool, true, false, eqb, List, [], ◌∷◌, length, get_or, drop, Result, Ok, Err, refl, ap, ◌∙◌, sym, arith, if◌then◌else◌}
use Rattle.std.proofs.lemmas.List.{drop_more, get_or-replicate, get_or-set_other}
use Rattle.std.proofs.lemmas.Grind.{get_or-set_at}
use borrow.Author.Tests.{eqb-true, eqb-false, apart_eqb}
use Rattle.std.specs.Prelude.{◌||◌}
use Rattle.std.specs.List.{list_any}
use Rattle.mac_base.specs.declared.cursor.CursorFault.{CursorFault}
use Rattle.mac_base.specs.Fields.{number_at}
use Rattle.mac_base.specs.Input.{Input, ◌>>=◌}
use Rattle.unit_header.specs.Rows.{Row, rows_from, rows_after, row_at, listed_forms, is_barred}
use Rattle.unit_header.specs.Opcodes.{is_macro_form}
use Rattle.unit_header.specs.Faults.{field, unit_fault}
use Rattle.unit_header.specs.declared.fault.UnitFault.{UnitFault}
use Rattle.unit_header.specs.declared.fault.UnitKind.TheVariants.{OperandTable, Form}
use Rattle.unit_header.specs.Reading.{after_own, after_known, after_count, after_rows, after_row}

-- the table of marks says which opcodes were seen
abbrev pub IsSeen : List Bool → List ℕ → Type 0
IsSeen marks seen = (k : ℕ) → k < 256 → get_or marks k false ≡ list_any (λ other. eqb other k) seen

pub next_count : (n k : ℕ) → k < n → n - k ≡ suc (n - (k + 1))
next_count n k below = omega arith

pub rows_from-next : (n k : ℕ) (p : Input) → k < n → rows_from (n - k) p ≡ rows_after (row_at p) (rows_from (n - (k + 1)))
rows_from-next n k p below = ap (λ m. rows_from m p) (next_count n k below)

pub field_err : {A B : Type 0} (r : Result A CursorFault) (fault : CursorFault) (f : A → Result B UnitFault) → r ≡ Err fault → (field r >>= f) ≡ Err (unit_fault fault)
field_err (Ok x) fault f is = cc
field_err (Err other) fault f is = let same : other ≡ fault = cc in ap (λ e. Err (unit_fault e)) same

pub field_then : {A B : Type 0} (r : Result A CursorFault) (x : A) (f : A → Result B UnitFault) → r ≡ Ok x → (field r >>= f) ≡ f x
field_then (Ok y) x f is = let same : y ≡ x = cc in ap f same
field_then (Err other) x f is = cc

pub after_own-next : (at : ℕ) (own : List ℕ) (i : ℕ) (p : Input) → i < length own → after_own at (drop i own) p ≡ (field (number_at 1 p) >>= λ code. if eqb code.0 (get_or own i 0) then after_own at (drop (i + 1) own) code.1 else Err (record { at = at; what = OperandTable }))
after_own-next at own i p within = ap (λ xs. after_own at xs p) (drop_more own i 0 within)

pub after_known-next : (n k : ℕ) (p : Input) → k < n → after_known (n - k) p ≡ (field (number_at 1 p) >>= λ code. if is_macro_form code.0 then after_known (n - (k + 1)) code.1 else Err (record { at = p.at; what = Form }))
after_known-next n k p below = ap (λ m. after_known m p) (next_count n k below)

pub after_rows-next : (seen : List ℕ) (n k : ℕ) (p : Input) → k < n → after_rows seen (n - k) p ≡ (after_row seen p >>= λ row. after_rows (row.0 ∷ seen) (n - (k + 1)) row.1)
after_rows-next seen n k p below = ap (λ m. after_rows seen m p) (next_count n k below)

pub then_taken : {A : Type 0} (t : Bool) (x y : A) → true ≡ t → cond t x y ≡ x
then_taken true x y is = refl
then_taken false x y is = cc

pub else_taken : {A : Type 0} (t : Bool) (x y : A) → false ≡ t → cond t x y ≡ y
else_taken true x y is = cc
else_taken false x y is = refl

-- a row of another opcode lists nothing for this one
pub listed_forms-other : (opcode : ℕ) (row : Row) (q : Input) (rows : Input → List Row) (r : Result (Row × Input) CursorFault) → r ≡ Ok (row, q) → row.opcode ≢ opcode → listed_forms (rows_after r rows) opcode ≡ listed_forms (rows q) opcode
listed_forms-other opcode row q rows r is other = ap (λ (x : Result (Row × Input) CursorFault). listed_forms (rows_after x rows) opcode) is ∙ ap (λ t. cond t (Some row.codes) (listed_forms (rows q) opcode)) (apart_eqb row.opcode opcode other)

pub after_row-barred : (seen : List ℕ) (p q : Input) (opcode : ℕ) → number_at 1 p ≡ Ok (opcode, q) → is_barred seen opcode ≡ true → after_row seen p ≡ Err (record { at = p.at; what = OperandTable })
after_row-barred seen p q opcode is barred = field_then (number_at 1 p) (opcode, q) _ is ∙ then_taken _ _ _ (sym barred)

pub after_row-count : (seen : List ℕ) (p q : Input) (opcode : ℕ) → number_at 1 p ≡ Ok (opcode, q) → is_barred seen opcode ≡ false → after_row seen p ≡ (after_count p.at opcode q >>= λ r. Ok (opcode, r))
after_row-count seen p q opcode is free = field_then (number_at 1 p) (opcode, q) _ is ∙ else_taken _ _ _ (sym free)

-- what the marks say is whether the opcode was seen
pub barred_by : (marks : List Bool) (seen : List ℕ) (opcode : ℕ) → IsSeen marks seen → opcode < 256 → (eqb opcode 0 || get_or marks opcode false) ≡ is_barred seen opcode
barred_by marks seen opcode are small = ap (λ t. eqb opcode 0 || t) (are opcode small)

marked_at : (t : Bool) (marks : List Bool) (opcode k : ℕ) (rest : Bool) → eqb opcode k ≡ t → opcode < length marks → get_or marks k false ≡ rest → get_or (set marks opcode true) k false ≡ (t || rest)
marked_at true marks opcode k rest same within was = get_or-set_at marks opcode k true false (sym (eqb-true opcode k same)) within
marked_at false marks opcode k rest other within was = let apart : k ≢ opcode = λ e. eqb-false opcode k other (sym e) in get_or-set_other marks opcode k true false apart ∙ was

-- one more mark is one more opcode
pub is_seen_more : (marks : List Bool) (seen : List ℕ) (opcode : ℕ) → opcode < length marks → IsSeen marks seen → IsSeen (set marks opcode true) (opcode ∷ seen)
is_seen_more marks seen opcode within are k below = marked_at (eqb opcode k) marks opcode k (list_any (λ other. eqb other k) seen) refl within (are k below)

pub is_seen_none : IsSeen (replicate 256 false) []
is_seen_none k below = get_or-replicate 256 k false false below

-- a row that may not be there
pub after_rows-barred : (seen : List ℕ) (n k at opcode : ℕ) (p q : Input) → k < n → at ≡ p.at → number_at 1 p ≡ Ok (opcode, q) → is_barred seen opcode ≡ true → after_rows seen (n - k) p ≡ Err (record { at = at; what = OperandTable })
after_rows-barred seen n k at opcode p q below here is barred =
    after_rows-next seen n k p below ∙ ap (λ (r : Result (ℕ × Input) UnitFault). r >>= λ row. after_rows (row.0 ∷ seen) (n - (k + 1)) row.1) (after_row-barred seen p q opcode is barred)
    ∙ ap (λ m. Err (record { at = m; what = OperandTable })) (sym here)

abbrev with_opcode : ℕ → Input → Result (ℕ × Input) UnitFault
with_opcode opcode z = Ok (opcode, z)

counted : (seen : List ℕ) (n k at opcode : ℕ) (p q : Input) (r : Result Input UnitFault) → k < n → at ≡ p.at → number_at 1 p ≡ Ok (opcode, q) → is_barred seen opcode ≡ false → after_count at opcode q ≡ r → after_rows seen (n - k) p ≡ ((r >>= with_opcode opcode) >>= λ row. after_rows (row.0 ∷ seen) (n - (k + 1)) row.1)
counted seen n k at opcode p q r below here is free behind =
    after_rows-next seen n k p below
    ∙ ap (λ (x : Result (ℕ × Input) UnitFault). x >>= λ row. after_rows (row.0 ∷ seen) (n - (k + 1)) row.1) (after_row-count seen p q opcode is free ∙ ap (λ m. after_count m opcode q >>= with_opcode opcode) (sym here) ∙ ap (λ (x : Result Input UnitFault). x >>= with_opcode opcode) behind)

-- a row whose forms have a fault
pub after_rows-err : (seen : List ℕ) (n k at opcode : ℕ) (p q : Input) (fault : UnitFault) → k < n → at ≡ p.at → number_at 1 p ≡ Ok (opcode, q) → is_barred seen opcode ≡ false → after_count at opcode q ≡ Err fault → after_rows seen (n - k) p ≡ Err fault
after_rows-err seen n k at opcode p q fault below here is free behind = counted seen n k at opcode p q (Err fault) below here is free behind

-- and one that is passed
pub after_rows-on : (seen : List ℕ) (n k at opcode : ℕ) (p q z : Input) → k < n → at ≡ p.at → number_at 1 p ≡ Ok (opcode, q) → is_barred seen opcode ≡ false → after_count at opcode q ≡ Ok z → after_rows seen (n - k) p ≡ after_rows (opcode ∷ seen) (n - (k + 1)) z
after_rows-on seen n k at opcode p q z below here is free behind = counted seen n k at opcode p q (Ok z) below here is free behind
