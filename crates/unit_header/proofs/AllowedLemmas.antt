-- Rows that are allowed one after another, each beside the opcodes before it, are allowed together.
use Rattle.std.proofs.Common.{◌≡◌, ◌≢◌, ℕ, Bool, true, false, eqb, List, [], ◌∷◌, map, refl}
use Rattle.std.specs.Prelude.{◌||◌}
use Rattle.std.specs.List.{list_any, AllByRecursion}
use borrow.Author.Tests.{eqb-false, apart_eqb}
use Rattle.unit_header.specs.Opcodes.{opcode_by_byte, standard_forms}
use Rattle.unit_header.specs.Rows.{Row, CodesFit, is_barred, AreDifferent, AreAllowed}

-- each row has an opcode that is not 0 and differs from those that were seen, and forms that fit it
abbrev pub AllowedAfter : List ℕ → List Row → Type 0
AllowedAfter seen [] = Unit {0}
AllowedAfter seen (row ∷ rows) = (is_barred seen row.opcode ≡ false) × CodesFit (standard_forms (opcode_by_byte row.opcode)) row.codes × AllowedAfter (row.opcode ∷ seen) rows

abbrev AreFree : List ℕ → List Row → Type 0
AreFree seen rows = AllByRecursion (λ (row : Row). is_barred seen row.opcode ≡ false) rows

abbrev Fit : List Row → Type 0
Fit rows = AllByRecursion (λ (row : Row). CodesFit (standard_forms (opcode_by_byte row.opcode)) row.codes) rows

barred_parts : (a b c : Bool) → (a || (b || c)) ≡ false → (b ≡ false) × ((a || c) ≡ false)
barred_parts true b c is = cc
barred_parts false true c is = cc
barred_parts false false c is = (refl, is)

barred_both : (a b c : Bool) → b ≡ false → (a || c) ≡ false → (a || (b || c)) ≡ false
barred_both true b c apart free = free
barred_both false true c apart free = cc
barred_both false false c apart free = free

free_before : (seen : List ℕ) (o : ℕ) (rows : List Row) → AreFree (o ∷ seen) rows → AreFree seen rows
free_before seen o [] free = tt
free_before seen o (row ∷ rows) free = ((barred_parts (eqb row.opcode 0) (eqb o row.opcode) (list_any (λ other. eqb other row.opcode) seen) free.0).1, free_before seen o rows free.1)

apart_from : (seen : List ℕ) (o : ℕ) (rows : List Row) → AreFree (o ∷ seen) rows → AllByRecursion (λ other. o ≢ other) (map (λ row. row.opcode) rows)
apart_from seen o [] free = tt
apart_from seen o (row ∷ rows) free = (eqb-false o row.opcode (barred_parts (eqb row.opcode 0) (eqb o row.opcode) (list_any (λ other. eqb other row.opcode) seen) free.0).0, apart_from seen o rows free.1)

free_after : (seen : List ℕ) (o : ℕ) (rows : List Row) → AreFree seen rows → AllByRecursion (λ other. o ≢ other) (map (λ row. row.opcode) rows) → AreFree (o ∷ seen) rows
free_after seen o [] free apart = tt
free_after seen o (row ∷ rows) free apart = (barred_both (eqb row.opcode 0) (eqb o row.opcode) (list_any (λ other. eqb other row.opcode) seen) (apart_eqb o row.opcode apart.0) free.0, free_after seen o rows free.1 apart.1)

together : (seen : List ℕ) (rows : List Row) → AllowedAfter seen rows → AreFree seen rows × AreDifferent (map (λ row. row.opcode) rows) × Fit rows
together seen [] allowed = (tt, tt, tt)
together seen (row ∷ rows) allowed =
    let more = together (row.opcode ∷ seen) rows allowed.2 in
    ((allowed.0, free_before seen row.opcode rows more.0), (apart_from seen row.opcode rows more.0, more.1), (allowed.1, more.2))

one_by_one : (seen : List ℕ) (rows : List Row) → AreFree seen rows → AreDifferent (map (λ row. row.opcode) rows) → Fit rows → AllowedAfter seen rows
one_by_one seen [] free once fit = tt
one_by_one seen (row ∷ rows) free once fit =
    (free.0, fit.0, one_by_one (row.opcode ∷ seen) rows (free_after seen row.opcode rows free.1 once.0) once.1 fit.1)

or_false : (a : Bool) → (a || false) ≡ false → a ≡ false
or_false true is = is
or_false false is = refl

no_zero_in : (rows : List Row) → AreFree [] rows → AllByRecursion (λ (row : Row). row.opcode ≢ 0) rows
no_zero_in [] free = tt
no_zero_in (row ∷ rows) free = (eqb-false row.opcode 0 (or_false (eqb row.opcode 0) free.0), no_zero_in rows free.1)

free_of_zero : (rows : List Row) → AllByRecursion (λ (row : Row). row.opcode ≢ 0) rows → AreFree [] rows
free_of_zero [] none = tt
free_of_zero (row ∷ rows) none = (rw (apart_eqb row.opcode 0 none.0) refl, free_of_zero rows none.1)

pub allowed_rows : (rows : List Row) → AllowedAfter [] rows → AreAllowed rows
allowed_rows rows allowed =
    let found = together [] rows allowed in
    record { no_zero = no_zero_in rows found.0; once = found.1; fit = found.2 }

pub allowed_after : (rows : List Row) → AreAllowed rows → AllowedAfter [] rows
allowed_after rows allowed = one_by_one [] rows (free_of_zero rows allowed.no_zero) allowed.once allowed.fit
