-- Digits, and lines that are shown.
use Rattle.std.proofs.Common.{◌≡◌, ◌≢◌, ℕ, zero, suc, ◌+◌, ◌-◌, ◌/◌, ◌%◌, ◌<◌, ◌≤◌, Bool, true, false, eqb, cond, List, [], ◌∷◌, ◌++◌, length, drop, set, Option, Some, None, Result, Ok, Err, refl, ap, subst, ◌∙◌, sym, arith, eq-eqb, length-append}
use Rattle.std.specs.Prelude.{is_some, IsOk}
use Rattle.std.specs.Fmt.{digits, digits_onto, digit_glyph}
use Rattle.std.proofs.lemmas.List.{drop-set, flat_map_more}
use borrow.Author.Tests.{apart_eqb}
use Rattle.unit_header.specs.declared.fault.UnitFault.{UnitFault}
use Rattle.unit_header.specs.declared.fault.UnitKind.TheVariants.{StrRange}
use Rattle.macro_opcodes.specs.Entry.{Entry}
use Rattle.macro_query.specs.UnitLines.{line_of, report}
use Rattle.macro_query.specs.Unit.{with_string}
use Rattle.mac_base.specs.ReportText.{Tells}

pub with_string-some : (e : Entry) (o : Option (List ℕ)) → is_some o ≡ true → IsOk (with_string e o)
with_string-some e None is = absurd (some_none is)
  where
    some_none : false ≡ true → ⊥
    some_none is' = cc
with_string-some e (Some text) is = refl

pub with_string-none : (e : Entry) (o : Option (List ℕ)) → is_some o ≡ false → with_string e o ≡ Err (record { at = e.at; what = StrRange })
with_string-none e None is = refl
with_string-none e (Some text) is = cc

pub ok_value : {A : Type 0} (r : Result A UnitFault) → IsOk r → (x : A) × (r ≡ Ok x)
ok_value (Ok x) is = (x, refl)
ok_value (Err f) is = cc

pub report_more : (lines : List Entry) (line : Entry) → report (lines ++ line ∷ []) ≡ report lines ++ line_of line
report_more lines line = sym (flat_map_more line_of [] lines line)
