-- An entry that is read is spelled by its bytes, and one that is spelled is read.
use Rattle.std.proofs.Common.{◌≡◌, ℕ, Bool, true, false, eqb, cond, List, [], ◌∷◌, ◌++◌, map, Option, Some, None, Result, Ok, refl, ap, subst, ◌∙◌, sym}
use Rattle.std.specs.Prelude.{IsTrue, is_none}
use borrow.Author.Tests.{eqb-true}
use Rattle.mac_base.specs.declared.cursor.CursorFault.{CursorFault}
use Rattle.mac_base.specs.declared.form.Form.{Form}
use Rattle.mac_base.specs.declared.value.Sizes.{Sizes}
use Rattle.mac_base.specs.Input.{Input, rest, ◌>>=◌}
use Rattle.mac_base.specs.Fields.{uleb_at}
use Rattle.mac_base.specs.Forms.{form_by_code, layout_by_form}
use Rattle.mac_base.specs.Values.{Value, value_at}
use Rattle.mac_base.specs.ValueSpelling.{IsValue}
use Rattle.mac_base.proofs.Choices.{bind_ok, same_ok, guarded}
use Rattle.info_roots.specs.declared.abbreviation.Attribute.{Attribute}
use Rattle.info_roots.specs.declared.entry.Role.{Role}
use Rattle.info_roots.specs.declared.entry.Role.TheVariants.{Name, Line, Dir, StrBase, Macros, Other}
use Rattle.info_roots.specs.declared.fault.InfoFault.{InfoFault}
use Rattle.info_roots.specs.declared.fault.InfoKind.TheVariants.{Form as UnfitForm}
use Rattle.info_roots.specs.Faults.{field, fault_at}
use Rattle.info_roots.specs.Entries.{Entry, role_by_name, form_names, form_offsets, form_fits, inner_by_code, passed_in, passed_at, with_role, fitting, by_role, attribute_read, entry_at}
use Rattle.info_roots.specs.EntrySpelling.{AttributeValue, IsInForm, IsCoded, IsAttributeValue, AreValues, names_form, text_said, number_said}
use Rattle.info_roots.proofs.PrefixLemmas.{Leaves, joined, parted, field_ok, uleb_takes, uleb_again, value_takes, value_again}

-- an entry with one more value, which is for this
abbrev pub with_said : Role → AttributeValue → Entry → Entry
with_said Name v e = record e { name = Some (text_said v) }
with_said Dir v e = record e { dir = Some (text_said v); dir_first = is_none e.name }
with_said Line v e = record e { line = Some (number_said v) }
with_said StrBase v e = record e { str_base = Some (number_said v) }
with_said Macros v e = record e { macros = Some (number_said v) }
with_said Other v e = e

-- whether an attribute that is read for this can have this form
abbrev pub fits_role : Role → Option Form → Bool
fits_role Other form = true
fits_role Name form = names_form form_names form
fits_role Dir form = names_form form_names form
fits_role _ form = names_form form_offsets form

-- an entry with these values, each for what it is for
abbrev pub after_values : Entry → List AttributeValue → Entry
after_values e [] = e
after_values e (v ∷ values) = after_values (with_said (role_by_name e v.attribute.name) v e) values

-- each of these has a form that it can have
abbrev pub AllFit : Entry → List AttributeValue → Type 0
AllFit e [] = Unit {0}
AllFit e (v ∷ values) = IsTrue (fits_role (role_by_name e v.attribute.name) (form_by_code v.attribute.form)) × AllFit (with_said (role_by_name e v.attribute.name) v e) values

field_of : {A : Type 0} (r : Result A CursorFault) (x : A) → r ≡ Ok x → field r ≡ Ok x
field_of r x is = ap field is

in_form_takes : (sizes : Sizes) (at : ℕ) (o : Option Form) (p q : Input) → passed_in sizes at o p ≡ Ok q → (v : Value) × (bytes : List ℕ) × (rest p ≡ bytes ++ rest q) × IsInForm sizes o bytes v
in_form_takes sizes at None p q is = cc
in_form_takes sizes at (Some form) p q is =
    let read = bind_ok (field (value_at sizes (layout_by_form form) p)) _ q is in
    let found = value_takes sizes (layout_by_form form) p read.0.1 read.0.0 (field_ok (value_at sizes (layout_by_form form) p) read.0 read.1) in
    (read.0.0, found.0, found.1 ∙ ap (λ (z : Input). found.0 ++ rest z) (same_ok {E = InfoFault} read.0.1 q read.2), found.2)

-- reading leaves these bytes
abbrev Passes : Result Input InfoFault → List ℕ → Type 0
Passes read more = (q : Input) × (read ≡ Ok q) × (rest q ≡ more)

in_form_again : (sizes : Sizes) (at : ℕ) (o : Option Form) (p : Input) (bytes more : List ℕ) (v : Value) → rest p ≡ bytes ++ more → IsInForm sizes o bytes v → Passes (passed_in sizes at o p) more
in_form_again sizes at None p bytes more v is spelled = absurd spelled
in_form_again sizes at (Some form) p bytes more v is spelled =
    let read = value_again sizes (layout_by_form form) p bytes more v is spelled in
    (read.0, rw read.1 refl, read.2)

abbrev passed_by : Sizes → Bool → ℕ → Input → Result Input InfoFault
passed_by sizes t code p = cond t (field (uleb_at p) >>= λ inner. passed_in sizes p.at (inner_by_code inner.0) inner.1) (passed_in sizes p.at (form_by_code code) p)

coded_takes : (sizes : Sizes) (t : Bool) (code : ℕ) (p q : Input) → passed_by sizes t code p ≡ Ok q → (v : Value) × (bytes : List ℕ) × (rest p ≡ bytes ++ rest q) × IsCoded sizes t code bytes v
coded_takes sizes true code p q is =
    let inner = bind_ok (field (uleb_at p)) _ q is in
    let x = uleb_takes p inner.0.1 inner.0.0 (field_ok (uleb_at p) inner.0 inner.1) in
    let y = in_form_takes sizes p.at (inner_by_code inner.0.0) inner.0.1 q inner.2 in
    (y.0, x.0 ++ y.1, joined (rest p) x.0 y.1 (rest inner.0.1) (rest q) x.1 y.2, (inner.0.0, x.0, y.1, refl {a = x.0 ++ y.1}, x.2, y.3))
coded_takes sizes false code p q is = in_form_takes sizes p.at (form_by_code code) p q is

coded_again : (sizes : Sizes) (t : Bool) (code : ℕ) (p : Input) (bytes more : List ℕ) (v : Value) → rest p ≡ bytes ++ more → IsCoded sizes t code bytes v → Passes (passed_by sizes t code p) more
coded_again sizes true code p bytes more v is spelled =
    let inner = uleb_again p spelled.1 (spelled.2 ++ more) spelled.0 (parted (rest p) bytes spelled.1 spelled.2 more is spelled.3) spelled.4 in
    let value = in_form_again sizes p.at (inner_by_code spelled.0) inner.0 spelled.2 more v inner.2 spelled.5 in
    (value.0, rw inner.1 value.1, value.2)
coded_again sizes false code p bytes more v is spelled = in_form_again sizes p.at (form_by_code code) p bytes more v is spelled

-- DW_FORM_indirect is none of the other forms
direct : (code : ℕ) (form : Form) (t : Bool) → eqb code 0x16 ≡ t → form_by_code code ≡ Some form → t ≡ false
direct code form true is known =
    let same = eqb-true code 0x16 is in
    let none : form_by_code 0x16 ≡ Some form = subst (λ n. form_by_code n ≡ Some form) same known in
    cc
direct code form false is known = refl

-- with a form that is known, what a value says is what it is read as
said_is : (role : Role) (form : Form) (v : AttributeValue) (e : Entry) → form_by_code v.attribute.form ≡ Some form → with_role role form v.value e ≡ with_said role v e
said_is Name form v e known = rw known refl
said_is Dir form v e known = rw known refl
said_is Line form v e known = refl
said_is StrBase form v e known = refl
said_is Macros form v e known = refl
said_is Other form v e known = refl

-- what is read of an attribute
abbrev Takes : Sizes → Role → Attribute → Entry → Input → Entry → Input → Type 0
Takes sizes role a e p new q =
    (v : AttributeValue) × (bytes : List ℕ) × (rest p ≡ bytes ++ rest q) × (v.attribute ≡ a) × IsAttributeValue sizes bytes v × IsTrue (fits_role role (form_by_code a.form)) × (with_said role v e ≡ new)

abbrev Fitting : Sizes → Role → Attribute → Option Form → Entry → Input → Entry → Input → Type 0
Fitting sizes role a o e p new q =
    (v : AttributeValue) × (bytes : List ℕ) × (rest p ≡ bytes ++ rest q) × (v.attribute ≡ a) × IsAttributeValue sizes bytes v × IsTrue (names_form (form_fits role) o) × (with_said role v e ≡ new)

fitting_takes : (sizes : Sizes) (role : Role) (a : Attribute) (o : Option Form) (e new : Entry) (p q : Input) → form_by_code a.form ≡ o → fitting sizes role o e p ≡ Ok (new, q) → Fitting sizes role a o e p new q
fitting_takes sizes role a None e new p q known is = cc
fitting_takes sizes role a (Some form) e new p q known is =
    let fits = guarded (form_fits role form) (field (value_at sizes (layout_by_form form) p) >>= λ value. Ok (with_role role form value.0 e, value.1)) (new, q) (fault_at p.at UnfitForm) is in
    let read = bind_ok (field (value_at sizes (layout_by_form form) p)) _ (new, q) fits.1 in
    let found = value_takes sizes (layout_by_form form) p read.0.1 read.0.0 (field_ok (value_at sizes (layout_by_form form) p) read.0 read.1) in
    let v : AttributeValue = record { attribute = a; value = read.0.0 } in
    let same = same_ok {E = InfoFault} (with_role role form read.0.0 e, read.0.1) (new, q) read.2 in
    let known_form : IsInForm sizes (form_by_code a.form) found.0 read.0.0 = subst (λ (f : Option Form). IsInForm sizes f found.0 read.0.0) (sym known) found.2 in (
      v,
      found.0,
      found.1 ∙ ap (λ (z : Entry × Input). found.0 ++ rest z.1) same,
      refl,
      subst (λ t. IsCoded sizes t a.form found.0 read.0.0) (sym (direct a.form form (eqb a.form 0x16) refl known)) known_form,
      fits.0,
      sym (said_is role form v e known) ∙ ap (λ (z : Entry × Input). z.0) same,
    )

role_takes : (sizes : Sizes) (role : Role) (a : Attribute) (e new : Entry) (p q : Input) → by_role sizes a.form role e p ≡ Ok (new, q) → Takes sizes role a e p new q
role_takes sizes Other a e new p q is =
    let passed = bind_ok (passed_at sizes a.form p) _ (new, q) is in
    let found = coded_takes sizes (eqb a.form 0x16) a.form p passed.0 passed.1 in
    let same = same_ok {E = InfoFault} (e, passed.0) (new, q) passed.2 in
    (record { attribute = a; value = found.0 }, found.1, found.2 ∙ ap (λ (z : Entry × Input). found.1 ++ rest z.1) same, refl, found.3, refl, ap (λ (z : Entry × Input). z.0) same)
role_takes sizes Name a e new p q is = fitting_takes sizes Name a (form_by_code a.form) e new p q refl is
role_takes sizes Dir a e new p q is = fitting_takes sizes Dir a (form_by_code a.form) e new p q refl is
role_takes sizes Line a e new p q is = fitting_takes sizes Line a (form_by_code a.form) e new p q refl is
role_takes sizes StrBase a e new p q is = fitting_takes sizes StrBase a (form_by_code a.form) e new p q refl is
role_takes sizes Macros a e new p q is = fitting_takes sizes Macros a (form_by_code a.form) e new p q refl is

fitting_again : (sizes : Sizes) (role : Role) (o : Option Form) (e : Entry) (p : Input) (bytes more : List ℕ) (v : AttributeValue) → form_by_code v.attribute.form ≡ o → rest p ≡ bytes ++ more → IsAttributeValue sizes bytes v → IsTrue (names_form (form_fits role) o) →
    Leaves (fitting sizes role o e p) (with_said role v e) more
fitting_again sizes role None e p bytes more v known is spelled fits = cc
fitting_again sizes role (Some form) e p bytes more v known is spelled fits =
    let coded : IsCoded sizes false v.attribute.form bytes v.value = subst (λ t. IsCoded sizes t v.attribute.form bytes v.value) (direct v.attribute.form form (eqb v.attribute.form 0x16) refl known) spelled in
    let value : IsValue sizes (layout_by_form form) bytes v.value = subst (λ (f : Option Form). IsInForm sizes f bytes v.value) known coded in
    let read = value_again sizes (layout_by_form form) p bytes more v.value is value in
    (read.0, rw (fits, read.1) (ap (λ (x : Entry). Ok (x, read.0)) (said_is role form v e known)), read.2)

role_again : (sizes : Sizes) (role : Role) (e : Entry) (p : Input) (bytes more : List ℕ) (v : AttributeValue) → rest p ≡ bytes ++ more → IsAttributeValue sizes bytes v → IsTrue (fits_role role (form_by_code v.attribute.form)) →
    Leaves (by_role sizes v.attribute.form role e p) (with_said role v e) more
role_again sizes Other e p bytes more v is spelled fits =
    let passed = coded_again sizes (eqb v.attribute.form 0x16) v.attribute.form p bytes more v.value is spelled in
    (passed.0, rw passed.1 refl, passed.2)
role_again sizes Name e p bytes more v is spelled fits = fitting_again sizes Name (form_by_code v.attribute.form) e p bytes more v refl is spelled fits
role_again sizes Dir e p bytes more v is spelled fits = fitting_again sizes Dir (form_by_code v.attribute.form) e p bytes more v refl is spelled fits
role_again sizes Line e p bytes more v is spelled fits = fitting_again sizes Line (form_by_code v.attribute.form) e p bytes more v refl is spelled fits
role_again sizes StrBase e p bytes more v is spelled fits = fitting_again sizes StrBase (form_by_code v.attribute.form) e p bytes more v refl is spelled fits
role_again sizes Macros e p bytes more v is spelled fits = fitting_again sizes Macros (form_by_code v.attribute.form) e p bytes more v refl is spelled fits

-- an entry that is read has these values, one after another
pub values_takes : (sizes : Sizes) (attributes : List Attribute) (e new : Entry) (p q : Input) → entry_at sizes attributes e p ≡ Ok (new, q) →
    (values : List AttributeValue) × (bytes : List ℕ) × (rest p ≡ bytes ++ rest q) × (map (λ v. v.attribute) values ≡ attributes) × AreValues sizes bytes values × AllFit e values × (after_values e values ≡ new)
values_takes sizes [] e new p q is =
    let same = same_ok {E = InfoFault} (e, p) (new, q) is in
    ([], [], ap (λ (z : Entry × Input). rest z.1) same, refl, refl, tt, ap (λ (z : Entry × Input). z.0) same)
values_takes sizes (a ∷ attributes) e new p q is =
    let next = bind_ok (attribute_read sizes a e p) _ (new, q) is in
    let one = role_takes sizes (role_by_name e a.name) a e next.0.0 p next.0.1 next.1 in
    let more = values_takes sizes attributes next.0.0 new next.0.1 q next.2 in
    let role : role_by_name e a.name ≡ role_by_name e one.0.attribute.name = ap (λ (b : Attribute). role_by_name e b.name) (sym one.3) in
    let step : next.0.0 ≡ with_said (role_by_name e one.0.attribute.name) one.0 e = sym one.6 ∙ ap (λ r. with_said r one.0 e) role in
    let fits : IsTrue (fits_role (role_by_name e one.0.attribute.name) (form_by_code one.0.attribute.form)) = subst (λ (b : Attribute). IsTrue (fits_role (role_by_name e b.name) (form_by_code b.form))) (sym one.3) one.5 in (
      one.0 ∷ more.0,
      one.1 ++ more.1,
      joined (rest p) one.1 more.1 (rest next.0.1) (rest q) one.2 more.2,
      (λ i. one.3 i ∷ more.3 i),
      (one.1, more.1, refl {a = one.1 ++ more.1}, one.4, more.4),
      (fits, subst (λ (x : Entry). AllFit x more.0) step more.5),
      ap (λ (x : Entry). after_values x more.0) (sym step) ∙ more.6,
    )

-- and an entry with these values is read
pub values_again : (sizes : Sizes) (values : List AttributeValue) (e : Entry) (p : Input) (bytes more : List ℕ) → rest p ≡ bytes ++ more → AreValues sizes bytes values → AllFit e values →
    Leaves (entry_at sizes (map (λ v. v.attribute) values) e p) (after_values e values) more
values_again sizes [] e p bytes more is are fit = (p, refl, is ∙ ap (λ (xs : List ℕ). xs ++ more) are)
values_again sizes (v ∷ values) e p bytes more is are fit =
    let one = role_again sizes (role_by_name e v.attribute.name) e p are.0 (are.1 ++ more) v (parted (rest p) bytes are.0 are.1 more is are.2) are.3 fit.0 in
    let others = values_again sizes values (with_said (role_by_name e v.attribute.name) v e) one.0 are.1 more one.2 are.4 fit.1 in
    (others.0, rw one.1 others.1, others.2)
