-- Reading an entry value by value keeps the first value of each name that is read.
use Rattle.std.proofs.Common.{◌≡◌, ℕ, Bool, true, false, eqb, cond, List, [], ◌∷◌, Option, Some, None, refl, ap, subst, ◌∙◌, sym}
use Rattle.std.specs.Prelude.{IsTrue}
use Rattle.std.specs.Option.{option_map, option_or}
use borrow.Author.Tests.{eqb-true}
use Rattle.mac_base.specs.declared.form.Form.{Form}
use Rattle.mac_base.specs.Forms.{form_by_code}
use Rattle.info_roots.specs.declared.entry.Role.{Role}
use Rattle.info_roots.specs.declared.entry.Role.TheVariants.{Name, Line, Dir, StrBase, Macros, Other}
use Rattle.info_roots.specs.Entries.{Text, Entry, no_entry, unless_there, role_by_name, form_names, form_offsets}
use Rattle.info_roots.specs.EntrySpelling.{AttributeValue, first_named, HasForm, HaveForms, text_said, number_said, text_named, number_named}
use Rattle.info_roots.proofs.EntryLemmas.{with_said, fits_role, after_values, AllFit}

-- the first values of the names that are read
record Firsts : Type 0 where
  name : Option AttributeValue
  line : Option AttributeValue
  dir : Option AttributeValue
  str_base : Option AttributeValue
  macros : Option AttributeValue

abbrev firsts_of : List AttributeValue → Firsts
firsts_of values = record { name = first_named 0x03 values; line = first_named 0x10 values; dir = first_named 0x1b values; str_base = first_named 0x72 values; macros = first_named 0x79 values }

-- a value that was read before is kept
abbrev HasFormUnless : {X : Type 0} → (Form → Bool) → Option X → Option AttributeValue → Type 0
HasFormUnless test None found = HasForm test found
HasFormUnless test (Some x) found = Unit {0}

record FirstsFit (e : Entry) (f : Firsts) : Type 0 where
  name : HasFormUnless form_names e.name f.name
  line : HasFormUnless form_offsets e.line f.line
  dir : HasFormUnless form_names e.dir f.dir
  str_base : HasFormUnless form_offsets e.str_base f.str_base
  macros : HasFormUnless form_offsets e.macros f.macros

-- one of five tests, which are those of the five names
abbrev role_by : Bool → Bool → Bool → Bool → Bool → Entry → Role
role_by n l d s m e =
    cond n (unless_there e.name Name) (cond l (unless_there e.line Line) (cond d (unless_there e.dir Dir) (cond s (unless_there e.str_base StrBase) (cond m (unless_there e.macros Macros) Other))))

abbrev with_first : Bool → Bool → Bool → Bool → Bool → AttributeValue → Firsts → Firsts
with_first n l d s m v f =
    record { name = cond n (Some v) f.name; line = cond l (Some v) f.line; dir = cond d (Some v) f.dir; str_base = cond s (Some v) f.str_base; macros = cond m (Some v) f.macros }

-- what a value adds to an entry
record Step (n l d s m : Bool) (e : Entry) (v : AttributeValue) : Type 0 where
  name : (with_said (role_by n l d s m e) v e).name ≡ cond n (option_or e.name (Some (text_said v))) e.name
  line : (with_said (role_by n l d s m e) v e).line ≡ cond l (option_or e.line (Some (number_said v))) e.line
  dir : (with_said (role_by n l d s m e) v e).dir ≡ cond d (option_or e.dir (Some (text_said v))) e.dir
  str_base : (with_said (role_by n l d s m e) v e).str_base ≡ cond s (option_or e.str_base (Some (number_said v))) e.str_base
  macros : (with_said (role_by n l d s m e) v e).macros ≡ cond m (option_or e.macros (Some (number_said v))) e.macros
  into : (f : Firsts) → IsTrue (fits_role (role_by n l d s m e) (form_by_code v.attribute.form)) → FirstsFit (with_said (role_by n l d s m e) v e) f → FirstsFit e (with_first n l d s m v f)
  out : (f : Firsts) → FirstsFit e (with_first n l d s m v f) → IsTrue (fits_role (role_by n l d s m e) (form_by_code v.attribute.form)) × FirstsFit (with_said (role_by n l d s m e) v e) f

abbrev entry : Option Text → Option ℕ → Option Text → Option ℕ → Option ℕ → Bool → Entry
entry name line dir str_base macros first = record { name = name; dir = dir; line = line; str_base = str_base; macros = macros; dir_first = first }

name_step : (name : Option Text) (line : Option ℕ) (dir : Option Text) (str_base macros : Option ℕ) (first : Bool) (v : AttributeValue) → Step true false false false false (entry name line dir str_base macros first) v
name_step None line dir str_base macros first v = record {
  name = refl;
  line = refl;
  dir = refl;
  str_base = refl;
  macros = refl;
  into = λ f fits r. record { name = fits; line = r.line; dir = r.dir; str_base = r.str_base; macros = r.macros };
  out = λ f r. (r.name, record { name = tt; line = r.line; dir = r.dir; str_base = r.str_base; macros = r.macros });
}
name_step (Some x) line dir str_base macros first v = record {
  name = refl;
  line = refl;
  dir = refl;
  str_base = refl;
  macros = refl;
  into = λ f fits r. record { name = tt; line = r.line; dir = r.dir; str_base = r.str_base; macros = r.macros };
  out = λ f r. (refl, record { name = tt; line = r.line; dir = r.dir; str_base = r.str_base; macros = r.macros });
}

line_step : (name : Option Text) (line : Option ℕ) (dir : Option Text) (str_base macros : Option ℕ) (first : Bool) (v : AttributeValue) → Step false true false false false (entry name line dir str_base macros first) v
line_step name None dir str_base macros first v = record {
  name = refl;
  line = refl;
  dir = refl;
  str_base = refl;
  macros = refl;
  into = λ f fits r. record { name = r.name; line = fits; dir = r.dir; str_base = r.str_base; macros = r.macros };
  out = λ f r. (r.line, record { name = r.name; line = tt; dir = r.dir; str_base = r.str_base; macros = r.macros });
}
line_step name (Some x) dir str_base macros first v = record {
  name = refl;
  line = refl;
  dir = refl;
  str_base = refl;
  macros = refl;
  into = λ f fits r. record { name = r.name; line = tt; dir = r.dir; str_base = r.str_base; macros = r.macros };
  out = λ f r. (refl, record { name = r.name; line = tt; dir = r.dir; str_base = r.str_base; macros = r.macros });
}

dir_step : (name : Option Text) (line : Option ℕ) (dir : Option Text) (str_base macros : Option ℕ) (first : Bool) (v : AttributeValue) → Step false false true false false (entry name line dir str_base macros first) v
dir_step name line None str_base macros first v = record {
  name = refl;
  line = refl;
  dir = refl;
  str_base = refl;
  macros = refl;
  into = λ f fits r. record { name = r.name; line = r.line; dir = fits; str_base = r.str_base; macros = r.macros };
  out = λ f r. (r.dir, record { name = r.name; line = r.line; dir = tt; str_base = r.str_base; macros = r.macros });
}
dir_step name line (Some x) str_base macros first v = record {
  name = refl;
  line = refl;
  dir = refl;
  str_base = refl;
  macros = refl;
  into = λ f fits r. record { name = r.name; line = r.line; dir = tt; str_base = r.str_base; macros = r.macros };
  out = λ f r. (refl, record { name = r.name; line = r.line; dir = tt; str_base = r.str_base; macros = r.macros });
}

str_base_step : (name : Option Text) (line : Option ℕ) (dir : Option Text) (str_base macros : Option ℕ) (first : Bool) (v : AttributeValue) → Step false false false true false (entry name line dir str_base macros first) v
str_base_step name line dir None macros first v = record {
  name = refl;
  line = refl;
  dir = refl;
  str_base = refl;
  macros = refl;
  into = λ f fits r. record { name = r.name; line = r.line; dir = r.dir; str_base = fits; macros = r.macros };
  out = λ f r. (r.str_base, record { name = r.name; line = r.line; dir = r.dir; str_base = tt; macros = r.macros });
}
str_base_step name line dir (Some x) macros first v = record {
  name = refl;
  line = refl;
  dir = refl;
  str_base = refl;
  macros = refl;
  into = λ f fits r. record { name = r.name; line = r.line; dir = r.dir; str_base = tt; macros = r.macros };
  out = λ f r. (refl, record { name = r.name; line = r.line; dir = r.dir; str_base = tt; macros = r.macros });
}

macros_step : (name : Option Text) (line : Option ℕ) (dir : Option Text) (str_base macros : Option ℕ) (first : Bool) (v : AttributeValue) → Step false false false false true (entry name line dir str_base macros first) v
macros_step name line dir str_base None first v = record {
  name = refl;
  line = refl;
  dir = refl;
  str_base = refl;
  macros = refl;
  into = λ f fits r. record { name = r.name; line = r.line; dir = r.dir; str_base = r.str_base; macros = fits };
  out = λ f r. (r.macros, record { name = r.name; line = r.line; dir = r.dir; str_base = r.str_base; macros = tt });
}
macros_step name line dir str_base (Some x) first v = record {
  name = refl;
  line = refl;
  dir = refl;
  str_base = refl;
  macros = refl;
  into = λ f fits r. record { name = r.name; line = r.line; dir = r.dir; str_base = r.str_base; macros = tt };
  out = λ f r. (refl, record { name = r.name; line = r.line; dir = r.dir; str_base = r.str_base; macros = tt });
}

other_step : (e : Entry) (v : AttributeValue) → Step false false false false false e v
other_step e v = record {
  name = refl;
  line = refl;
  dir = refl;
  str_base = refl;
  macros = refl;
  into = λ f fits r. r;
  out = λ f r. (refl, r);
}

-- by the tests, of which none holds
no_name : (n l d s m : Bool) (e : Entry) (v : AttributeValue) → n ≡ false → l ≡ false → d ≡ false → s ≡ false → m ≡ false → Step n l d s m e v
no_name true l d s m e v a b c x y = cc
no_name false true d s m e v a b c x y = cc
no_name false false true s m e v a b c x y = cc
no_name false false false true m e v a b c x y = cc
no_name false false false false true e v a b c x y = cc
no_name false false false false false e v a b c x y = other_step e v

abbrev StepOf : ℕ → Entry → AttributeValue → Type 0
StepOf name e v = Step (eqb name 0x03) (eqb name 0x10) (eqb name 0x1b) (eqb name 0x72) (eqb name 0x79) e v

step_by : (name : ℕ) (n l d s m : Bool) (e : Entry) (v : AttributeValue) → eqb name 0x03 ≡ n → eqb name 0x10 ≡ l → eqb name 0x1b ≡ d → eqb name 0x72 ≡ s → eqb name 0x79 ≡ m → StepOf name e v
step_by name true l d s m e v a b c x y = subst (λ k. StepOf k e v) (sym (eqb-true name 0x03 a)) (name_step e.name e.line e.dir e.str_base e.macros e.dir_first v)
step_by name false true d s m e v a b c x y = subst (λ k. StepOf k e v) (sym (eqb-true name 0x10 b)) (line_step e.name e.line e.dir e.str_base e.macros e.dir_first v)
step_by name false false true s m e v a b c x y = subst (λ k. StepOf k e v) (sym (eqb-true name 0x1b c)) (dir_step e.name e.line e.dir e.str_base e.macros e.dir_first v)
step_by name false false false true m e v a b c x y = subst (λ k. StepOf k e v) (sym (eqb-true name 0x72 x)) (str_base_step e.name e.line e.dir e.str_base e.macros e.dir_first v)
step_by name false false false false true e v a b c x y = subst (λ k. StepOf k e v) (sym (eqb-true name 0x79 y)) (macros_step e.name e.line e.dir e.str_base e.macros e.dir_first v)
step_by name false false false false false e v a b c x y = no_name (eqb name 0x03) (eqb name 0x10) (eqb name 0x1b) (eqb name 0x72) (eqb name 0x79) e v a b c x y

step_of : (e : Entry) (v : AttributeValue) → StepOf v.attribute.name e v
step_of e v = step_by v.attribute.name (eqb v.attribute.name 0x03) (eqb v.attribute.name 0x10) (eqb v.attribute.name 0x1b) (eqb v.attribute.name 0x72) (eqb v.attribute.name 0x79) e v refl refl refl refl refl

abbrev next : Entry → AttributeValue → Entry
next e v = with_said (role_by_name e v.attribute.name) v e

joined_or : {X : Type 0} (t : Bool) (old later : Option X) (x : X) (v : AttributeValue) (said : AttributeValue → X) (found : Option AttributeValue) → x ≡ said v →
    option_or (cond t (option_or old (Some x)) old) (option_map said found) ≡ option_or old (option_map said (cond t (Some v) found))
joined_or true None later x v said found is = ap (λ y. Some y) is
joined_or true (Some y) later x v said found is = refl
joined_or false old later x v said found is = refl

-- a field keeps the first value of its name, whichever its name and what a value says for it
field_after : {X : Type 0} (get : Entry → Option X) (name : ℕ) (said : AttributeValue → X) → ((e : Entry) (v : AttributeValue) → get (next e v) ≡ cond (eqb v.attribute.name name) (option_or (get e) (Some (said v))) (get e)) →
    (values : List AttributeValue) (e : Entry) → get (after_values e values) ≡ option_or (get e) (option_map said (first_named name values))
field_after get name said steps [] e = or_none (get e)
  where
    or_none : {X : Type 0} (o : Option X) → o ≡ option_or o None
    or_none None = refl
    or_none (Some x) = refl
field_after get name said steps (v ∷ values) e =
    field_after get name said steps values (next e v)
    ∙ ap (λ o. option_or o (option_map said (first_named name values))) (steps e v)
    ∙ joined_or (eqb v.attribute.name name) (get e) (get e) (said v) v said (first_named name values) refl

-- each field of an entry that was read is what the first attribute of its name says
pub name_said : (values : List AttributeValue) → (after_values no_entry values).name ≡ text_named 0x03 values
name_said values = field_after (λ e. e.name) 0x03 text_said (λ e v. (step_of e v).name) values no_entry

pub line_said : (values : List AttributeValue) → (after_values no_entry values).line ≡ number_named 0x10 values
line_said values = field_after (λ e. e.line) 0x10 number_said (λ e v. (step_of e v).line) values no_entry

pub dir_said : (values : List AttributeValue) → (after_values no_entry values).dir ≡ text_named 0x1b values
dir_said values = field_after (λ e. e.dir) 0x1b text_said (λ e v. (step_of e v).dir) values no_entry

pub str_base_said : (values : List AttributeValue) → (after_values no_entry values).str_base ≡ number_named 0x72 values
str_base_said values = field_after (λ e. e.str_base) 0x72 number_said (λ e v. (step_of e v).str_base) values no_entry

pub macros_said : (values : List AttributeValue) → (after_values no_entry values).macros ≡ number_named 0x79 values
macros_said values = field_after (λ e. e.macros) 0x79 number_said (λ e v. (step_of e v).macros) values no_entry

none_fit : (e : Entry) → FirstsFit e (firsts_of [])
none_fit e = record { name = free form_names e.name; line = free form_offsets e.line; dir = free form_names e.dir; str_base = free form_offsets e.str_base; macros = free form_offsets e.macros }
  where
    free : {X : Type 0} (test : Form → Bool) (o : Option X) → HasFormUnless test o None
    free test None = tt
    free test (Some x) = tt

fit_firsts : (values : List AttributeValue) (e : Entry) → AllFit e values → FirstsFit e (firsts_of values)
fit_firsts [] e fit = none_fit e
fit_firsts (v ∷ values) e fit = (step_of e v).into (firsts_of values) fit.0 (fit_firsts values (next e v) fit.1)

firsts_fit : (values : List AttributeValue) (e : Entry) → FirstsFit e (firsts_of values) → AllFit e values
firsts_fit [] e fit = tt
firsts_fit (v ∷ values) e fit =
    let one = (step_of e v).out (firsts_of values) fit in (one.0, firsts_fit values (next e v) one.1)

pub fit_takes : (values : List AttributeValue) → AllFit no_entry values → HaveForms values
fit_takes values fit = let f = fit_firsts values no_entry fit in record { name = f.name; dir = f.dir; line = f.line; str_base = f.str_base; macros = f.macros }

pub fit_again : (values : List AttributeValue) → HaveForms values → AllFit no_entry values
fit_again values f = firsts_fit values no_entry (record { name = f.name; line = f.line; dir = f.dir; str_base = f.str_base; macros = f.macros })
