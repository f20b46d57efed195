-- An entry that is read is spelled by its bytes, and one that is spelled is read.
use Rattle.std.proofs.Common.{◌≡◌, ◌⊎◌, ℕ, ◌<◌, Bool, true, false, eqb, ltb, cond, List, [], ◌∷◌, ◌++◌, length, map, Option, Some, None, Result, Ok, inl, inr, refl, ap, subst, ◌∙◌, sym}
use Rattle.std.specs.Prelude.{◌||◌}
use borrow.Author.Tests.{eqb-true, ltb-true, lt-ltb}
use Rattle.mac_base.specs.Input.{Input, ahead}
use Rattle.mac_base.specs.Spelling.{Between}
use Rattle.mac_base.specs.declared.form.Form.{Form}
use Rattle.mac_base.specs.declared.form.Form.TheVariants.{String, Strp, LineStrp, Udata, Data1, Data2}
use Rattle.mac_base.specs.declared.value.Sizes.{Sizes}
use Rattle.mac_base.specs.Forms.{layout_by_form}
use Rattle.mac_base.specs.Values.{Value, Nothing, Number, Signed, Text, Bytes, value_at}
use Rattle.mac_base.specs.ValueSpelling.{IsValue}
use Rattle.mac_base.proofs.Choices.{bind_ok, same_ok, guarded}
use Rattle.mac_base.proofs.InputLemmas.{between_both, between_cut}
use Rattle.mac_base.proofs.ValueLemmas.{value_at-takes, value_at-again}
use Rattle.string_sections.specs.Strings.{string_of}
use Rattle.line_names.specs.declared.fault.LineFault.{LineFault}
use Rattle.line_names.specs.declared.format.Role.{Role}
use Rattle.line_names.specs.declared.format.Role.TheVariants.{Path, Directory, Other}
use Rattle.line_names.specs.declared.entry.Measures.{Measures}
use Rattle.line_names.specs.Faults.{field}
use Rattle.line_names.specs.Format.{form_fits, form_names, form_counts}
use Rattle.line_names.specs.Entries.{Tables, Entry, strings_of, found_at, path_by, number_in, index_by, with_value, content_read, entry_at}
use Rattle.line_names.specs.Spelling.{Pair, Field, IsField, AreEach, StringSections, section_by, IsPathIn, first_of_type, lists_type, role_after}
use Rattle.line_names.specs.Laws.{strings_in}
use Rattle.line_names.proofs.Steps.{field_ok, between_same, none_between}
use Rattle.line_names.proofs.PairLemmas.{contents_of, content_after, role_by, AreFitting, apart_types, after_one}

-- what one value does to the path of an entry
abbrev PathStep : StringSections → Role → Form → Value → List ℕ → List ℕ → Type 0
PathStep s Path form value old new = IsPathIn (section_by s form) value new
PathStep s Directory form value old new = new ≡ old
PathStep s Other form value old new = new ≡ old

-- an index that has to be 0, or below a number, where one is given
abbrev pub InRange : Option ℕ → ℕ → Type 0
InRange None n = Unit {0}
InRange (Some count) n = (n ≡ 0) ⊎ (n < count)

-- and to its directory
abbrev DirectoryStep : Option ℕ → Role → Value → ℕ → ℕ → Type 0
DirectoryStep limit Path value old new = new ≡ old
DirectoryStep limit Directory value old new = (value ≡ Number new) × InRange limit new
DirectoryStep limit Other value old new = new ≡ old

-- what the values of all these pairs do to the path: nothing where a pair before them was the path
abbrev pub PathFrom : StringSections → Bool → Option Field → List ℕ → List ℕ → Type 0
PathFrom s true found old new = new ≡ old
PathFrom s false None old new = new ≡ old
PathFrom s false (Some field) old new = IsPathIn (section_by s field.pair.form) field.value new

-- and to the directory
abbrev pub DirectoryFrom : Option ℕ → Bool → Option Field → ℕ → ℕ → Type 0
DirectoryFrom limit true found old new = new ≡ old
DirectoryFrom limit false None old new = new ≡ old
DirectoryFrom limit false (Some field) old new = (field.value ≡ Number new) × InRange limit new

found_takes : (at : ℕ) (o : Option (List ℕ)) (path : List ℕ) → found_at at o ≡ Ok path → o ≡ Some path
found_takes at None path is = cc
found_takes at (Some text) path is = ap (λ (x : List ℕ). Some x) (same_ok {E = LineFault} text path is)

-- a path in a form that paths have
path_takes : (t : Tables) (sizes : Sizes) (form : Form) (at : ℕ) (value : Value) (bytes path : List ℕ) → form_names form ≡ true → IsValue sizes (layout_by_form form) bytes value → path_by (strings_of t form) at value ≡ Ok path → IsPathIn (section_by (strings_in t) form) value path
path_takes t sizes String at value bytes path fits spelled is =
    let P : Value → Type 0 = λ v. path_by t.strs at v ≡ Ok path → IsPathIn t.strs v path in
    subst P (sym spelled.2) (λ (made : path_by t.strs at (Text spelled.0) ≡ Ok path). sym (same_ok {E = LineFault} spelled.0 path made)) is
path_takes t sizes Strp at value bytes path fits spelled is =
    let P : Value → Type 0 = λ v. path_by t.strs at v ≡ Ok path → IsPathIn t.strs v path in
    subst P (sym spelled.2) (λ (made : path_by t.strs at (Number spelled.0) ≡ Ok path). found_takes at (string_of t.strs spelled.0) path made) is
path_takes t sizes LineStrp at value bytes path fits spelled is =
    let P : Value → Type 0 = λ v. path_by t.line_strs at v ≡ Ok path → IsPathIn t.line_strs v path in
    subst P (sym spelled.2) (λ (made : path_by t.line_strs at (Number spelled.0) ≡ Ok path). found_takes at (string_of t.line_strs spelled.0) path made) is
path_takes t sizes _ at value bytes path fits spelled is = cc

in_value : (section : List ℕ) (at : ℕ) (value : Value) (path : List ℕ) → IsPathIn section value path → path_by section at value ≡ Ok path
in_value section at (Text text) path is = ap (λ (x : List ℕ). Ok x) (sym is)
in_value section at (Number off) path is = ap (found_at at) is
in_value section at Nothing path is = absurd is
in_value section at (Signed z) path is = absurd is
in_value section at (Bytes bytes) path is = absurd is

path_again : (t : Tables) (form : Form) (at : ℕ) (value : Value) (path : List ℕ) → form_names form ≡ true → IsPathIn (section_by (strings_in t) form) value path → path_by (strings_of t form) at value ≡ Ok path
path_again t String at value path fits is = in_value t.strs at value path is
path_again t Strp at value path fits is = in_value t.strs at value path is
path_again t LineStrp at value path fits is = in_value t.line_strs at value path is
path_again t _ at value path fits is = cc

in_range : (a b : Bool) (index count : ℕ) → eqb index 0 ≡ a → ltb index count ≡ b → (a || b) ≡ true → (index ≡ 0) ⊎ (index < count)
in_range true b index count zero_index below is = inl (eqb-true index 0 zero_index)
in_range false true index count zero_index below is = inr (ltb-true index count below)
in_range false false index count zero_index below is = cc

or_true : (a : Bool) (x y : Result ℕ LineFault) → cond (a || true) x y ≡ x
or_true true x y = refl
or_true false x y = refl

range_takes : (limit : Option ℕ) (at index n : ℕ) → index_by limit at index ≡ Ok n → (index ≡ n) × InRange limit n
range_takes None at index n is = (same_ok {E = LineFault} index n is, tt)
range_takes (Some count) at index n is =
    let parts = guarded (eqb index 0 || ltb index count) (Ok index) n _ is in
    let same = same_ok {E = LineFault} index n parts.1 in
    (same, subst (InRange (Some count)) same (in_range (eqb index 0) (ltb index count) index count refl refl parts.0))

range_again : (limit : Option ℕ) (at n : ℕ) → InRange limit n → index_by limit at n ≡ Ok n
range_again None at n is = refl
range_again (Some count) at n (inl none) = rw none refl
range_again (Some count) at n (inr below) = rw (lt-ltb n count below) (or_true (eqb n 0) _ _)

-- an index in a form that indexes have
index_takes : (sizes : Sizes) (form : Form) (limit : Option ℕ) (at : ℕ) (value : Value) (bytes : List ℕ) (n : ℕ) → form_counts form ≡ true → IsValue sizes (layout_by_form form) bytes value → index_by limit at (number_in value) ≡ Ok n → (value ≡ Number n) × InRange limit n
index_takes sizes Data1 limit at value bytes n fits spelled is =
    let range = range_takes limit at (number_in value) n is in
    let number : spelled.0 ≡ n = ap number_in (sym spelled.2) ∙ range.0 in
    (spelled.2 ∙ ap Number number, range.1)
index_takes sizes Data2 limit at value bytes n fits spelled is =
    let range = range_takes limit at (number_in value) n is in
    let number : spelled.0 ≡ n = ap number_in (sym spelled.2) ∙ range.0 in
    (spelled.2 ∙ ap Number number, range.1)
index_takes sizes Udata limit at value bytes n fits spelled is =
    let range = range_takes limit at (number_in value) n is in
    let number : spelled.0 ≡ n = ap number_in (sym spelled.3) ∙ range.0 in
    (spelled.3 ∙ ap Number number, range.1)
index_takes sizes _ limit at value bytes n fits spelled is = cc

-- one value, by its role
step_takes : (t : Tables) (m : Measures) (role : Role) (form : Form) (at : ℕ) (value : Value) (bytes : List ℕ) (old new : Entry) → form_fits role form ≡ true → IsValue m.sizes (layout_by_form form) bytes value → with_value t m role form at value old ≡ Ok new → PathStep (strings_in t) role form value old.path new.path × DirectoryStep m.directories role value old.directory new.directory
step_takes t m Path form at value bytes old new fits spelled is =
    let path = bind_ok (path_by (strings_of t form) at value) _ new is in
    let made : Entry = record { path = path.0; directory = old.directory } in
    let same = same_ok {E = LineFault} made new path.2 in
    let here = path_takes t m.sizes form at value bytes path.0 fits spelled path.1 in
    (subst (IsPathIn (section_by (strings_in t) form) value) (ap (λ (e : Entry). e.path) same) here, sym (ap (λ (e : Entry). e.directory) same))
step_takes t m Directory form at value bytes old new fits spelled is =
    let index = bind_ok (index_by m.directories at (number_in value)) _ new is in
    let made : Entry = record { path = old.path; directory = index.0 } in
    let same = same_ok {E = LineFault} made new index.2 in
    let here = index_takes m.sizes form m.directories at value bytes index.0 fits spelled index.1 in
    let P : ℕ → Type 0 = λ n. (value ≡ Number n) × InRange m.directories n in
    (sym (ap (λ (e : Entry). e.path) same), subst P (ap (λ (e : Entry). e.directory) same) here)
step_takes t m Other form at value bytes old new fits spelled is =
    let same = same_ok {E = LineFault} old new is in
    (sym (ap (λ (e : Entry). e.path) same), sym (ap (λ (e : Entry). e.directory) same))

step_again : (t : Tables) (m : Measures) (role : Role) (form : Form) (at : ℕ) (value : Value) (old new : Entry) → form_fits role form ≡ true → PathStep (strings_in t) role form value old.path new.path → DirectoryStep m.directories role value old.directory new.directory → with_value t m role form at value old ≡ Ok new
step_again t m Path form at value old new fits path directory =
    rw (path_again t form at value new.path fits path) (ap (λ n. Ok (record { path = new.path; directory = n })) (sym directory))
step_again t m Directory form at value old new fits path directory =
    rw directory.0 (rw (range_again m.directories at new.directory directory.1) (ap (λ (x : List ℕ). Ok (record { path = x; directory = new.directory })) (sym path)))
step_again t m Other form at value old new fits path directory =
    ap (λ (e : Entry). Ok e) (λ i. record { path = sym path i; directory = sym directory i })

path_on : (s : StringSections) (one path two directory : Bool) (field : Field) (found : Option Field) (old mid new : List ℕ) → PathStep s (role_by one path two directory) field.pair.form field.value old mid → PathFrom s (path || (one || false)) found mid new → PathFrom s path (cond one (Some field) found) old new
path_on s true true true directory field found old mid new step more = more ∙ step
path_on s true true false directory field found old mid new step more = more ∙ step
path_on s true false two directory field found old mid new step more = subst (IsPathIn (section_by s field.pair.form) field.value) (sym more) step
path_on s false true true true field found old mid new step more = more ∙ step
path_on s false true true false field found old mid new step more = more ∙ step
path_on s false true false directory field found old mid new step more = more ∙ step
path_on s false false true true field found old mid new step more = subst (λ (x : List ℕ). PathFrom s false found x new) step more
path_on s false false true false field found old mid new step more = subst (λ (x : List ℕ). PathFrom s false found x new) step more
path_on s false false false directory field found old mid new step more = subst (λ (x : List ℕ). PathFrom s false found x new) step more

directory_on : (limit : Option ℕ) (one path two directory : Bool) (field : Field) (found : Option Field) (old mid new : ℕ) → (one ≡ true → two ≡ false) → DirectoryStep limit (role_by one path two directory) field.value old mid → DirectoryFrom limit (directory || (two || false)) found mid new → DirectoryFrom limit directory (cond two (Some field) found) old new
directory_on limit true path true directory field found old mid new apart step more = let no : true ≡ false = apart refl in absurd (cc)
directory_on limit true true false true field found old mid new apart step more = more ∙ step
directory_on limit true true false false field found old mid new apart step more = subst (λ x. DirectoryFrom limit false found x new) step more
directory_on limit true false false true field found old mid new apart step more = more ∙ step
directory_on limit true false false false field found old mid new apart step more = subst (λ x. DirectoryFrom limit false found x new) step more
directory_on limit false path true true field found old mid new apart step more = more ∙ step
directory_on limit false path true false field found old mid new apart step more =
    let P : ℕ → Type 0 = λ n. (field.value ≡ Number n) × InRange limit n in
    subst P (sym more) step
directory_on limit false path false true field found old mid new apart step more = more ∙ step
directory_on limit false path false false field found old mid new apart step more = subst (λ x. DirectoryFrom limit false found x new) step more

-- the path between two values, by the role of the first
mid_path : Role → List ℕ → List ℕ → List ℕ
mid_path Path old new = new
mid_path Directory old new = old
mid_path Other old new = old

mid_directory : Role → ℕ → ℕ → ℕ
mid_directory Path old new = old
mid_directory Directory old new = new
mid_directory Other old new = old

path_off : (s : StringSections) (one path two directory : Bool) (field : Field) (found : Option Field) (old new : List ℕ) → PathFrom s path (cond one (Some field) found) old new → (mid : List ℕ) × PathStep s (role_by one path two directory) field.pair.form field.value old mid × PathFrom s (path || (one || false)) found mid new
path_off s true true true directory field found old new from = (old, refl, from)
path_off s true true false directory field found old new from = (old, refl, from)
path_off s true false two directory field found old new from = (new, from, refl)
path_off s false true true true field found old new from = (old, refl, from)
path_off s false true true false field found old new from = (old, refl, from)
path_off s false true false directory field found old new from = (old, refl, from)
path_off s false false true true field found old new from = (old, refl, from)
path_off s false false true false field found old new from = (old, refl, from)
path_off s false false false directory field found old new from = (old, refl, from)

directory_off : (limit : Option ℕ) (one path two directory : Bool) (field : Field) (found : Option Field) (old new : ℕ) → (one ≡ true → two ≡ false) → DirectoryFrom limit directory (cond two (Some field) found) old new → (mid : ℕ) × DirectoryStep limit (role_by one path two directory) field.value old mid × DirectoryFrom limit (directory || (two || false)) found mid new
directory_off limit true path true directory field found old new apart from = let no : true ≡ false = apart refl in absurd (cc)
directory_off limit true true false true field found old new apart from = (old, refl, from)
directory_off limit true true false false field found old new apart from = (old, refl, from)
directory_off limit true false false true field found old new apart from = (old, refl, from)
directory_off limit true false false false field found old new apart from = (old, refl, from)
directory_off limit false path true true field found old new apart from = (old, refl, from)
directory_off limit false path true false field found old new apart from = (new, from, refl)
directory_off limit false path false true field found old new apart from = (old, refl, from)
directory_off limit false path false false field found old new apart from = (old, refl, from)

path_none : (s : StringSections) (seen : Bool) (path : List ℕ) → PathFrom s seen None path path
path_none s true path = refl
path_none s false path = refl

path_kept : (s : StringSections) (seen : Bool) (old new : List ℕ) → PathFrom s seen None old new → new ≡ old
path_kept s true old new is = is
path_kept s false old new is = is

directory_none : (limit : Option ℕ) (seen : Bool) (n : ℕ) → DirectoryFrom limit seen None n n
directory_none limit true n = refl
directory_none limit false n = refl

directory_kept : (limit : Option ℕ) (seen : Bool) (old new : ℕ) → DirectoryFrom limit seen None old new → new ≡ old
directory_kept limit true old new is = is
directory_kept limit false old new is = is

-- the pairs of contents
abbrev pub pairs_of : List Field → List Pair
pairs_of fields = map (λ (field : Field). field.pair) fields

-- what was read of an entry whose other pairs are these
pub record TookFields (t : Tables) (m : Measures) (before pairs : List Pair) (p q : Input) (old new : Entry) : Type 0 where
  pub fields : List Field
  pub bytes : List ℕ
  pub between : Between p q bytes
  pub are_fields : AreEach (IsField m.sizes) bytes fields
  pub by_pairs : pairs_of fields ≡ pairs
  pub path : PathFrom (strings_in t) (lists_type 1 before) (first_of_type 1 fields) old.path new.path
  pub directory : DirectoryFrom m.directories (lists_type 2 before) (first_of_type 2 fields) old.directory new.directory

pub fields_take : (t : Tables) (m : Measures) (before pairs : List Pair) (p q : Input) (old new : Entry) → AreFitting before pairs → entry_at t m (contents_of before pairs) old p ≡ Ok (new, q) → TookFields t m before pairs p q old new
fields_take t m before [] p q old new fit is =
    let same = same_ok {E = LineFault} (old, p) (new, q) is in
    let here : old ≡ new = ap (λ (x : Entry × Input). x.0) same in
    record {
      fields = [];
      bytes = [];
      between = between_same p q (ap (λ (x : Entry × Input). x.1) same);
      are_fields = refl;
      by_pairs = refl;
      path = subst (λ (e : Entry). PathFrom (strings_in t) (lists_type 1 before) None old.path e.path) here (path_none (strings_in t) (lists_type 1 before) old.path);
      directory = subst (λ (e : Entry). DirectoryFrom m.directories (lists_type 2 before) None old.directory e.directory) here (directory_none m.directories (lists_type 2 before) old.directory);
    }
fields_take t m before (pair ∷ pairs) p q old new fit is =
    let next = bind_ok (content_read t m (content_after before pair) old p) _ (new, q) is in
    let value = bind_ok (field (value_at m.sizes (layout_by_form pair.form) p)) _ next.0 next.1 in
    let step = bind_ok (with_value t m (role_after before pair.content_type) pair.form p.at value.0.0 old) _ next.0 value.2 in
    let same = same_ok {E = LineFault} (step.0, value.0.1) next.0 step.2 in
    let entry : step.0 ≡ next.0.0 = ap (λ (x : Entry × Input). x.0) same in
    let end : value.0.1 ≡ next.0.1 = ap (λ (x : Entry × Input). x.1) same in
    let taken = value_at-takes m.sizes (layout_by_form pair.form) p value.0.1 value.0.0 (field_ok (value_at m.sizes (layout_by_form pair.form) p) value.0 value.1) in
    let made : Field = record { pair = pair; value = value.0.0 } in
    let on = step_takes t m (role_after before pair.content_type) pair.form p.at value.0.0 taken.0 old step.0 fit.0 taken.2 step.1 in
    let more = fields_take t m (before ++ pair ∷ []) pairs next.0.1 q next.0.0 new fit.1 next.2 in
    let path = subst (λ (e : Entry). PathFrom (strings_in t) (lists_type 1 (before ++ pair ∷ [])) (first_of_type 1 more.fields) e.path new.path) (sym entry) more.path in
    let directory = subst (λ (e : Entry). DirectoryFrom m.directories (lists_type 2 (before ++ pair ∷ [])) (first_of_type 2 more.fields) e.directory new.directory) (sym entry) more.directory in
    let path' = subst (λ (seen : Bool). PathFrom (strings_in t) seen (first_of_type 1 more.fields) step.0.path new.path) (after_one 1 before pair) path in
    let directory' = subst (λ (seen : Bool). DirectoryFrom m.directories seen (first_of_type 2 more.fields) step.0.directory new.directory) (after_one 2 before pair) directory in
    record {
      fields = made ∷ more.fields;
      bytes = taken.0 ++ more.bytes;
      between = between_both p next.0.1 q taken.0 more.bytes (subst (λ (z : Input). Between p z taken.0) end taken.1) more.between;
      are_fields = (taken.0, more.bytes, refl {a = taken.0 ++ more.bytes}, taken.2, more.are_fields);
      by_pairs = ap (λ (ps : List Pair). pair ∷ ps) more.by_pairs;
      path = path_on (strings_in t) (eqb pair.content_type 1) (lists_type 1 before) (eqb pair.content_type 2) (lists_type 2 before) made (first_of_type 1 more.fields) old.path step.0.path new.path on.0 path';
      directory = directory_on m.directories (eqb pair.content_type 1) (lists_type 1 before) (eqb pair.content_type 2) (lists_type 2 before) made (first_of_type 2 more.fields) old.directory step.0.directory new.directory (apart_types pair.content_type) on.1 directory';
    }

pub fields_again : (t : Tables) (m : Measures) (fields : List Field) (before : List Pair) (p q : Input) (bytes : List ℕ) (old new : Entry) → Between p q bytes → AreEach (IsField m.sizes) bytes fields → AreFitting before (pairs_of fields) → PathFrom (strings_in t) (lists_type 1 before) (first_of_type 1 fields) old.path new.path → DirectoryFrom m.directories (lists_type 2 before) (first_of_type 2 fields) old.directory new.directory → entry_at t m (contents_of before (pairs_of fields)) old p ≡ Ok (new, q)
fields_again t m [] before p q bytes old new between are fit path directory =
    let here = none_between p q bytes between are in
    let same_path = path_kept (strings_in t) (lists_type 1 before) old.path new.path path in
    let same_directory = directory_kept m.directories (lists_type 2 before) old.directory new.directory directory in
    ap (λ (x : Entry × Input). Ok x) (λ i. (record { path = sym same_path i; directory = sym same_directory i }, here i))
fields_again t m (field ∷ fields) before p q bytes old new between are fit path directory =
    let cut = between_cut p q are.0 are.1 (subst (λ (xs : List ℕ). Between p q xs) are.2 between) in
    let z = ahead p (length are.0) in
    let code = field.pair.content_type in
    let paths = path_off (strings_in t) (eqb code 1) (lists_type 1 before) (eqb code 2) (lists_type 2 before) field (first_of_type 1 fields) old.path new.path path in
    let directories = directory_off m.directories (eqb code 1) (lists_type 1 before) (eqb code 2) (lists_type 2 before) field (first_of_type 2 fields) old.directory new.directory (apart_types code) directory in
    let mid : Entry = record { path = paths.0; directory = directories.0 } in
    let value = value_at-again m.sizes (layout_by_form field.pair.form) p z are.0 field.value cut.0 are.3 in
    let step = step_again t m (role_after before code) field.pair.form p.at field.value old mid fit.0 paths.1 directories.1 in
    let path' = subst (λ (seen : Bool). PathFrom (strings_in t) seen (first_of_type 1 fields) mid.path new.path) (sym (after_one 1 before field.pair)) paths.2 in
    let directory' = subst (λ (seen : Bool). DirectoryFrom m.directories seen (first_of_type 2 fields) mid.directory new.directory) (sym (after_one 2 before field.pair)) directories.2 in
    rw (value, step) (fields_again t m fields (before ++ field.pair ∷ []) z q are.1 mid new cut.1 are.4 fit.1 path' directory')
