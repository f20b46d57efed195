-- A format that is read is spelled by its bytes, and one that is spelled is read.
use Rattle.std.proofs.Common.{◌≡◌, ℕ, zero, suc, Bool, true, false, eqb, cond, List, [], ◌∷◌, ◌++◌, length, Option, Some, None, Ok, refl, ap, subst, ◌∙◌, sym, append_assoc, append-nil}
use Rattle.std.specs.Prelude.{◌||◌}
use Rattle.std.proofs.lemmas.List.Folds.{list_any-append}
use borrow.Author.Tests.{eqb-true}
use Rattle.mac_base.specs.Input.{Input, ahead}
use Rattle.mac_base.specs.Fields.{uleb_at}
use Rattle.mac_base.specs.Spelling.{Between}
use Rattle.mac_base.specs.declared.form.Form.{Form}
use Rattle.mac_base.specs.Forms.{form_by_code}
use Rattle.mac_base.proofs.Choices.{bind_ok, same_ok, guarded}
use Rattle.mac_base.proofs.InputLemmas.{between_both, between_cut, uleb_at-takes, uleb_at-again}
use Rattle.line_names.specs.declared.fault.LineFault.{LineFault}
use Rattle.line_names.specs.declared.format.Role.{Role}
use Rattle.line_names.specs.declared.format.Role.TheVariants.{Path, Directory, Other}
use Rattle.line_names.specs.declared.format.Content.{Content}
use Rattle.line_names.specs.Faults.{field}
use Rattle.line_names.specs.Format.{is_role, has_role, form_fits, role_by_code, fitting, content_at, contents_at}
use Rattle.line_names.specs.Spelling.{Pair, IsPair, AreEach, AreAllowed, lists_type, role_after}
use Rattle.line_names.proofs.Steps.{field_ok, between_same, none_between}

-- the content that a pair is after others
abbrev pub content_after : List Pair → Pair → Content
content_after before pair = record { role = role_after before pair.content_type; form = pair.form }

-- the contents that these pairs are after others
abbrev pub contents_of : List Pair → List Pair → List Content
contents_of before [] = []
contents_of before (pair ∷ pairs) = content_after before pair ∷ contents_of (before ++ pair ∷ []) pairs

-- the contents of a format, from its front on
contents_append : (before xs ys : List Pair) → contents_of before (xs ++ ys) ≡ contents_of before xs ++ contents_of (before ++ xs) ys
contents_append before [] ys = ap (λ (b : List Pair). contents_of b ys) (sym (append-nil before))
contents_append before (x ∷ xs) ys =
    ap (λ (cs : List Content). content_after before x ∷ cs)
    (contents_append (before ++ x ∷ []) xs ys ∙ ap (λ (b : List Pair). contents_of (before ++ x ∷ []) xs ++ contents_of b ys) (append_assoc before (x ∷ []) xs))

contents_one : (before : List Pair) (pair : Pair) → contents_of [] before ++ content_after before pair ∷ [] ≡ contents_of [] (before ++ pair ∷ [])
contents_one before pair = sym (contents_append [] before (pair ∷ []))

-- what a content is for, by whether it is of a type and whether one before it is
abbrev pub role_by : Bool → Bool → Bool → Bool → Role
role_by one path two directory = cond one (cond path Other Path) (cond two (cond directory Other Directory) Other)

path_test : (one path two directory more rest : Bool) → more ≡ cond (path || (one || false)) false rest → (is_role (role_by one path two directory) Path || more) ≡ cond path false (one || rest)
path_test true true two directory more rest is = is
path_test true false two directory more rest is = refl
path_test false true true true more rest is = is
path_test false true true false more rest is = is
path_test false true false directory more rest is = is
path_test false false true true more rest is = is
path_test false false true false more rest is = is
path_test false false false directory more rest is = is

directory_test : (one path two directory more rest : Bool) → (one ≡ true → two ≡ false) → more ≡ cond (directory || (two || false)) false rest → (is_role (role_by one path two directory) Directory || more) ≡ cond directory false (two || rest)
directory_test true path true directory more rest apart is = let no : true ≡ false = apart refl in cc
directory_test true true false true more rest apart is = is
directory_test true true false false more rest apart is = is
directory_test true false false true more rest apart is = is
directory_test true false false false more rest apart is = is
directory_test false path true true more rest apart is = is
directory_test false path true false more rest apart is = refl
directory_test false path false true more rest apart is = is
directory_test false path false false more rest apart is = is

pub apart_types : (code : ℕ) → eqb code 1 ≡ true → eqb code 2 ≡ false
apart_types code is = ap (λ n. eqb n 2) (eqb-true code 1 is)

pub after_one : (content_type : ℕ) (before : List Pair) (pair : Pair) → lists_type content_type (before ++ pair ∷ []) ≡ (lists_type content_type before || (eqb pair.content_type content_type || false))
after_one content_type before pair = list_any-append (λ (x : Pair). eqb x.content_type content_type) before (pair ∷ [])

no_more : (seen : Bool) → false ≡ cond seen false false
no_more true = refl
no_more false = refl

paths_are : (before pairs : List Pair) → has_role Path (contents_of before pairs) ≡ cond (lists_type 1 before) false (lists_type 1 pairs)
paths_are before [] = no_more (lists_type 1 before)
paths_are before (pair ∷ pairs) =
    let later = paths_are (before ++ pair ∷ []) pairs ∙ ap (λ seen. cond seen false (lists_type 1 pairs)) (after_one 1 before pair) in
    path_test (eqb pair.content_type 1) (lists_type 1 before) (eqb pair.content_type 2) (lists_type 2 before) (has_role Path (contents_of (before ++ pair ∷ []) pairs)) (lists_type 1 pairs) later

directories_are : (before pairs : List Pair) → has_role Directory (contents_of before pairs) ≡ cond (lists_type 2 before) false (lists_type 2 pairs)
directories_are before [] = no_more (lists_type 2 before)
directories_are before (pair ∷ pairs) =
    let later = directories_are (before ++ pair ∷ []) pairs ∙ ap (λ seen. cond seen false (lists_type 2 pairs)) (after_one 2 before pair) in
    directory_test (eqb pair.content_type 1) (lists_type 1 before) (eqb pair.content_type 2) (lists_type 2 before) (has_role Directory (contents_of (before ++ pair ∷ []) pairs)) (lists_type 2 pairs) (apart_types pair.content_type) later

-- a format has a path where a pair is of that type
pub has_path : (format : List Pair) → has_role Path (contents_of [] format) ≡ lists_type 1 format
has_path format = paths_are [] format

has_directory : (format : List Pair) → has_role Directory (contents_of [] format) ≡ lists_type 2 format
has_directory format = directories_are [] format

role_is : (before : List Pair) (code : ℕ) → role_by_code (contents_of [] before) code ≡ role_after before code
role_is before code =
    ap (λ seen. cond (eqb code 1) (cond seen Other Path) (cond (eqb code 2) (cond (has_role Directory (contents_of [] before)) Other Directory) Other)) (has_path before)
    ∙ ap (λ seen. cond (eqb code 1) (cond (lists_type 1 before) Other Path) (cond (eqb code 2) (cond seen Other Directory) Other)) (has_directory before)

-- each of these pairs may follow those before it
abbrev pub AreFitting : List Pair → List Pair → Type 0
AreFitting before [] = Unit {0}
AreFitting before (pair ∷ pairs) = (form_fits (role_after before pair.content_type) pair.form ≡ true) × AreFitting (before ++ pair ∷ []) pairs

fit_at : (seen before after : List Pair) (pair : Pair) (pairs : List Pair) → pairs ≡ before ++ pair ∷ after → AreFitting seen pairs → form_fits (role_after (seen ++ before) pair.content_type) pair.form ≡ true
fit_at seen [] after pair [] is fit = cc
fit_at seen [] after pair (x ∷ xs) is fit =
    let same : x ≡ pair = cc in
    let P : Pair → Type 0 = λ (y : Pair). form_fits (role_after (seen ++ []) y.content_type) y.form ≡ true in
    subst P same (ap (λ (b : List Pair). form_fits (role_after b x.content_type) x.form) (append-nil seen) ∙ fit.0)
fit_at seen (b ∷ bs) after pair [] is fit = cc
fit_at seen (b ∷ bs) after pair (x ∷ xs) is fit =
    let first : x ≡ b = cc in
    let more : xs ≡ bs ++ pair ∷ after = cc in
    let later = fit_at (seen ++ x ∷ []) bs after pair xs more fit.1 in
    ap (λ (front : List Pair). form_fits (role_after front pair.content_type) pair.form) (ap (λ (y : Pair). seen ++ y ∷ bs) (sym first) ∙ sym (append_assoc seen (x ∷ []) bs)) ∙ later

pub allowed_from : (format : List Pair) → AreFitting [] format → AreAllowed format
allowed_from format fit = λ before after pair is. fit_at [] before after pair format is fit

fit_from : (before pairs format : List Pair) → format ≡ before ++ pairs → AreAllowed format → AreFitting before pairs
fit_from before [] format is allowed = tt
fit_from before (pair ∷ pairs) format is allowed = (allowed before pairs pair is, fit_from (before ++ pair ∷ []) pairs format (is ∙ sym (append_assoc before (pair ∷ []) pairs)) allowed)

pub fitting_from : (format : List Pair) → AreAllowed format → AreFitting [] format
fitting_from format allowed = fit_from [] format format refl allowed

fitting_takes : (role : Role) (at : ℕ) (p q : Input) (o : Option Form) (content : Content) → fitting role at p o ≡ Ok (content, q) → (form : Form) × (o ≡ Some form) × (p ≡ q) × (form_fits role form ≡ true) × (content ≡ record { role = role; form = form })
fitting_takes role at p q None content is = cc
fitting_takes role at p q (Some form) content is =
    let parts = guarded (form_fits role form) (Ok (record { role = role; form = form }, p)) (content, q) _ is in
    let made : Content = record { role = role; form = form } in
    let same = same_ok {E = LineFault} (made, p) (content, q) parts.1 in
    (form, refl, ap (λ (x : Content × Input). x.1) same, parts.0, sym (ap (λ (x : Content × Input). x.0) same))

-- a content that is read is a pair
record TookPair (before : List Pair) (p q : Input) (content : Content) : Type 0 where
  pair : Pair
  bytes : List ℕ
  between : Between p q bytes
  is_pair : IsPair bytes pair
  is_content : content ≡ content_after before pair
  fits : form_fits (role_after before pair.content_type) pair.form ≡ true

pair_takes : (before : List Pair) (p q : Input) (content : Content) → content_at (contents_of [] before) p ≡ Ok (content, q) → TookPair before p q content
unfolding content_at
pair_takes before p q content is =
    let code = bind_ok (field (uleb_at p)) _ (content, q) is in
    let form = bind_ok (field (uleb_at code.0.1)) _ (content, q) code.2 in
    let one = uleb_at-takes p code.0.1 code.0.0 (field_ok (uleb_at p) code.0 code.1) in
    let two = uleb_at-takes code.0.1 form.0.1 form.0.0 (field_ok (uleb_at code.0.1) form.0 form.1) in
    let fit = fitting_takes (role_by_code (contents_of [] before) code.0.0) code.0.1.at form.0.1 q (form_by_code form.0.0) content form.2 in
    let made : Pair = record { content_type = code.0.0; form = fit.0 } in
    record {
      pair = made;
      bytes = one.0 ++ two.0;
      between = subst (λ (z : Input). Between p z (one.0 ++ two.0)) fit.2 (between_both p code.0.1 form.0.1 one.0 two.0 one.1 two.1);
      is_pair = record { type_bytes = one.0; form_bytes = two.0; form_code = form.0.0; spelled = refl; is_type = one.2; type_fits = one.3; is_code = two.2; code_fits = two.3; is_form = fit.1 };
      is_content = fit.4 ∙ ap (λ (r : Role). record { role = r; form = fit.0 }) (role_is before code.0.0);
      fits = ap (λ (r : Role). form_fits r fit.0) (sym (role_is before code.0.0)) ∙ fit.3;
    }

pair_again : (before : List Pair) (p q : Input) (bytes : List ℕ) (pair : Pair) → Between p q bytes → IsPair bytes pair → form_fits (role_after before pair.content_type) pair.form ≡ true → content_at (contents_of [] before) p ≡ Ok (content_after before pair, q)
unfolding content_at
pair_again before p q bytes pair between is fits =
    let cut = between_cut p q is.type_bytes is.form_bytes (subst (λ (xs : List ℕ). Between p q xs) is.spelled between) in
    let m = ahead p (length is.type_bytes) in
    let role = role_is before pair.content_type in
    let fit : form_fits (role_by_code (contents_of [] before) pair.content_type) pair.form ≡ true = ap (λ (r : Role). form_fits r pair.form) role ∙ fits in
    rw (uleb_at-again p m is.type_bytes pair.content_type cut.0 is.is_type is.type_fits, uleb_at-again m q is.form_bytes is.form_code cut.1 is.is_code is.code_fits, is.is_form, fit)
    (ap (λ (r : Role). Ok (record { role = r; form = pair.form }, q)) role)

-- the pairs that were read
pub record TookPairs (n : ℕ) (before : List Pair) (p q : Input) (contents : List Content) : Type 0 where
  pub pairs : List Pair
  pub bytes : List ℕ
  pub between : Between p q bytes
  pub are_pairs : AreEach IsPair bytes pairs
  pub long : length pairs ≡ n
  pub fit : AreFitting before pairs
  pub are_contents : contents ≡ contents_of [] (before ++ pairs)

pub pairs_take : (n : ℕ) (before : List Pair) (p q : Input) (contents : List Content) → contents_at n (contents_of [] before) p ≡ Ok (contents, q) → TookPairs n before p q contents
pairs_take zero before p q contents is =
    let same = same_ok {E = LineFault} (contents_of [] before, p) (contents, q) is in
    record {
      pairs = [];
      bytes = [];
      between = between_same p q (ap (λ (x : List Content × Input). x.1) same);
      are_pairs = refl;
      long = refl;
      fit = tt;
      are_contents = sym (ap (λ (x : List Content × Input). x.0) same) ∙ ap (contents_of []) (sym (append-nil before));
    }
pairs_take (suc n) before p q contents is =
    let first = bind_ok (content_at (contents_of [] before) p) _ (contents, q) is in
    let one = pair_takes before p first.0.1 first.0.0 first.1 in
    let grown : contents_of [] before ++ first.0.0 ∷ [] ≡ contents_of [] (before ++ one.pair ∷ []) = ap (λ (c : Content). contents_of [] before ++ c ∷ []) one.is_content ∙ contents_one before one.pair in
    let more = pairs_take n (before ++ one.pair ∷ []) first.0.1 q contents (ap (λ (cs : List Content). contents_at n cs first.0.1) (sym grown) ∙ first.2) in
    record {
      pairs = one.pair ∷ more.pairs;
      bytes = one.bytes ++ more.bytes;
      between = between_both p first.0.1 q one.bytes more.bytes one.between more.between;
      are_pairs = (one.bytes, more.bytes, refl {a = one.bytes ++ more.bytes}, one.is_pair, more.are_pairs);
      long = ap suc more.long;
      fit = (one.fits, more.fit);
      are_contents = more.are_contents ∙ ap (contents_of []) (append_assoc before (one.pair ∷ []) more.pairs);
    }

pub pairs_again : (pairs before : List Pair) (p q : Input) (bytes : List ℕ) → Between p q bytes → AreEach IsPair bytes pairs → AreFitting before pairs → contents_at (length pairs) (contents_of [] before) p ≡ Ok (contents_of [] (before ++ pairs), q)
pairs_again [] before p q bytes between are fit =
    ap (λ (z : Input). Ok (contents_of [] before, z)) (none_between p q bytes between are) ∙ ap (λ (cs : List Pair). Ok (contents_of [] cs, q)) (sym (append-nil before))
pairs_again (pair ∷ pairs) before p q bytes between are fit =
    let cut = between_cut p q are.0 are.1 (subst (λ (xs : List ℕ). Between p q xs) are.2 between) in
    let m = ahead p (length are.0) in
    rw (pair_again before p m are.0 pair cut.0 are.3 fit.0)
    (ap (λ (cs : List Content). contents_at (length pairs) cs m) (contents_one before pair)
    ∙ pairs_again pairs (before ++ pair ∷ []) m q are.1 cut.1 are.4 fit.1
    ∙ ap (λ (cs : List Pair). Ok (contents_of [] cs, q)) (append_assoc before (pair ∷ []) pairs))
