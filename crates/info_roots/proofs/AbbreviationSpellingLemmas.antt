-- An abbreviation that is read is spelled by its bytes, and one that is spelled is read.
use Rattle.std.proofs.Common.{◌≡◌, ◌≢◌, ℕ, zero, suc, ◌+◌, ◌-◌, ◌<◌, ◌≤◌, Bool, true, false, eqb, cond, List, [], ◌∷◌, ◌++◌, length, drop, Option, Some, None, Result, Ok, Err, inl, inr, refl, ap, subst, ◌∙◌, sym, arith, length-append, length-drop, append_assoc, append-nil}
use Rattle.std.specs.List.{AllByRecursion}
use Rattle.std.proofs.lemmas.Bool.{and_parts}
use borrow.Author.Tests.{eqb-true, eqb-false, apart_eqb, eq-eqb}
use Rattle.mac_base.specs.Input.{Input, rest, ◌>>=◌}
use Rattle.mac_base.specs.declared.cursor.CursorFault.{CursorFault}
use Rattle.mac_base.specs.Fields.{number_at, uleb_at, sleb_at}
use Rattle.mac_base.proofs.Choices.{bind_ok, same_ok, same_some, none_is_no_some, chosen}
use Rattle.info_roots.specs.declared.abbreviation.Attribute.{Attribute}
use Rattle.info_roots.specs.Abbreviations.{Abbreviation, Declaration, attribute_at, ends, attributes_at, after_code, declaration_at, found_by, declared_in, abbreviation_in}
use Rattle.info_roots.specs.AbbreviationSpelling.{IsUnsigned, IsConstant, IsAttribute, AreAttributes, IsDeclaration, AreDeclarations, IsDeclared}
use Rattle.info_roots.proofs.AbbreviationLemmas.{attributes_more, attributes_end, declared_more}
use Rattle.info_roots.proofs.PrefixLemmas.{Leaves, joined, parted, uleb_takes, uleb_again, sleb_takes, sleb_again, byte_takes, byte_again, digits_long}

abbrev with_constant : Bool → ℕ → ℕ → Input → Result (Attribute × Input) CursorFault
with_constant t name form p = cond t (sleb_at p >>= λ value. Ok (record { name = name; form = form }, value.1)) (Ok (record { name = name; form = form }, p))

constant_takes : (t : Bool) (name form : ℕ) (p q : Input) (a : Attribute) → with_constant t name form p ≡ Ok (a, q) → (bytes : List ℕ) × (rest p ≡ bytes ++ rest q) × IsConstant t bytes × (record { name = name; form = form } ≡ a)
constant_takes true name form p q a is =
    let read = bind_ok (sleb_at p) _ (a, q) is in
    let found = sleb_takes p read.0.1 read.0.0 read.1 in
    let same = same_ok {E = CursorFault} (record { name = name; form = form }, read.0.1) (a, q) read.2 in
    (found.0, found.1 ∙ ap (λ (z : Attribute × Input). found.0 ++ rest z.1) same, (read.0.0, found.2, found.3), ap (λ (z : Attribute × Input). z.0) same)
constant_takes false name form p q a is =
    let same = same_ok {E = CursorFault} (record { name = name; form = form }, p) (a, q) is in
    ([], ap (λ (z : Attribute × Input). rest z.1) same, refl, ap (λ (z : Attribute × Input). z.0) same)

constant_again : (t : Bool) (name form : ℕ) (p : Input) (bytes more : List ℕ) → rest p ≡ bytes ++ more → IsConstant t bytes → Leaves (with_constant t name form p) (record { name = name; form = form }) more
constant_again true name form p bytes more is spelled =
    let read = sleb_again p bytes more spelled.0 is spelled.1 spelled.2 in
    (read.0, rw read.1 refl, read.2)
constant_again false name form p bytes more is spelled = (p, refl, is ∙ ap (λ (xs : List ℕ). xs ++ more) spelled)

pub attribute_takes : (p q : Input) (a : Attribute) → attribute_at p ≡ Ok (a, q) → (bytes : List ℕ) × (rest p ≡ bytes ++ rest q) × IsAttribute bytes a
unfolding attribute_at
attribute_takes p q a is =
    let name = bind_ok (uleb_at p) _ (a, q) is in
    let form = bind_ok (uleb_at name.0.1) _ (a, q) name.2 in
    let x = uleb_takes p name.0.1 name.0.0 name.1 in
    let y = uleb_takes name.0.1 form.0.1 form.0.0 form.1 in
    let z = constant_takes (eqb form.0.0 0x21) name.0.0 form.0.0 form.0.1 q a form.2 in
    let all = joined (rest p) x.0 (y.0 ++ z.0) (rest name.0.1) (rest q) x.1 (joined (rest name.0.1) y.0 z.0 (rest form.0.1) (rest q) y.1 z.1) in
    (x.0 ++ (y.0 ++ z.0), all, subst (IsAttribute (x.0 ++ (y.0 ++ z.0))) z.3 (record { name = x.0; form = y.0; constant = z.0; spelled = refl; is_name = x.2; is_form = y.2; is_constant = z.2 }))

pub attribute_again : (p : Input) (bytes more : List ℕ) (a : Attribute) → rest p ≡ bytes ++ more → IsAttribute bytes a → Leaves (attribute_at p) a more
unfolding attribute_at
attribute_again p bytes more a is spelled =
    let name = uleb_again p spelled.name ((spelled.form ++ spelled.constant) ++ more) a.name (parted (rest p) bytes spelled.name (spelled.form ++ spelled.constant) more is spelled.spelled) spelled.is_name in
    let form = uleb_again name.0 spelled.form (spelled.constant ++ more) a.form (name.2 ∙ append_assoc spelled.form spelled.constant more) spelled.is_form in
    let constant = constant_again (eqb a.form 0x21) a.name a.form form.0 spelled.constant more form.2 spelled.is_constant in
    (constant.0, rw (name.1, form.1) constant.1, constant.2)

pub attribute_long : (bytes : List ℕ) (a : Attribute) → IsAttribute bytes a → 0 < length bytes
attribute_long bytes a is =
    let long = digits_long is.name is.is_name.0.digits in
    rw is.spelled (omega (arith, length-append is.name (is.form ++ is.constant), long))

ended : (a : Attribute) → ends a ≡ true → a ≡ record { name = 0; form = 0 }
ended a is =
    let both = and_parts (eqb a.name 0) (eqb a.form 0) is in
    let name = eqb-true a.name 0 both.0 in
    let form = eqb-true a.form 0 both.1 in
    λ i. record { name = name i; form = form i }

abbrev after_one : ℕ → List Attribute → Attribute × Input → Result (List Attribute × Input) CursorFault
after_one n before a = cond (ends a.0) (Ok (before, a.1)) (attributes_at n (before ++ a.0 ∷ []) a.1)

pub attributes_takes : (n : ℕ) (before : List Attribute) (p q : Input) (all : List Attribute) → attributes_at n before p ≡ Ok (all, q) → (more : List Attribute) × (bytes : List ℕ) × (rest p ≡ bytes ++ rest q) × AreAttributes bytes more × (all ≡ before ++ more)
attributes_takes zero before p q all is = cc
attributes_takes (suc n) before p q all is =
    let read = bind_ok (attribute_at p) (after_one n before) (all, q) is in
    let one = attribute_takes p read.0.1 read.0.0 read.1 in
    elim (chosen (ends read.0.0) (Ok (before, read.0.1)) (attributes_at n (before ++ read.0.0 ∷ []) read.0.1) (Ok (all, q)) read.2) [
      | inl last ↦
          let same = same_ok {E = CursorFault} (before, read.0.1) (all, q) last.1 in
          ([], one.0, one.1 ∙ ap (λ (z : List Attribute × Input). one.0 ++ rest z.1) same, subst (IsAttribute one.0) (ended read.0.0 last.0) one.2, sym (ap (λ (z : List Attribute × Input). z.0) same) ∙ sym (append-nil before))
      | inr other ↦
          let more = attributes_takes n (before ++ read.0.0 ∷ []) read.0.1 q all other.1 in
          (read.0.0 ∷ more.0, one.0 ++ more.1, joined (rest p) one.0 more.1 (rest read.0.1) (rest q) one.1 more.2, (one.0, more.1, refl {a = one.0 ++ more.1}, one.2, other.0, more.3), more.4 ∙ append_assoc before (read.0.0 ∷ []) more.0)
    ]

pub attributes_again : (more : List Attribute) (n : ℕ) (before : List Attribute) (p : Input) (bytes after : List ℕ) → length (rest p) ≤ n → rest p ≡ bytes ++ after → AreAttributes bytes more → Leaves (attributes_at n before p) (before ++ more) after
attributes_again [] n before p bytes after few is are =
    let one = attribute_again p bytes after (record { name = 0; form = 0 }) is are in
    let some : 0 < n = omega (arith, few, ap length is, length-append bytes after, attribute_long bytes (record { name = 0; form = 0 }) are) in
    (one.0, attributes_end n before p one.0 (record { name = 0; form = 0 }) some one.1 refl ∙ ap (λ (xs : List Attribute). Ok (xs, one.0)) (sym (append-nil before)), one.2)
attributes_again (a ∷ more) n before p bytes after few is are =
    let one = attribute_again p are.0 (are.1 ++ after) a (parted (rest p) bytes are.0 are.1 after is are.2) are.3 in
    let long = attribute_long are.0 a are.3 in
    let whole : length (rest p) ≡ length are.0 + length (are.1 ++ after) = ap length (parted (rest p) bytes are.0 are.1 after is are.2) ∙ length-append are.0 (are.1 ++ after) in
    let some : 0 < n = omega (arith, few, whole, long) in
    let left : length (rest one.0) ≤ n - 1 = rw one.2 (omega (arith, few, whole, long)) in
    let rec = attributes_again more (n - 1) (before ++ a ∷ []) one.0 are.1 after left one.2 are.5 in
    (rec.0, attributes_more n before p one.0 a some one.1 are.4 ∙ rec.1 ∙ ap (λ (xs : List Attribute). Ok (xs, rec.0)) (append_assoc before (a ∷ []) more), rec.2)

with_code : (most : ℕ) (p q : Input) (code : ℕ × Input) (d : Declaration) → after_code most code ≡ Ok (Some d, q) → (tag attributes : List ℕ) × (children : ℕ) × (rest code.1 ≡ (tag ++ children ∷ attributes) ++ rest q) × (d.code ≡ code.0) × IsUnsigned tag d.abbreviation.tag × AreAttributes attributes d.abbreviation.attributes
with_code most p q code d is =
    let tag = bind_ok (uleb_at code.1) _ (Some d, q) is in
    let children = bind_ok (number_at 1 tag.0.1) _ (Some d, q) tag.2 in
    let attributes = bind_ok (attributes_at most [] children.0.1) _ (Some d, q) children.2 in
    let x = uleb_takes code.1 tag.0.1 tag.0.0 tag.1 in
    let y = byte_takes tag.0.1 children.0.1 children.0.0 children.1 in
    let z = attributes_takes most [] children.0.1 attributes.0.1 attributes.0.0 attributes.1 in
    let same = same_ok {E = CursorFault} (Some (record { code = code.0; abbreviation = record { tag = tag.0.0; attributes = attributes.0.0 } }), attributes.0.1) (Some d, q) attributes.2 in
    let found = same_some (record { code = code.0; abbreviation = record { tag = tag.0.0; attributes = attributes.0.0 } }) d (ap (λ (w : Option Declaration × Input). w.0) same) in
    let left = joined (rest code.1) x.0 (children.0.0 ∷ z.1) (rest tag.0.1) (rest attributes.0.1) x.1 (y ∙ ap (λ (xs : List ℕ). children.0.0 ∷ xs) z.2) in (
      x.0,
      z.1,
      children.0.0,
      left ∙ ap (λ (w : Option Declaration × Input). (x.0 ++ children.0.0 ∷ z.1) ++ rest w.1) same,
      sym (ap (λ (w : Declaration). w.code) found),
      subst (IsUnsigned x.0) (ap (λ (w : Declaration). w.abbreviation.tag) found) x.2,
      subst (AreAttributes z.1) (sym z.4 ∙ ap (λ (w : Declaration). w.abbreviation.attributes) found) z.3,
    )

pub declaration_takes : (most : ℕ) (p q : Input) (d : Declaration) → declaration_at most p ≡ Ok (Some d, q) → (bytes : List ℕ) × (rest p ≡ bytes ++ rest q) × IsDeclaration bytes d
unfolding declaration_at
declaration_takes most p q d is =
    let code = bind_ok (uleb_at p) _ (Some d, q) is in
    let x = uleb_takes p code.0.1 code.0.0 code.1 in
    elim (chosen (eqb code.0.0 0) (Ok (None, code.0.1)) (after_code most code.0) (Ok (Some d, q)) code.2) [
      | inl end ↦ absurd (none_is_no_some d (ap (λ (w : Option Declaration × Input). w.0) (same_ok {E = CursorFault} (None, code.0.1) (Some d, q) end.1)))
      | inr some ↦
          let y = with_code most p q code.0 d some.1 in
          let body = y.0 ++ y.2 ∷ y.1 in (
            x.0 ++ body,
            joined (rest p) x.0 body (rest code.0.1) (rest q) x.1 y.3,
            record {
              code = x.0;
              tag = y.0;
              children = y.2;
              attributes = y.1;
              spelled = refl;
              is_code = subst (IsUnsigned x.0) (sym y.4) x.2;
              no_end = subst (λ n. n ≢ 0) (sym y.4) (eqb-false code.0.0 0 some.0);
              is_tag = y.5;
              are_attributes = y.6;
            },
          )
    ]

pub declaration_again : (most : ℕ) (p : Input) (bytes after : List ℕ) (d : Declaration) → length (rest p) ≤ most → rest p ≡ bytes ++ after → IsDeclaration bytes d → Leaves (declaration_at most p) (Some d) after
unfolding declaration_at
declaration_again most p bytes after d few is spelled =
    let back = spelled.tag ++ spelled.children ∷ spelled.attributes in
    let at_code = parted (rest p) bytes spelled.code back after is spelled.spelled in
    let code = uleb_again p spelled.code (back ++ after) d.code at_code spelled.is_code in
    let at_tag = code.2 ∙ append_assoc spelled.tag (spelled.children ∷ spelled.attributes) after in
    let tag = uleb_again code.0 spelled.tag (spelled.children ∷ (spelled.attributes ++ after)) d.abbreviation.tag at_tag spelled.is_tag in
    let children = byte_again tag.0 spelled.children (spelled.attributes ++ after) tag.2 in
    let whole : length (rest p) ≡ length spelled.code + (length spelled.tag + suc (length (spelled.attributes ++ after))) = ap length at_code ∙ length-append spelled.code (back ++ after) ∙ ap (λ n. length spelled.code + n) (ap length (append_assoc spelled.tag (spelled.children ∷ spelled.attributes) after) ∙ length-append spelled.tag (spelled.children ∷ (spelled.attributes ++ after))) in
    let left : length (rest children.0) ≤ most = rw children.2 (omega (arith, few, whole)) in
    let attributes = attributes_again d.abbreviation.attributes most [] children.0 spelled.attributes after left children.2 spelled.are_attributes in
    (attributes.0, rw (code.1, apart_eqb d.code 0 spelled.no_end, tag.1, children.1, attributes.1) refl, attributes.2)

pub declaration_long : (bytes : List ℕ) (d : Declaration) → IsDeclaration bytes d → 0 < length bytes
declaration_long bytes d is =
    let long = digits_long is.code is.is_code.0.digits in
    rw is.spelled (omega (arith, length-append is.code (is.tag ++ is.children ∷ is.attributes), long))

found_here : (table : List ℕ) (code : ℕ) (bytes after : List ℕ) (d : Declaration) → table ≡ bytes ++ after → IsDeclaration bytes d → d.code ≡ code → IsDeclared table code d.abbreviation
found_here table code bytes after d is spelled same =
    record { before = []; front = []; own = bytes; after = after; spelled = is; are_before = refl; have_others = tt; is_own = subst (λ n. IsDeclaration bytes (record { code = n; abbreviation = d.abbreviation })) same spelled }

found_later : (table : List ℕ) (code : ℕ) (bytes more : List ℕ) (d : Declaration) (a : Abbreviation) → table ≡ bytes ++ more → IsDeclaration bytes d → d.code ≢ code → IsDeclared more code a → IsDeclared table code a
found_later table code bytes more d a is spelled other later =
    record {
      before = d ∷ later.before;
      front = bytes ++ later.front;
      own = later.own;
      after = later.after;
      spelled = joined table bytes later.front more (later.own ++ later.after) is later.spelled;
      are_before = (bytes, later.front, refl {a = bytes ++ later.front}, spelled, later.are_before);
      have_others = (other, later.have_others);
      is_own = later.is_own;
    }

one_takes : (most code : ℕ) (next : Input → Option Abbreviation) (p : Input) (a : Abbreviation) (o : Option Declaration) (q : Input) → ((z : Input) → next z ≡ Some a → IsDeclared (rest z) code a) →
    declaration_at most p ≡ Ok (o, q) → found_by code next (Ok (o, q)) ≡ Some a → IsDeclared (rest p) code a
one_takes most code next p a None q later was is = cc
one_takes most code next p a (Some d) q later was is =
    let one = declaration_takes most p q d was in
    elim (chosen (eqb d.code code) (Some d.abbreviation) (next q) (Some a) is) [
      | inl here ↦ subst (IsDeclared (rest p) code) (same_some d.abbreviation a here.1) (found_here (rest p) code one.0 (rest q) d one.1 one.2 (eqb-true d.code code here.0))
      | inr other ↦ found_later (rest p) code one.0 (rest q) d a one.1 one.2 (eqb-false d.code code other.0) (later q other.1)
    ]

read_takes : (most code : ℕ) (next : Input → Option Abbreviation) (p : Input) (a : Abbreviation) (read : Result (Option Declaration × Input) CursorFault) → ((z : Input) → next z ≡ Some a → IsDeclared (rest z) code a) →
    declaration_at most p ≡ read → found_by code next read ≡ Some a → IsDeclared (rest p) code a
read_takes most code next p a (Err fault) later was is = cc
read_takes most code next p a (Ok read) later was is = one_takes most code next p a read.0 read.1 later was is

-- what is found in a table is the first with its code
pub declared_takes : (n most code : ℕ) (p : Input) (a : Abbreviation) → declared_in most n code p ≡ Some a → IsDeclared (rest p) code a
declared_takes zero most code p a is = cc
declared_takes (suc n) most code p a is = read_takes most code (declared_in most n code) p a (declaration_at most p) (λ z found. declared_takes n most code z a found) refl is

found_first : (n most code : ℕ) (p : Input) (a : Abbreviation) (q : Input) → 0 < n → declaration_at most p ≡ Ok (Some (record { code = code; abbreviation = a }), q) → declared_in most n code p ≡ Some a
found_first zero most code p a q some read = absurd (omega arith)
found_first (suc n) most code p a q some read =
    ap (found_by code (declared_in most n code)) read ∙ ap (λ t. cond t (Some a) (declared_in most n code q)) (eq-eqb code code refl)

-- and the first with its code is found
pub declared_again : (before : List Declaration) (n most code : ℕ) (p : Input) (a : Abbreviation) (front own after : List ℕ) → length (rest p) ≤ n → length (rest p) ≤ most → rest p ≡ front ++ (own ++ after) → AreDeclarations front before → AllByRecursion (λ d. d.code ≢ code) before →
    IsDeclaration own (record { code = code; abbreviation = a }) → declared_in most n code p ≡ Some a
declared_again [] n most code p a front own after few fits is are others own_is =
    let here : rest p ≡ own ++ after = is ∙ ap (λ (xs : List ℕ). xs ++ (own ++ after)) are in
    let one = declaration_again most p own after (record { code = code; abbreviation = a }) fits here own_is in
    let some : 0 < n = omega (arith, few, ap length here, length-append own after, declaration_long own (record { code = code; abbreviation = a }) own_is) in
    found_first n most code p a one.0 some one.1
declared_again (d ∷ before) n most code p a front own after few fits is are others own_is =
    let here = parted (rest p) front are.0 are.1 (own ++ after) is are.2 in
    let one = declaration_again most p are.0 (are.1 ++ (own ++ after)) d fits here are.3 in
    let whole : length (rest p) ≡ length are.0 + length (are.1 ++ (own ++ after)) = ap length here ∙ length-append are.0 (are.1 ++ (own ++ after)) in
    let long = declaration_long are.0 d are.3 in
    let some : 0 < n = omega (arith, few, whole, long) in
    let left : length (rest one.0) ≤ n - 1 = rw one.2 (omega (arith, few, whole, long)) in
    let fits_on : length (rest one.0) ≤ most = rw one.2 (omega (arith, fits, whole)) in
    declared_more most n code p one.0 d some one.1 (apart_eqb d.code code others.0) ∙ declared_again before (n - 1) most code one.0 a are.1 own after left fits_on one.2 are.4 others.1 own_is

pub abbreviation_takes : (section : List ℕ) (offset code : ℕ) (a : Abbreviation) → abbreviation_in section offset code ≡ Some a → IsDeclared (drop offset section) code a
abbreviation_takes section offset code a is = declared_takes (length section) (length section) code (record { bytes = section; at = offset }) a is

pub abbreviation_again : (section : List ℕ) (offset code : ℕ) (a : Abbreviation) → IsDeclared (drop offset section) code a → abbreviation_in section offset code ≡ Some a
abbreviation_again section offset code a is =
    let few : length (drop offset section) ≤ length section = omega (arith, length-drop offset section) in
    declared_again is.before (length section) (length section) code (record { bytes = section; at = offset }) a is.front is.own is.after few few is.spelled is.are_before is.have_others is.is_own
