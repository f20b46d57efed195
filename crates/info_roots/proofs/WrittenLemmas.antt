-- What is written of roots has these roots.
use Rattle.std.proofs.Common.{◌≡◌, ◌≢◌, ℕ, suc, ◌+◌, ◌*◌, ◌%◌, ◌<◌, ◌≤◌, ◌^◌, Bool, true, false, eqb, List, [], ◌∷◌, ◌++◌, length, drop, map, Option, Some, None, Ok, refl, ap, subst, ◌∙◌, sym, arith, length-append, append-nil}
use Rattle.std.specs.Prelude.{All, IsFalse, filter_map}
use borrow.Author.Tests.{eqb-false}
use Rattle.mac_base.specs.declared.value.Sizes.{Sizes}
use Rattle.mac_base.specs.SectionBytes.{SectionBytes}
use Rattle.mac_base.specs.Spelling.{IsFixed}
use Rattle.mac_base.specs.Values.{Number, Text as Characters, offset_width}
use Rattle.mac_base.specs.Writing.{length_bytes, offset_bytes, string_bytes}
use Rattle.mac_base.proofs.WritingLemmas.{fixed_spelled, length_spelled}
use Rattle.info_roots.specs.declared.abbreviation.Attribute.{Attribute}
use Rattle.info_roots.specs.declared.root.Root.{Root}
use Rattle.info_roots.specs.Abbreviations.{Abbreviation, Declaration, ends}
use Rattle.info_roots.specs.AbbreviationSpelling.{IsUnsigned, IsAttribute, AreAttributes, IsDeclaration, IsDeclared}
use Rattle.info_roots.specs.EntrySpelling.{AttributeValue, AreValues, HaveForms, number_named, IsRoot}
use Rattle.info_roots.specs.UnitSpelling.{IsFirstEntry, CompileUnit, IsUnitBody, Compile, IsUnit, AreUnits, AreRoots}
use Rattle.info_roots.specs.Roots.{roots_in}
use Rattle.info_roots.specs.Written.{abbrev_bytes, code_for, optional_bytes, body_bytes, unit_bytes, info_bytes, Fits, IsWritable}
use Rattle.info_roots.proofs.BodyLemmas.{unit_long}
use Rattle.info_roots.proofs.UnitListLemmas.{roots_again}

-- a number below 128 is its own spelling
small : (n : ℕ) → n < 128 → IsUnsigned (n ∷ []) n
small n low = (record { digits = low; number = let same : n ≡ n % 128 + 128 * 0 = omega (arith, low) in same }, omega (arith, low))

attribute : (name form : ℕ) → name < 128 → form < 128 → eqb form 0x21 ≡ false → IsAttribute (name ∷ form ∷ []) (record { name = name; form = form })
attribute name form low also plain =
    record { name = name ∷ []; form = form ∷ []; constant = []; spelled = refl; is_name = small name low; is_form = small form also; is_constant = rw plain refl }

more : (name form : ℕ) (back : List ℕ) (attributes : List Attribute) → name < 128 → form < 128 → eqb form 0x21 ≡ false → IsFalse (ends (record { name = name; form = form })) → AreAttributes back attributes → AreAttributes (name ∷ form ∷ back) (record { name = name; form = form } ∷ attributes)
more name form back attributes low also plain some are = (name ∷ form ∷ [], back, refl, attribute name form low also plain, some, are)

last : AreAttributes (0 ∷ 0 ∷ []) []
last = attribute 0 0 (omega arith) (omega arith) refl

abbrev compile_unit : List Attribute → Abbreviation
compile_unit others = record { tag = 0x11; attributes = record { name = 0x03; form = 0x08 } ∷ record { name = 0x1b; form = 0x08 } ∷ record { name = 0x79; form = 0x17 } ∷ others }

abbrev line : Attribute
line = record { name = 0x10; form = 0x17 }

abbrev base : Attribute
base = record { name = 0x72; form = 0x17 }

declared : (code : ℕ) (back : List ℕ) (others : List Attribute) → 0 < code → code < 128 → AreAttributes back others → IsDeclaration (code ∷ 0x11 ∷ 0 ∷ 0x03 ∷ 0x08 ∷ 0x1b ∷ 0x08 ∷ 0x79 ∷ 0x17 ∷ back) (record { code = code; abbreviation = compile_unit others })
declared code back others some low are =
    let third = more 0x79 0x17 back others (omega arith) (omega arith) refl refl are in
    let second = more 0x1b 0x08 (0x79 ∷ 0x17 ∷ back) (record { name = 0x79; form = 0x17 } ∷ others) (omega arith) (omega arith) refl refl third in
    record {
      code = code ∷ [];
      tag = 0x11 ∷ [];
      children = 0;
      attributes = 0x03 ∷ 0x08 ∷ 0x1b ∷ 0x08 ∷ 0x79 ∷ 0x17 ∷ back;
      spelled = refl;
      is_code = small code low;
      no_end = λ none. absurd (omega (arith, some, none));
      is_tag = small 0x11 (omega arith);
      are_attributes = more 0x03 0x08 (0x1b ∷ 0x08 ∷ 0x79 ∷ 0x17 ∷ back) (record { name = 0x1b; form = 0x08 } ∷ record { name = 0x79; form = 0x17 } ∷ others) (omega arith) (omega arith) refl refl second;
    }

has_line : (back : List ℕ) (others : List Attribute) → AreAttributes back others → AreAttributes (0x10 ∷ 0x17 ∷ back) (line ∷ others)
has_line back others are = more 0x10 0x17 back others (omega arith) (omega arith) refl refl are

has_base : (back : List ℕ) (others : List Attribute) → AreAttributes back others → AreAttributes (0x72 ∷ 0x17 ∷ back) (base ∷ others)
has_base back others are = more 0x72 0x17 back others (omega arith) (omega arith) refl refl are

-- the attributes that a root has besides
abbrev others_of : Option ℕ → Option ℕ → List Attribute
others_of (Some l) None = line ∷ []
others_of (Some l) (Some b) = line ∷ base ∷ []
others_of None None = []
others_of None (Some b) = base ∷ []

abbrev first_bytes : List ℕ
first_bytes = 0x01 ∷ 0x11 ∷ 0x00 ∷ 0x03 ∷ 0x08 ∷ 0x1b ∷ 0x08 ∷ 0x79 ∷ 0x17 ∷ 0x10 ∷ 0x17 ∷ 0x00 ∷ 0x00 ∷ []

abbrev second_bytes : List ℕ
second_bytes = 0x02 ∷ 0x11 ∷ 0x00 ∷ 0x03 ∷ 0x08 ∷ 0x1b ∷ 0x08 ∷ 0x79 ∷ 0x17 ∷ 0x10 ∷ 0x17 ∷ 0x72 ∷ 0x17 ∷ 0x00 ∷ 0x00 ∷ []

abbrev third_bytes : List ℕ
third_bytes = 0x03 ∷ 0x11 ∷ 0x00 ∷ 0x03 ∷ 0x08 ∷ 0x1b ∷ 0x08 ∷ 0x79 ∷ 0x17 ∷ 0x00 ∷ 0x00 ∷ []

abbrev fourth_bytes : List ℕ
fourth_bytes = 0x04 ∷ 0x11 ∷ 0x00 ∷ 0x03 ∷ 0x08 ∷ 0x1b ∷ 0x08 ∷ 0x79 ∷ 0x17 ∷ 0x72 ∷ 0x17 ∷ 0x00 ∷ 0x00 ∷ []

abbrev declaration : ℕ → List Attribute → Declaration
declaration code others = record { code = code; abbreviation = compile_unit others }

first : IsDeclaration first_bytes (declaration 1 (line ∷ []))
first = declared 1 (0x10 ∷ 0x17 ∷ 0 ∷ 0 ∷ []) (line ∷ []) (omega arith) (omega arith) (has_line (0 ∷ 0 ∷ []) [] last)

second : IsDeclaration second_bytes (declaration 2 (line ∷ base ∷ []))
second = declared 2 (0x10 ∷ 0x17 ∷ 0x72 ∷ 0x17 ∷ 0 ∷ 0 ∷ []) (line ∷ base ∷ []) (omega arith) (omega arith) (has_line (0x72 ∷ 0x17 ∷ 0 ∷ 0 ∷ []) (base ∷ []) (has_base (0 ∷ 0 ∷ []) [] last))

third : IsDeclaration third_bytes (declaration 3 [])
third = declared 3 (0 ∷ 0 ∷ []) [] (omega arith) (omega arith) last

fourth : IsDeclaration fourth_bytes (declaration 4 (base ∷ []))
fourth = declared 4 (0x72 ∷ 0x17 ∷ 0 ∷ 0 ∷ []) (base ∷ []) (omega arith) (omega arith) (has_base (0 ∷ 0 ∷ []) [] last)

differ : (a b : ℕ) → eqb a b ≡ false → a ≢ b
differ a b not = eqb-false a b not

-- the table has each of the four
has_code : (l b : Option ℕ) (after : List ℕ) → IsDeclared (abbrev_bytes ++ after) (code_for l b) (compile_unit (others_of l b))
unfolding abbrev_bytes
has_code (Some l) None after =
    record { before = []; front = []; own = first_bytes; after = second_bytes ++ (third_bytes ++ (fourth_bytes ++ (0 ∷ after))); spelled = refl; are_before = refl; have_others = tt; is_own = first }
has_code (Some l) (Some b) after =
    record {
      before = declaration 1 (line ∷ []) ∷ [];
      front = first_bytes;
      own = second_bytes;
      after = third_bytes ++ (fourth_bytes ++ (0 ∷ after));
      spelled = refl;
      are_before = (first_bytes, [], refl, first, refl);
      have_others = (differ 1 2 refl, tt);
      is_own = second;
    }
has_code None None after =
    record {
      before = declaration 1 (line ∷ []) ∷ declaration 2 (line ∷ base ∷ []) ∷ [];
      front = first_bytes ++ second_bytes;
      own = third_bytes;
      after = fourth_bytes ++ (0 ∷ after);
      spelled = refl;
      are_before = (first_bytes, second_bytes, refl, first, (second_bytes, [], refl, second, refl));
      have_others = (differ 1 3 refl, (differ 2 3 refl, tt));
      is_own = third;
    }
has_code None (Some b) after =
    record {
      before = declaration 1 (line ∷ []) ∷ declaration 2 (line ∷ base ∷ []) ∷ declaration 3 [] ∷ [];
      front = first_bytes ++ (second_bytes ++ third_bytes);
      own = fourth_bytes;
      after = 0 ∷ after;
      spelled = refl;
      are_before = (first_bytes, second_bytes ++ third_bytes, refl, first, (second_bytes, third_bytes, refl, second, (third_bytes, [], refl, third, refl)));
      have_others = (differ 1 4 refl, (differ 2 4 refl, (differ 3 4 refl, tt)));
      is_own = fourth;
    }

-- the attributes of a written entry, with their values
abbrev text_value : ℕ → List ℕ → AttributeValue
text_value name text = record { attribute = record { name = name; form = 0x08 }; value = Characters text }

abbrev offset_value : ℕ → ℕ → AttributeValue
offset_value name n = record { attribute = record { name = name; form = 0x17 }; value = Number n }

abbrev other_values : Option ℕ → Option ℕ → List AttributeValue
other_values (Some l) None = offset_value 0x10 l ∷ []
other_values (Some l) (Some b) = offset_value 0x10 l ∷ offset_value 0x72 b ∷ []
other_values None None = []
other_values None (Some b) = offset_value 0x72 b ∷ []

abbrev values_of : Root → List AttributeValue
values_of root = text_value 0x03 root.name ∷ text_value 0x1b root.dir ∷ offset_value 0x79 root.macros ∷ other_values root.line root.str_base

abbrev entry_bytes : Root → List ℕ
entry_bytes root = string_bytes root.name ++ (string_bytes root.dir ++ (offset_bytes root.wide root.macros ++ (optional_bytes root.wide root.line ++ optional_bytes root.wide root.str_base)))

abbrev sizes_of : Root → Sizes
sizes_of root = record { wide = root.wide; address = 8 }

offset_spelled : (wide : Bool) (n : ℕ) → n < 256 ^ offset_width wide → IsFixed (offset_width wide) (offset_bytes wide n) n
offset_spelled wide n fits = fixed_spelled (offset_width wide) n fits

others_spelled : (sizes : Sizes) (l b : Option ℕ) → Fits sizes.wide l → Fits sizes.wide b → AreValues sizes (optional_bytes sizes.wide l ++ optional_bytes sizes.wide b) (other_values l b)
others_spelled sizes (Some l) None fits _ =
    (offset_bytes sizes.wide l, [], refl, (l, offset_spelled sizes.wide l fits, refl), refl)
others_spelled sizes (Some l) (Some b) fits also =
    (offset_bytes sizes.wide l, offset_bytes sizes.wide b, refl, (l, offset_spelled sizes.wide l fits, refl), (offset_bytes sizes.wide b, [], sym (append-nil (offset_bytes sizes.wide b)), (b, offset_spelled sizes.wide b also, refl), refl))
others_spelled sizes None None _ _ = refl
others_spelled sizes None (Some b) _ also = (offset_bytes sizes.wide b, [], sym (append-nil (offset_bytes sizes.wide b)), (b, offset_spelled sizes.wide b also, refl), refl)

values_spelled : (root : Root) → IsWritable root → AreValues (sizes_of root) (entry_bytes root) (values_of root)
values_spelled root fits = (
  string_bytes root.name,
  string_bytes root.dir ++ (offset_bytes root.wide root.macros ++ (optional_bytes root.wide root.line ++ optional_bytes root.wide root.str_base)),
  refl,
  (root.name, record { ends = refl; no_nul = fits.name }, refl),
  (
    string_bytes root.dir,
    offset_bytes root.wide root.macros ++ (optional_bytes root.wide root.line ++ optional_bytes root.wide root.str_base),
    refl,
    (root.dir, record { ends = refl; no_nul = fits.dir }, refl),
    (
      offset_bytes root.wide root.macros,
      optional_bytes root.wide root.line ++ optional_bytes root.wide root.str_base,
      refl,
      (root.macros, offset_spelled root.wide root.macros fits.macros, refl),
      others_spelled (sizes_of root) root.line root.str_base fits.line fits.str_base,
    ),
  ),
)

others_listed : (l b : Option ℕ) → map (λ v. v.attribute) (other_values l b) ≡ others_of l b
others_listed (Some l) None = refl
others_listed (Some l) (Some b) = refl
others_listed None None = refl
others_listed None (Some b) = refl

values_listed : (root : Root) → map (λ v. v.attribute) (values_of root) ≡ (compile_unit (others_of root.line root.str_base)).attributes
values_listed root = ap (λ others. (compile_unit others).attributes) (others_listed root.line root.str_base)

-- each attribute has a form that it can have, and says what the root has
record Says (name dir : List ℕ) (macros : ℕ) (l b : Option ℕ) : Type 0 where
  forms : HaveForms (text_value 0x03 name ∷ text_value 0x1b dir ∷ offset_value 0x79 macros ∷ other_values l b)
  is_line : number_named 0x10 (other_values l b) ≡ l
  is_base : number_named 0x72 (other_values l b) ≡ b

says : (name dir : List ℕ) (macros : ℕ) (l b : Option ℕ) → Says name dir macros l b
says name dir macros (Some l) None = record { forms = record { name = refl; dir = refl; line = refl; str_base = tt; macros = refl }; is_line = refl; is_base = refl }
says name dir macros (Some l) (Some b) = record { forms = record { name = refl; dir = refl; line = refl; str_base = refl; macros = refl }; is_line = refl; is_base = refl }
says name dir macros None None = record { forms = record { name = refl; dir = refl; line = tt; str_base = tt; macros = refl }; is_line = refl; is_base = refl }
says name dir macros None (Some b) = record { forms = record { name = refl; dir = refl; line = tt; str_base = refl; macros = refl }; is_line = refl; is_base = refl }

root_said : (s : SectionBytes) (root : Root) → IsRoot s root.wide (values_of root) root
root_said s root =
    let said = says root.name root.dir root.macros root.line root.str_base in
    record { name = refl; dir = refl; macros = refl; line = said.is_line; str_base = said.is_base; is_wide = refl }

low_code : (l b : Option ℕ) → (0 < code_for l b) × (code_for l b < 128)
low_code (Some l) None = (omega arith, omega arith)
low_code (Some l) (Some b) = (omega arith, omega arith)
low_code None None = (omega arith, omega arith)
low_code None (Some b) = (omega arith, omega arith)

entry_spelled : (s : SectionBytes) (after : List ℕ) (root : Root) → s.abbrevs ≡ abbrev_bytes ++ after → IsWritable root →
    IsFirstEntry s (sizes_of root) (drop 0 s.abbrevs) (code_for root.line root.str_base ∷ entry_bytes root) (Some root)
entry_spelled s after root table fits =
    let code = code_for root.line root.str_base in
    let low = low_code root.line root.str_base in
    let a = compile_unit (others_of root.line root.str_base) in
    let is_declared : IsDeclared (drop 0 s.abbrevs) code a = subst (λ (xs : List ℕ). IsDeclared xs code a) (sym table) (has_code root.line root.str_base after) in
    let said = says root.name root.dir root.macros root.line root.str_base in
    CompileUnit (code ∷ []) (entry_bytes root) [] code a (values_of root) (Some root) (ap (λ (xs : List ℕ). code ∷ xs) (sym (append-nil (entry_bytes root)))) (small code low.1) (λ none. absurd (omega (arith, low.0, none))) is_declared refl
    (values_listed root) (values_spelled root fits) said.forms (root_said s root)

some_width : (wide : Bool) → 0 < 256 ^ offset_width wide
some_width true = omega arith
some_width false = omega arith

some_abbrevs : (after : List ℕ) → 0 < length (abbrev_bytes ++ after)
unfolding abbrev_bytes
some_abbrevs after = omega arith

body_spelled : (s : SectionBytes) (after : List ℕ) (root : Root) → s.abbrevs ≡ abbrev_bytes ++ after → IsWritable root → IsUnitBody s root.wide (body_bytes root) (Some root)
unfolding body_bytes
body_spelled s after root table fits =
    Compile (5 ∷ 0 ∷ []) (offset_bytes root.wide 0) (code_for root.line root.str_base ∷ entry_bytes root) 8 0 (Some root) refl (record { long = refl; number = refl }) (offset_spelled root.wide 0 (some_width root.wide))
    (rw table (some_abbrevs after)) (entry_spelled s after root table fits)

pub unit_spelled : (s : SectionBytes) (after : List ℕ) (root : Root) → s.abbrevs ≡ abbrev_bytes ++ after → IsWritable root → length (body_bytes root) < 0xffff_fff0 → IsUnit s (unit_bytes root) (Some root)
unfolding unit_bytes
unit_spelled s after root table fits low =
    record {
      wide = root.wide;
      front = length_bytes root.wide (length (body_bytes root));
      body = body_bytes root;
      spelled = refl;
      is_length = length_spelled root.wide (length (body_bytes root)) low;
      is_body = body_spelled s after root table fits;
    }

units_spelled : (s : SectionBytes) (after : List ℕ) (roots : List Root) → s.abbrevs ≡ abbrev_bytes ++ after → All IsWritable roots → length (info_bytes roots) ≤ 1073741824 → AreUnits s (info_bytes roots) (map (λ root. Some root) roots)
units_spelled s after [] table fit low = refl
units_spelled s after (root ∷ roots) table fit low =
    let whole = length-append (unit_bytes root) (info_bytes roots) in
    let here : length (body_bytes root) < 0xffff_fff0 = omega (arith, low, whole, unit_long root) in
    let left : length (info_bytes roots) ≤ 1073741824 = omega (arith, low, whole) in
    (unit_bytes root, info_bytes roots, refl, unit_spelled s after root table (fit 0 root (omega arith)) here, units_spelled s after roots table (λ k d within. fit (suc k) d (omega (arith, within))) left)

all_there : (roots : List Root) → roots ≡ filter_map (λ unit. unit) (map (λ root. Some root) roots)
all_there [] = refl
all_there (root ∷ roots) = ap (λ (xs : List Root). root ∷ xs) (all_there roots)

pub roots_spelled : (s : SectionBytes) (after : List ℕ) (roots : List Root) → s.info ≡ info_bytes roots → s.abbrevs ≡ abbrev_bytes ++ after → All IsWritable roots → length roots ≤ 65536 → length (info_bytes roots) ≤ 1073741824 → AreRoots s roots
roots_spelled s after roots info table fit few low =
    record { units = map (λ root. Some root) roots; are_units = subst (λ (xs : List ℕ). AreUnits s xs (map (λ root. Some root) roots)) (sym info) (units_spelled s after roots table fit low); has_roots = all_there roots; few = few }

pub written_again : (s : SectionBytes) (roots : List Root) → s.info ≡ info_bytes roots → s.abbrevs ≡ abbrev_bytes → All IsWritable roots → length roots ≤ 65536 → length (info_bytes roots) ≤ 1073741824 → roots_in s ≡ Ok roots
written_again s roots info table fit few low = roots_again s roots (roots_spelled s [] roots info (table ∙ sym (append-nil abbrev_bytes)) fit few low)
