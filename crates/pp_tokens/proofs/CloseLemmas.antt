-- Which texts stay without a kind when more follows.
use Rattle.std.proofs.Common.{◌≡◌, ℕ, ◌≤◌, eqb, Bool, true, false, not, ◌&&◌, ◌||◌, List, [], ◌∷◌, ◌++◌, length, None, refl, sym, ◌∙◌, ap, arith, eq-eqb}
use Rattle.std.specs.List.{list_any, list_all}
use Rattle.std.specs.Cmp.Lexicographic.{same_text}
use Rattle.std.proofs.lemmas.Bool.{and_parts, false_from_ne_true}
use Rattle.pp_tokens.specs.Kinds.{same, is_letter, is_word, is_quote, is_blank, is_identifier, goes_on, is_number_rest, begins_number, is_number, is_char, is_str, punctuators, is_punct, is_one, kind_of}
use Rattle.pp_tokens.proofs.KindLemmas.{kind_by, kind-from, kind_tests, clash}
use Rattle.mac_base.proofs.TestLemmas.{or_true}

-- the tests of a text without a kind
pub record Fails (t : List ℕ) : Type 0 where
  pub identifier : is_identifier t ≡ false
  pub number : is_number t ≡ false
  pub char : is_char t ≡ false
  pub str : is_str t ≡ false
  pub punct : is_punct t ≡ false

fails_by : (i n c s p q o : Bool) → kind_by i n c s p q o ≡ None → (i ≡ false) × (n ≡ false) × (c ≡ false) × (s ≡ false) × (p ≡ false)
fails_by true n c s p q o is = cc
fails_by false true c s p q o is = cc
fails_by false false true s p q o is = cc
fails_by false false false true p q o is = cc
fails_by false false false false true q o is = cc
fails_by false false false false false q o is = (refl, refl, refl, refl, refl)

pub fails : (t : List ℕ) → kind_of t ≡ None → Fails t
fails t is =
    let parts = fails_by (is_identifier t) (is_number t) (is_char t) (is_str t) (is_punct t) _ _ (sym (kind_tests t) ∙ is) in
    record { identifier = parts.0; number = parts.1; char = parts.2; str = parts.3; punct = parts.4 }

one_long : (test : ℕ → Bool) (s : List ℕ) → 2 ≤ length s → is_one test s ≡ false
one_long test [] long = refl
one_long test (a ∷ []) long = absurd (omega arith)
one_long test (a ∷ b ∷ s) long = refl

-- and a text of at least two bytes whose tests fail has none
pub none-from : (s : List ℕ) → 2 ≤ length s → Fails s → kind_of s ≡ None
none-from s long none = kind-from s false false false false false false false none.identifier none.number none.char none.str none.punct (one_long is_quote s long) (one_long (λ b. not (is_blank b || eqb b 10)) s long)

-- prefixes of identifiers and numbers

pub all_front : (test : ℕ → Bool) (xs ys : List ℕ) → list_all test (xs ++ ys) ≡ true → list_all test xs ≡ true
all_front test [] ys all = refl
all_front test (x ∷ xs) ys all =
    let parts = and_parts (test x) _ all in
    ap (λ b. b && list_all test xs) parts.0 ∙ all_front test xs ys parts.1

pub all_back : (test : ℕ → Bool) (xs ys : List ℕ) → list_all test (xs ++ ys) ≡ true → list_all test ys ≡ true
all_back test [] ys all = all
all_back test (x ∷ xs) ys all = all_back test xs ys (and_parts (test x) _ all).1

pub identifier_front : (x : ℕ) (xs ys : List ℕ) → is_identifier ((x ∷ xs) ++ ys) ≡ true → is_identifier (x ∷ xs) ≡ true
identifier_front x xs ys is =
    let parts = and_parts (is_letter x) _ is in
    ap (λ b. b && list_all is_word xs) parts.0 ∙ all_front is_word xs ys parts.1

rest_front : (before : ℕ) (xs ys : List ℕ) → is_number_rest before (xs ++ ys) ≡ true → is_number_rest before xs ≡ true
rest_front before [] ys is = refl
rest_front before (x ∷ xs) ys is =
    let parts = and_parts (goes_on before x) _ is in
    ap (λ b. b && is_number_rest x xs) parts.0 ∙ rest_front x xs ys parts.1

rest_back : (before : ℕ) (xs : List ℕ) (b : ℕ) (ys : List ℕ) → is_number_rest before (xs ++ b ∷ ys) ≡ true → (before2 : ℕ) × (goes_on before2 b ≡ true)
rest_back before [] b ys is = (before, (and_parts (goes_on before b) _ is).0)
rest_back before (x ∷ xs) b ys is = rest_back x xs b ys (and_parts (goes_on before x) _ is).1

pub number_front : (x y : ℕ) (xs ys : List ℕ) → is_number ((x ∷ y ∷ xs) ++ ys) ≡ true → is_number (x ∷ y ∷ xs) ≡ true
number_front x y xs ys is =
    let parts = and_parts (begins_number x (y ∷ xs)) _ is in
    ap (λ b. b && is_number_rest x (y ∷ xs)) parts.0 ∙ rest_front x (y ∷ xs) ys parts.1

-- a byte that goes on with neither
pub no_identifier_with : (x : ℕ) (xs : List ℕ) (b : ℕ) (ys : List ℕ) → is_word b ≡ false → is_identifier ((x ∷ xs) ++ b ∷ ys) ≡ false
no_identifier_with x xs b ys other =
    false_from_ne_true _ (λ is. clash (is_word b) (and_parts (is_word b) _ (all_back is_word xs (b ∷ ys) (and_parts (is_letter x) _ is).1)).0 other)

pub no_number_with : (x : ℕ) (xs : List ℕ) (b : ℕ) (ys : List ℕ) → ((before : ℕ) → goes_on before b ≡ false) → is_number ((x ∷ xs) ++ b ∷ ys) ≡ false
no_number_with x xs b ys other =
    false_from_ne_true _ (λ is. let found = rest_back x xs b ys (and_parts (begins_number x (xs ++ b ∷ ys)) _ is).1 in clash (goes_on found.0 b) found.1 (other found.0))

-- a text of the table has what all of them have
table_step : (test : List ℕ → Bool) (p s : List ℕ) (ps : List (List ℕ)) (x : Bool) → test p ≡ true → same s p ≡ x → (x || list_any (same s) ps) ≡ true → (list_any (same s) ps ≡ true → test s ≡ true) → test s ≡ true
table_step test p s ps true passes here found inner = ap test (same_text s p (sym here)) ∙ passes
table_step test p s ps false passes here found inner = inner found

pub in_table : (test : List ℕ → Bool) (table : List (List ℕ)) (s : List ℕ) → list_all test table ≡ true → list_any (same s) table ≡ true → test s ≡ true
in_table test [] s all is = cc
in_table test (p ∷ ps) s all is =
    let parts = and_parts (test p) (list_all test ps) all in
    table_step test p s ps (same s p) parts.0 refl is (λ later. in_table test ps s parts.1 later)

-- a byte that is in no punctuator
abbrev pub has : ℕ → List ℕ → Bool
has x [] = false
has x (b ∷ bs) = eqb x b || has x bs

pub has_back : (x : ℕ) (xs ys : List ℕ) → has x (xs ++ x ∷ ys) ≡ true
has_back x [] ys = ap (λ b. b || has x ys) (eq-eqb x x refl)
has_back x (b ∷ xs) ys = ap (λ t. eqb x b || t) (has_back x xs ys) ∙ or_true (eqb x b)

pub no_punct_with : (x : ℕ) (xs ys : List ℕ) → list_all (λ p. not (has x p)) punctuators ≡ true → is_punct (xs ++ x ∷ ys) ≡ false
no_punct_with x xs ys all =
    false_from_ne_true _ (λ is. clash (has x (xs ++ x ∷ ys)) (has_back x xs ys) (not_true _ (in_table (λ p. not (has x p)) punctuators (xs ++ x ∷ ys) all is)))
  where
    not_true : (b : Bool) → not b ≡ true → b ≡ false
    not_true true is = cc
    not_true false is = refl
