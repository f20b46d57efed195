-- Which texts have a kind, by their first byte.
use Rattle.std.proofs.Common.{◌≡◌, ℕ, zero, suc, ◌+◌, eqb, Bool, true, false, not, ◌&&◌, ◌||◌, cond, List, [], ◌∷◌, Option, Some, None, refl, sym, ◌∙◌, ap, arith}
use Rattle.std.specs.List.{list_any, list_all}
use Rattle.std.specs.Option.{option_map}
use borrow.Author.Tests.{eqb-true}
use Rattle.std.proofs.lemmas.Bool.Decides.{nat_tests}
use Rattle.std.proofs.lemmas.Bool.{false_from_ne_true}
use Rattle.pp_tokens.specs.declared.token.Kind.{Kind}
use Rattle.pp_tokens.specs.declared.token.Kind.TheVariants.{Identifier, Number, Char as Constant, Str, Punct, LoneQuote, Other}
use Rattle.pp_tokens.specs.Kinds.{same, is_digit, is_letter, is_quote, is_blank, is_identifier, first_is, is_number, is_char, is_str, punctuators, is_punct, is_one, kind_of}

pub is_other : ℕ → Bool
is_other b = not (is_blank b || eqb b 10)

-- the kind by the tests of the table
abbrev pub kind_by : (identifier number constant str punct quote other : Bool) → Option Kind
kind_by identifier number constant str punct quote other =
    cond identifier (Some Identifier) (cond number (Some Number) (cond constant (Some Constant) (cond str (Some Str) (cond punct (Some Punct) (cond quote (Some LoneQuote) (cond other (Some Other) None))))))

pub kind_tests : (t : List ℕ) → kind_of t ≡ kind_by (is_identifier t) (is_number t) (is_char t) (is_str t) (is_punct t) (is_one is_quote t) (is_one (λ b. not (is_blank b || eqb b 10)) t)
kind_tests t = refl

pub kind_same : (i n c s p q o i' n' c' s' p' q' o' : Bool) → i ≡ i' → n ≡ n' → c ≡ c' → s ≡ s' → p ≡ p' → q ≡ q' → o ≡ o' → kind_by i n c s p q o ≡ kind_by i' n' c' s' p' q' o'
kind_same i n c s p q o i' n' c' s' p' q' o' ei en ec es ep eq eo =
    ap (λ x. kind_by x n c s p q o) ei ∙ ap (λ x. kind_by i' x c s p q o) en ∙ ap (λ x. kind_by i' n' x s p q o) ec ∙ ap (λ x. kind_by i' n' c' x p q o) es
    ∙ ap (λ x. kind_by i' n' c' s' x q o) ep ∙ ap (λ x. kind_by i' n' c' s' p' x o) eq ∙ ap (λ x. kind_by i' n' c' s' p' q' x) eo

-- a text of this kind, by its tests
pub kind-from : (t : List ℕ) (i n c s p q o : Bool) → is_identifier t ≡ i → is_number t ≡ n → is_char t ≡ c → is_str t ≡ s → is_punct t ≡ p → is_one is_quote t ≡ q → is_one (λ b. not (is_blank b || eqb b 10)) t ≡ o → kind_of t ≡ kind_by i n c s p q o
kind-from t i n c s p q o ei en ec es ep eq eo = kind_tests t ∙ kind_same _ _ _ _ _ _ _ i n c s p q o ei en ec es ep eq eo

pub clash : (x : Bool) → x ≡ true → x ≡ false → ⊥
clash true holds fails = cc
clash false holds fails = cc

-- a byte that passes a test is none that fails it
pub differs : (test : ℕ → Bool) (b n : ℕ) → test b ≡ true → test n ≡ false → eqb b n ≡ false
differs test b n passes fails = false_from_ne_true (eqb b n) (λ same. clash (test b) passes (ap test (eqb-true b n same) ∙ fails))

pub differs_from : (test : ℕ → Bool) (b n : ℕ) → test b ≡ true → test n ≡ false → eqb n b ≡ false
differs_from test b n passes fails = false_from_ne_true (eqb n b) (λ same. clash (test b) passes (ap test (sym (eqb-true n b same)) ∙ fails))

pub digit_no_letter : (b : ℕ) → is_digit b ≡ true → is_letter b ≡ false
digit_no_letter b digit = grind (arith, nat_tests)

pub letter_no_digit : (b : ℕ) → is_letter b ≡ true → is_digit b ≡ false
letter_no_digit b letter = false_from_ne_true (is_digit b) (λ digit. clash (is_letter b) letter (digit_no_letter b digit))

-- a byte with which no punctuator begins
no_punct_step : (test : ℕ → Bool) (b c : ℕ) (rest p : List ℕ) (ps : List (List ℕ)) (x : Bool) → test b ≡ true → test c ≡ x → (not x && list_all (λ p. not (first_is test p)) ps) ≡ true →
    (list_all (λ p. not (first_is test p)) ps ≡ true → list_any (same (b ∷ rest)) ps ≡ false) → list_any (same (b ∷ rest)) ((c ∷ p) ∷ ps) ≡ false
no_punct_step test b c rest p ps true passes is all inner = cc
no_punct_step test b c rest p ps false passes is all inner = rw (differs test b c passes is) (inner all)

no_punct_in : (test : ℕ → Bool) (b : ℕ) (rest : List ℕ) (table : List (List ℕ)) → test b ≡ true → list_all (λ p. not (first_is test p)) table ≡ true → list_any (same (b ∷ rest)) table ≡ false
no_punct_in test b rest [] passes all = refl
no_punct_in test b rest ([] ∷ ps) passes all = no_punct_in test b rest ps passes all
no_punct_in test b rest ((c ∷ p) ∷ ps) passes all = no_punct_step test b c rest p ps (test c) passes refl all (λ more. no_punct_in test b rest ps passes more)

pub no_punct : (test : ℕ → Bool) (b : ℕ) (rest : List ℕ) → test b ≡ true → list_all (λ p. not (first_is test p)) punctuators ≡ true → is_punct (b ∷ rest) ≡ false
no_punct test b rest passes all = no_punct_in test b rest punctuators passes all

-- no prefix and no quote begins with the byte
pub no_char : (test : ℕ → Bool) (b : ℕ) (rest : List ℕ) → test b ≡ true → test 39 ≡ false → test 76 ≡ false → test 117 ≡ false → test 85 ≡ false → is_char (b ∷ rest) ≡ false
no_char test b rest passes quote long small wide =
    rw (differs test b 39 passes quote, differs_from test b 76 passes long, differs_from test b 117 passes small, differs_from test b 85 passes wide) refl

pub no_str : (test : ℕ → Bool) (b : ℕ) (rest : List ℕ) → test b ≡ true → test 34 ≡ false → test 76 ≡ false → test 117 ≡ false → test 85 ≡ false → is_str (b ∷ rest) ≡ false
no_str test b rest passes quote long small wide =
    rw (differs test b 34 passes quote, differs_from test b 76 passes long, differs_from test b 117 passes small, differs_from test b 85 passes wide) refl

-- whether a number is there
abbrev pub is_that : Option ℕ → ℕ → Bool
is_that None i = false
is_that (Some zero) zero = true
is_that (Some zero) (suc i) = false
is_that (Some (suc k)) zero = false
is_that (Some (suc k)) (suc i) = is_that (Some k) i

pub that_itself : (k : ℕ) → is_that (Some k) k ≡ true
that_itself zero = refl
that_itself (suc k) = that_itself k

pub that_same : (k i : ℕ) → is_that (Some k) i ≡ true → k ≡ i
that_same zero zero is = refl
that_same zero (suc i) is = cc
that_same (suc k) zero is = cc
that_same (suc k) (suc i) is = ap suc (that_same k i is)

pub that_more : (o : Option ℕ) (i : ℕ) → is_that (option_map suc o) (suc i) ≡ is_that o i
that_more None i = refl
that_more (Some k) i = refl

pub that_more_zero : (o : Option ℕ) → is_that (option_map suc o) zero ≡ false
that_more_zero None = refl
that_more_zero (Some k) = refl

pub ltb_suc : (n : ℕ) → 1 + n ≡ suc n
ltb_suc n = omega arith
