-- What the scanner finds is the longest token.
use Rattle.std.proofs.Common.{◌≡◌, ℕ, zero, suc, ◌≤◌, ◌<◌, eqb, Bool, true, false, not, ◌&&◌, ◌||◌, cond, List, [], ◌∷◌, length, take, Option, Some, None, refl, sym, ◌∙◌, ap, subst, arith}
use Rattle.std.specs.List.{list_all}
use Rattle.std.specs.Option.{option_map}
use Rattle.std.proofs.lemmas.Bool.{false_from_ne_true}
use borrow.Author.Tests.{eqb-true, eqb-false}
use Rattle.pp_tokens.specs.declared.token.Kind.{Kind}
use Rattle.pp_tokens.specs.declared.token.Kind.TheVariants.{Number, Char as Constant, Str, LoneQuote}
use Rattle.pp_tokens.specs.Kinds.{same, is_digit, is_letter, is_word, is_quote, is_blank, goes_on, is_number_rest, first_is, is_closed, is_quoted, is_constant, is_punct, is_one, kind_of}
use Rattle.pp_tokens.specs.Cut.{longest, longest_within, longer}
use Rattle.pp_tokens.specs.Scan.{number_rest, closing, quoted_length, quote_or}
use Rattle.pp_tokens.proofs.KindLemmas.{kind_by, kind-from, kind_same, differs, digit_no_letter, no_punct, no_char, no_str, is_that, that_itself, that_same, that_more}
use Rattle.pp_tokens.proofs.Bounds.{AtMost, closing-most}
use Rattle.mac_base.proofs.TestLemmas.{or_false}

within_none : (bytes : List ℕ) (n : ℕ) (o : Option Kind) → kind_of (take (suc n) bytes) ≡ o → o ≡ None → longest_within bytes (suc n) ≡ longest_within bytes n
within_none bytes n o is none = ap (λ x. longer x (suc n) (longest_within bytes n)) (is ∙ none)

longest_step : (bytes : List ℕ) (kind : Kind) (n m : ℕ) (here : Bool) → eqb n (suc m) ≡ here → n ≤ suc m → kind_of (take n bytes) ≡ Some kind → ((k : ℕ) → n < k → k ≤ suc m → kind_of (take k bytes) ≡ None) →
    (n ≤ m → longest_within bytes m ≡ Some (kind, n)) → longest_within bytes (suc m) ≡ Some (kind, n)
longest_step bytes kind n m true here within is none inner =
    let same : n ≡ suc m = eqb-true n (suc m) here in
    ap (λ o. longer o (suc m) (longest_within bytes m)) (ap (λ k. kind_of (take k bytes)) (sym same) ∙ is) ∙ ap (λ k. Some (kind, k)) (sym same)
longest_step bytes kind n m false here within is none inner =
    let apart : n ≡ suc m → ⊥ = eqb-false n (suc m) here in
    let less : n ≤ m = omega arith in
    ap (λ o. longer o (suc m) (longest_within bytes m)) (none (suc m) (omega arith) (omega arith)) ∙ inner less

-- a prefix of a kind is the longest where none that is longer has one
pub longest_is : (bytes : List ℕ) (kind : Kind) (n m : ℕ) → 1 ≤ n → n ≤ m → kind_of (take n bytes) ≡ Some kind → ((k : ℕ) → n < k → k ≤ m → kind_of (take k bytes) ≡ None) → longest_within bytes m ≡ Some (kind, n)
longest_is bytes kind n zero some within is none = absurd (omega arith)
longest_is bytes kind n (suc m) some within is none =
    longest_step bytes kind n m (eqb n (suc m)) refl within is none (λ less. longest_is bytes kind n m some less is (λ k more most. none k more (omega arith)))

none_more : (b : ℕ) (bs : List ℕ) (j k : ℕ) → ((i : ℕ) → j < i → i ≤ length bs → kind_of (b ∷ take i bs) ≡ None) → suc j < k → k ≤ suc (length bs) → kind_of (take k (b ∷ bs)) ≡ None
none_more b bs j zero none more most = absurd (omega arith)
none_more b bs j (suc i) none more most = none i (omega arith) (omega arith)

pub longest_cons : (b : ℕ) (bs : List ℕ) (kind : Kind) (j : ℕ) → j ≤ length bs → kind_of (b ∷ take j bs) ≡ Some kind → ((i : ℕ) → j < i → i ≤ length bs → kind_of (b ∷ take i bs) ≡ None) → longest (b ∷ bs) ≡ Some (kind, suc j)
longest_cons b bs kind j within is none =
    longest_is (b ∷ bs) kind (suc j) (suc (length bs)) (omega arith) (omega arith) is (λ k more most. none_more b bs j k none more most)

-- one byte alone, where there are more
pub not_one : (test : ℕ → Bool) (b : ℕ) (bs : List ℕ) (i : ℕ) → 0 < i → i ≤ length bs → is_one test (b ∷ take i bs) ≡ false
not_one test b bs zero some within = absurd (omega arith)
not_one test b [] (suc i) some within = absurd (omega arith)
not_one test b (c ∷ bs) (suc i) some within = refl

-- numbers

rest_true : (before : ℕ) (bs : List ℕ) → (number_rest before bs ≤ length bs) × (is_number_rest before (take (number_rest before bs) bs) ≡ true)
rest_true before [] = (omega arith, refl)
rest_true before (b ∷ bs) = rest_true_by (goes_on before b) refl (rest_true b bs)
  where
    rest_true_by : (t : Bool) → goes_on before b ≡ t → (number_rest b bs ≤ length bs) × (is_number_rest b (take (number_rest b bs) bs) ≡ true) →
        (cond t (suc (number_rest b bs)) 0 ≤ suc (length bs)) × (is_number_rest before (take (cond t (suc (number_rest b bs)) 0) (b ∷ bs)) ≡ true)
    rest_true_by true goes inner = (omega (arith, inner.0), ap (λ x. x && is_number_rest b (take (number_rest b bs) bs)) goes ∙ inner.1)
    rest_true_by false goes inner = (omega arith, refl)

rest_false : (before : ℕ) (bs : List ℕ) (i : ℕ) → number_rest before bs < i → i ≤ length bs → is_number_rest before (take i bs) ≡ false
rest_false before [] i more most = absurd (omega arith)
rest_false before (b ∷ bs) zero more most = absurd (omega arith)
rest_false before (b ∷ bs) (suc i) more most = rest_false_by (goes_on before b) refl more (λ less. rest_false b bs i less (omega arith))
  where
    rest_false_by : (t : Bool) → goes_on before b ≡ t → cond t (suc (number_rest b bs)) 0 < suc i → (number_rest b bs < i → is_number_rest b (take i bs) ≡ false) → (goes_on before b && is_number_rest b (take i bs)) ≡ false
    rest_false_by true goes less inner = ap (λ x. x && is_number_rest b (take i bs)) goes ∙ inner (omega arith)
    rest_false_by false goes less inner = ap (λ x. x && is_number_rest b (take i bs)) goes

-- the kind of a text that no test but the first five could pass
abbrev pub long_kind : (i n c s p : Bool) (t : List ℕ) → Option Kind
long_kind i n c s p t = kind_by i n c s p (is_one is_quote t) (is_one (λ b. not (is_blank b || eqb b 10)) t)

-- none of them passes, and there are two bytes
pub nothing : (b : ℕ) (bs : List ℕ) (i : ℕ) → 0 < i → i ≤ length bs → long_kind false false false false false (b ∷ take i bs) ≡ None
nothing b bs i some within =
    kind_same false false false false false _ _ false false false false false false false refl refl refl refl refl (not_one is_quote b bs i some within) (not_one (λ c. not (is_blank c || eqb c 10)) b bs i some within)

digit_kind : (b : ℕ) (rest : List ℕ) (n : Bool) → is_digit b ≡ true → is_number_rest b rest ≡ n → kind_of (b ∷ rest) ≡ long_kind false n false false false (b ∷ rest)
digit_kind b rest n digit goes =
    kind-from (b ∷ rest) false n false false false _ _
    (ap (λ x. x && list_all is_word rest) (digit_no_letter b digit))
    (ap (λ x. (x || (eqb b 46 && first_is is_digit rest)) && is_number_rest b rest) digit ∙ goes)
    (no_char is_digit b rest digit refl refl refl refl) (no_str is_digit b rest digit refl refl refl refl) (no_punct is_digit b rest digit refl) refl refl

pub digit_longest : (b : ℕ) (bs : List ℕ) → is_digit b ≡ true → longest (b ∷ bs) ≡ Some (Number, suc (number_rest b bs))
digit_longest b bs digit =
    longest_cons b bs Number (number_rest b bs) (rest_true b bs).0 (digit_kind b (take (number_rest b bs) bs) true digit (rest_true b bs).1)
    (λ i more most. digit_kind b (take i bs) false digit (rest_false b bs i more most) ∙ nothing b bs i (omega arith) most)

pub first_taken : (test : ℕ → Bool) (bs : List ℕ) (i : ℕ) → 0 < i → first_is test (take i bs) ≡ first_is test bs
first_taken test bs zero some = absurd (omega arith)
first_taken test [] (suc i) some = refl
first_taken test (b ∷ bs) (suc i) some = refl

dot_no_punct : (rest : List ℕ) → first_is is_digit rest ≡ true → is_punct (46 ∷ rest) ≡ false
dot_no_punct [] digit = cc
dot_no_punct (c ∷ rest) digit = rw (differs is_digit c 46 digit refl) refl

-- the tests of `.` before a digit
dot_kind : (rest : List ℕ) (n : Bool) → first_is is_digit rest ≡ true → is_number_rest 46 rest ≡ n → kind_of (46 ∷ rest) ≡ long_kind false n false false false (46 ∷ rest)
dot_kind rest n digit goes =
    kind-from (46 ∷ rest) false n false false false _ _ refl (ap (λ x. x && is_number_rest 46 rest) digit ∙ goes) refl refl (dot_no_punct rest digit) refl refl

digit_goes : (before c : ℕ) → is_digit c ≡ true → goes_on before c ≡ true
digit_goes before c digit = by (is_letter c) (is_digit c) (eqb c 46) _ digit
  where
    by : (l d e x : Bool) → d ≡ true → (((l || d) || e) || x) ≡ true
    by true d e x is = refl
    by false true e x is = refl
    by false false e x is = cc

goes_first : (bs : List ℕ) → first_is is_digit bs ≡ true → 0 < number_rest 46 bs
goes_first [] digit = cc
goes_first (c ∷ cs) digit = subst (λ x. 0 < cond x (suc (number_rest c cs)) 0) (sym (digit_goes 46 c digit)) (omega arith)

pub dot_longest : (bs : List ℕ) → first_is is_digit bs ≡ true → longest (46 ∷ bs) ≡ Some (Number, suc (number_rest 46 bs))
dot_longest bs digit =
    let some : 0 < number_rest 46 bs = goes_first bs digit in
    longest_cons 46 bs Number (number_rest 46 bs) (rest_true 46 bs).0
    (dot_kind (take (number_rest 46 bs) bs) true (first_taken is_digit bs (number_rest 46 bs) some ∙ digit) (rest_true 46 bs).1)
    (λ i more most. dot_kind (take i bs) false (first_taken is_digit bs i (omega arith) ∙ digit) (rest_false 46 bs i more most) ∙ nothing 46 bs i (omega arith) most)

-- quoted texts

closing_by : (t u v w : Bool) (two one : Option ℕ) → Option ℕ
closing_by t u v w two one = cond t (Some 1) (cond u None (cond v (cond w None (option_map (λ n. suc (suc n)) two)) (option_map suc one)))

at_zero : (t u v w : Bool) (two one : Option ℕ) → false ≡ is_that (closing_by t u v w two one) 0
unfolding closing_by
at_zero true u v w two one = refl
at_zero false true v w two one = refl
at_zero false false true true two one = refl
at_zero false false true false None one = refl
at_zero false false true false (Some n) one = refl
at_zero false false false w two None = refl
at_zero false false false w two (Some n) = refl

at_one : (t u v w : Bool) (two one : Option ℕ) → is_that one 0 ≡ false → t ≡ is_that (closing_by t u v w two one) 1
unfolding closing_by
at_one true u v w two one none = refl
at_one false true v w two one none = refl
at_one false false true true two one none = refl
at_one false false true false None one none = refl
at_one false false true false (Some n) one none = refl
at_one false false false w two None none = refl
at_one false false false w two (Some n) none = sym none

at_more : (t u v w x y : Bool) (two one : Option ℕ) (k : ℕ) → x ≡ is_that two k → y ≡ is_that one (suc k) → cond (t || u) false (cond v (not w && x) y) ≡ is_that (closing_by t u v w two one) (suc (suc k))
unfolding closing_by
at_more true u v w x y two one k first second = refl
at_more false true v w x y two one k first second = refl
at_more false false true true x y two one k first second = refl
at_more false false true false x y None one k first second = first
at_more false false true false x y (Some n) one k first second = first
at_more false false false w x y two None k first second = second
at_more false false false w x y two (Some n) k first second = second

last_closed : (t : Bool) (i : ℕ) → i ≤ 1 → (x : Bool) → (i ≡ 0 → x ≡ false) → (i ≡ 1 → x ≡ t) → x ≡ is_that (cond t (Some 1) None) i
last_closed true zero within x none one = none refl
last_closed false zero within x none one = none refl
last_closed true (suc zero) within x none one = one refl
last_closed false (suc zero) within x none one = one refl
last_closed t (suc (suc i)) within x none one = absurd (omega arith)

closed_is : (q : ℕ) (cs : List ℕ) (i : ℕ) → i ≤ length cs → is_closed q (take i cs) ≡ is_that (closing q cs) i
unfolding closing_by
closed_is q [] zero within = refl
closed_is q [] (suc i) within = absurd (omega arith)
closed_is q (b ∷ []) zero within = last_closed (eqb b q) 0 (omega arith) false (λ z. refl) (λ z. cc)
closed_is q (b ∷ []) (suc zero) within = last_closed (eqb b q) 1 (omega arith) (eqb b q) (λ z. cc) (λ z. refl)
closed_is q (b ∷ []) (suc (suc i)) within = absurd (omega arith)
closed_is q (b ∷ c ∷ bs) zero within = at_zero (eqb b q) (eqb b 10) (eqb b 92) (eqb c 10) (closing q bs) (closing q (c ∷ bs))
closed_is q (b ∷ c ∷ bs) (suc zero) within = at_one (eqb b q) (eqb b 10) (eqb b 92) (eqb c 10) (closing q bs) (closing q (c ∷ bs)) (sym (closed_is q (c ∷ bs) zero (omega arith)))
closed_is q (b ∷ c ∷ bs) (suc (suc k)) within =
    at_more (eqb b q) (eqb b 10) (eqb b 92) (eqb c 10) (is_closed q (take k bs)) (is_closed q (c ∷ take k bs)) (closing q bs) (closing q (c ∷ bs)) k (closed_is q bs k (omega arith)) (closed_is q (c ∷ bs) (suc k) (omega arith))

pub and_same : (x : Bool) → (x && true) ≡ x
and_same true = refl
and_same false = refl

pub str_that : (cs : List ℕ) (i : ℕ) → i ≤ length cs → is_quoted 34 (34 ∷ take i cs) ≡ is_that (quoted_length 34 cs) (suc i)
str_that cs i within = closed_is 34 cs i within ∙ sym (that_more (closing 34 cs) i)

two_quotes : (cs : List ℕ) (i : ℕ) → i ≤ length cs → first_is (λ b. eqb b 39) cs ≡ true → (is_closed 39 (take i cs) && not (same (take i cs) (39 ∷ []))) ≡ false
two_quotes [] i within first = cc
two_quotes (c ∷ cs) zero within first = refl
two_quotes (c ∷ []) (suc zero) within first = rw first refl
two_quotes (c ∷ []) (suc (suc i)) within first = absurd (omega arith)
two_quotes (c ∷ d ∷ cs) (suc zero) within first = rw first refl
two_quotes (c ∷ d ∷ cs) (suc (suc i)) within first = rw first refl

not_empty : (cs : List ℕ) (i : ℕ) → first_is (λ b. eqb b 39) cs ≡ false → not (same (take i cs) (39 ∷ [])) ≡ true
not_empty cs zero first = refl
not_empty [] (suc i) first = refl
not_empty (c ∷ cs) (suc i) first = rw first refl

char_by : (cs : List ℕ) (i : ℕ) (f : Bool) → i ≤ length cs → first_is (λ b. eqb b 39) cs ≡ f → (is_closed 39 (take i cs) && not (same (take i cs) (39 ∷ []))) ≡ is_that (cond f None (option_map suc (closing 39 cs))) (suc i)
char_by cs i true within first = two_quotes cs i within first
char_by cs i false within first = ap (λ x. is_closed 39 (take i cs) && x) (not_empty cs i first) ∙ and_same _ ∙ closed_is 39 cs i within ∙ sym (that_more (closing 39 cs) i)

pub char_that : (cs : List ℕ) (i : ℕ) → i ≤ length cs → is_constant (39 ∷ take i cs) ≡ is_that (quoted_length 39 cs) (suc i)
char_that cs i within = char_by cs i (first_is (λ b. eqb b 39) cs) within refl

closing_some : (n m : ℕ) (o : Option ℕ) → AtMost m o → option_map suc o ≡ Some n → (k : ℕ) × (n ≡ suc k) × (k ≤ m)
closing_some n m None most is = cc
closing_some n m (Some k) most is = (k, cc, most)

quoted_by : (q n : ℕ) (cs : List ℕ) (t : Bool) → cond t None (option_map suc (closing q cs)) ≡ Some n → (k : ℕ) × (n ≡ suc k) × (k ≤ length cs)
quoted_by q n cs true is = cc
quoted_by q n cs false is = closing_some n (length cs) (closing q cs) (closing-most q cs) is

pub quoted_some : (q n : ℕ) (cs : List ℕ) → quoted_length q cs ≡ Some n → (k : ℕ) × (n ≡ suc k) × (k ≤ length cs)
quoted_some q n cs is = quoted_by q n cs ((eqb q 39) && first_is (λ b. eqb b 39) cs) is

pub past : (k i : ℕ) → k < i → is_that (Some k) i ≡ false
past k i less = false_from_ne_true _ (λ is. let same : k ≡ i = that_same k i is in absurd (omega arith))

kind_39 : (rest : List ℕ) (x : Bool) → is_constant (39 ∷ rest) ≡ x → kind_of (39 ∷ rest) ≡ long_kind false false x false false (39 ∷ rest)
kind_39 rest x is = kind-from (39 ∷ rest) false false x false false _ _ refl refl (or_false (is_constant (39 ∷ rest)) ∙ is) refl refl refl refl

kind_34 : (rest : List ℕ) (x : Bool) → is_quoted 34 (34 ∷ rest) ≡ x → kind_of (34 ∷ rest) ≡ long_kind false false false x false (34 ∷ rest)
kind_34 rest x is = kind-from (34 ∷ rest) false false false x false _ _ refl refl refl (or_false (is_quoted 34 (34 ∷ rest)) ∙ is) refl refl refl

pub longest_39 : (bs : List ℕ) (o : Option ℕ) → quoted_length 39 bs ≡ o → longest (39 ∷ bs) ≡ Some (quote_or 39 o)
longest_39 bs None is =
    longest_cons 39 bs LoneQuote 0 (omega arith) refl
    (λ i more most. kind_39 (take i bs) false (char_that bs i most ∙ ap (λ o. is_that o (suc i)) is) ∙ nothing 39 bs i more most)
longest_39 bs (Some n) is =
    let shape = quoted_some 39 n bs is in
    let k = shape.0 in
    let found : quoted_length 39 bs ≡ Some (suc k) = is ∙ ap (λ x. Some x) shape.1 in
    longest_cons 39 bs Constant k shape.2 (kind_39 (take k bs) true (char_that bs k shape.2 ∙ ap (λ o. is_that o (suc k)) found ∙ that_itself k))
    (λ i more most. kind_39 (take i bs) false (char_that bs i most ∙ ap (λ o. is_that o (suc i)) found ∙ past k i more) ∙ nothing 39 bs i (omega arith) most)
    ∙ ap (λ x. Some (Constant, x)) (sym shape.1)

pub longest_34 : (bs : List ℕ) (o : Option ℕ) → quoted_length 34 bs ≡ o → longest (34 ∷ bs) ≡ Some (quote_or 34 o)
longest_34 bs None is =
    longest_cons 34 bs LoneQuote 0 (omega arith) refl
    (λ i more most. kind_34 (take i bs) false (str_that bs i most ∙ ap (λ o. is_that o (suc i)) is) ∙ nothing 34 bs i more most)
longest_34 bs (Some n) is =
    let shape = quoted_some 34 n bs is in
    let k = shape.0 in
    let found : quoted_length 34 bs ≡ Some (suc k) = is ∙ ap (λ x. Some x) shape.1 in
    longest_cons 34 bs Str k shape.2 (kind_34 (take k bs) true (str_that bs k shape.2 ∙ ap (λ o. is_that o (suc k)) found ∙ that_itself k))
    (λ i more most. kind_34 (take i bs) false (str_that bs i most ∙ ap (λ o. is_that o (suc i)) found ∙ past k i more) ∙ nothing 34 bs i (omega arith) most)
    ∙ ap (λ x. Some (Str, x)) (sym shape.1)
