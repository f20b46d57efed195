-- The longest token that begins with a letter.
use Rattle.std.proofs.Common.{◌≡◌, ℕ, zero, suc, ◌+◌, ◌-◌, ◌≤◌, ◌<◌, eqb, Bool, true, false, not, ◌&&◌, ◌||◌, cond, List, [], ◌∷◌, length, take, drop, Option, Some, None, refl, sym, ◌∙◌, ap, subst, arith}
use Rattle.std.specs.List.{list_all, prefix_len}
use Rattle.std.proofs.lemmas.Bool.{false_from_ne_true}
use borrow.Author.Tests.{eqb-true}
use lib.Chars.{codes}
use Rattle.pp_tokens.specs.declared.token.Kind.{Kind}
use Rattle.pp_tokens.specs.declared.token.Kind.TheVariants.{Identifier, Char as Constant, Str}
use Rattle.pp_tokens.specs.Kinds.{begins, same, is_digit, is_letter, is_word, is_quote, is_number_rest, first_is, is_closed, is_quoted, is_constant, is_char, is_str, kind_of}
use Rattle.pp_tokens.specs.Cut.{longest}
use Rattle.pp_tokens.specs.Scan.{quoted_length, quoted_kind, word_token, word_before, word_length, word_or, prefixed_length, is_prefix, is_prefix_letter}
use Rattle.pp_tokens.proofs.KindLemmas.{kind-from, differs, differs_from, letter_no_digit, no_punct, is_that, that_itself}
use Rattle.pp_tokens.proofs.LongestLemmas.{longest_cons, long_kind, nothing, char_that, str_that, and_same, quoted_some, past}
use Rattle.mac_base.proofs.TestLemmas.{or_false, and_false, same_tests, eqb_swapped}

-- identifiers

words_true_by : (t : Bool) (b : ℕ) (bs : List ℕ) → is_word b ≡ t → (prefix_len is_word bs ≤ length bs) × (list_all is_word (take (prefix_len is_word bs) bs) ≡ true) →
    (cond t (1 + prefix_len is_word bs) 0 ≤ suc (length bs)) × (list_all is_word (take (cond t (1 + prefix_len is_word bs) 0) (b ∷ bs)) ≡ true)
words_true_by true b bs word inner =
    (omega (arith, inner.0), (let same_length : 1 + prefix_len is_word bs ≡ suc (prefix_len is_word bs) = omega arith in ap (λ n. list_all is_word (take n (b ∷ bs))) same_length) ∙ ap (λ x. x && list_all is_word (take (prefix_len is_word bs) bs)) word ∙ inner.1)
words_true_by false b bs word inner = (omega arith, refl)

words_true : (bs : List ℕ) → (prefix_len is_word bs ≤ length bs) × (list_all is_word (take (prefix_len is_word bs) bs) ≡ true)
words_true [] = (omega arith, refl)
words_true (b ∷ bs) = words_true_by (is_word b) b bs refl (words_true bs)

words_false_by : (t : Bool) (b : ℕ) (bs : List ℕ) (i : ℕ) → is_word b ≡ t → cond t (1 + prefix_len is_word bs) 0 < suc i → (prefix_len is_word bs < i → list_all is_word (take i bs) ≡ false) → (is_word b && list_all is_word (take i bs)) ≡ false
words_false_by true b bs i word less inner = ap (λ x. x && list_all is_word (take i bs)) word ∙ inner (omega arith)
words_false_by false b bs i word less inner = ap (λ x. x && list_all is_word (take i bs)) word

words_false : (bs : List ℕ) (i : ℕ) → prefix_len is_word bs < i → i ≤ length bs → list_all is_word (take i bs) ≡ false
words_false [] i less within = absurd (omega arith)
words_false (b ∷ bs) zero less within = absurd (omega arith)
words_false (b ∷ bs) (suc i) less within = words_false_by (is_word b) b bs i refl less (λ more. words_false bs i more (omega arith))

letter_kind : (b : ℕ) (rest : List ℕ) (i c s : Bool) → is_letter b ≡ true → list_all is_word rest ≡ i → is_char (b ∷ rest) ≡ c → is_str (b ∷ rest) ≡ s → kind_of (b ∷ rest) ≡ long_kind i false c s false (b ∷ rest)
letter_kind b rest i c s letter words char str =
    kind-from (b ∷ rest) i false c s false _ _
    (ap (λ x. x && list_all is_word rest) letter ∙ words)
    (ap (λ x. (x || (eqb b 46 && first_is is_digit rest)) && is_number_rest b rest) (letter_no_digit b letter) ∙ ap (λ x. (x && first_is is_digit rest) && is_number_rest b rest) (differs is_letter b 46 letter refl))
    char str (no_punct is_letter b rest letter refl) refl refl

-- a constant or literal of n bytes after the word, or the word alone
word_of : Kind → ℕ → Option ℕ → Kind × ℕ
word_of kind word None = (Identifier, word)
word_of kind word (Some n) = (kind, word + n)

-- which kinds the longer texts have
abbrev Longer : ℕ → List ℕ → Kind → Option ℕ → Type 0
Longer b bs kind o = (i m : ℕ) → i ≡ prefix_len is_word bs + suc m → i ≤ length bs → kind_of (b ∷ take i bs) ≡ cond (is_that o (suc m)) (Some kind) None

abbrev Fits : List ℕ → Option ℕ → Type 0
Fits bs None = Unit {0}
Fits bs (Some n) = (1 ≤ n) × (prefix_len is_word bs + n ≤ length bs)

longer_none : (b : ℕ) (bs : List ℕ) (kind : Kind) (o : Option ℕ) (i m : ℕ) → Longer b bs kind o → i ≡ prefix_len is_word bs + suc m → i ≤ length bs → is_that o (suc m) ≡ false → kind_of (b ∷ take i bs) ≡ None
longer_none b bs kind o i m longer_kinds is within none = longer_kinds i m is within ∙ ap (λ x. cond x (Some kind) None) none

identifier_here : (b : ℕ) (bs : List ℕ) → is_letter b ≡ true → kind_of (b ∷ take (prefix_len is_word bs) bs) ≡ Some Identifier
identifier_here b bs letter = letter_kind b (take (prefix_len is_word bs) bs) true _ _ letter (words_true bs).1 refl refl

word_longest : (b : ℕ) (bs : List ℕ) (kind : Kind) (o : Option ℕ) → is_letter b ≡ true → Fits bs o → Longer b bs kind o → longest (b ∷ bs) ≡ Some (word_of kind (suc (prefix_len is_word bs)) o)
unfolding word_of
word_longest b bs kind None letter fits longer_kinds =
    longest_cons b bs Identifier (prefix_len is_word bs) (words_true bs).0 (identifier_here b bs letter)
    (λ i more most. let m : ℕ = i - prefix_len is_word bs - 1 in longer_none b bs kind None i m longer_kinds (omega arith) most refl)
word_longest b bs kind (Some zero) letter fits longer_kinds = absurd (omega (arith, fits.0))
word_longest b bs kind (Some (suc k)) letter fits longer_kinds =
    let v : ℕ = prefix_len is_word bs in
    longest_cons b bs kind (v + suc k) fits.1 (longer_kinds (v + suc k) k refl fits.1 ∙ ap (λ x. cond x (Some kind) None) (that_itself (suc k)))
    (λ i more most. let m : ℕ = i - v - 1 in longer_none b bs kind (Some (suc k)) i m longer_kinds (omega arith) most (past (suc k) (suc m) (omega arith)))
    ∙ (let far : suc (v + suc k) ≡ suc v + suc k = omega arith in ap (λ n. Some (kind, n)) far)

-- prefixes

chars_by : (z l s w x : Bool) → z ≡ false → (z || (((l && true) && x) || (((s && true) && x) || (((w && true) && x) || false)))) ≡ (((l || s) || w) && x)
chars_by true l s w x is = cc
chars_by false true true true true is = refl
chars_by false true true true false is = refl
chars_by false true true false true is = refl
chars_by false true true false false is = refl
chars_by false true false true true is = refl
chars_by false true false true false is = refl
chars_by false true false false true is = refl
chars_by false true false false false is = refl
chars_by false false true true true is = refl
chars_by false false true true false is = refl
chars_by false false true false true is = refl
chars_by false false true false false is = refl
chars_by false false false true true is = refl
chars_by false false false true false is = refl
chars_by false false false false x is = refl

strs_by : (z l s w y x : Bool) → z ≡ false → (z || (y || (((s && true) && x) || (((w && true) && x) || (((l && true) && x) || false))))) ≡ (y || (((l || s) || w) && x))
strs_by true l s w y x is = cc
strs_by false l s w true x is = refl
strs_by false true true true false true is = refl
strs_by false true true true false false is = refl
strs_by false true true false false true is = refl
strs_by false true true false false false is = refl
strs_by false true false true false true is = refl
strs_by false true false true false false is = refl
strs_by false true false false false true is = refl
strs_by false true false false false false is = refl
strs_by false false true true false true is = refl
strs_by false false true true false false is = refl
strs_by false false true false false true is = refl
strs_by false false true false false false is = refl
strs_by false false false true false true is = refl
strs_by false false false true false false is = refl
strs_by false false false false false x is = refl

pub char_letter : (b : ℕ) (rest : List ℕ) → is_letter b ≡ true → is_char (b ∷ rest) ≡ (is_prefix_letter b && is_constant rest)
char_letter b rest letter =
    rw (eqb_swapped 76 b, eqb_swapped 117 b, eqb_swapped 85 b) (chars_by (is_constant (b ∷ rest)) (eqb b 76) (eqb b 117) (eqb b 85) (is_constant rest)
    (ap (λ x. (x && is_closed 39 rest) && not (x && same rest (39 ∷ []))) (differs is_letter b 39 letter refl)))

pub str_letter : (b : ℕ) (rest : List ℕ) → is_letter b ≡ true → is_str (b ∷ rest) ≡ (((eqb b 117 && begins (codes "8") rest) && is_quoted 34 (drop 1 rest)) || (is_prefix_letter b && is_quoted 34 rest))
str_letter b rest letter =
    rw (eqb_swapped 76 b, eqb_swapped 117 b, eqb_swapped 85 b) (strs_by (is_quoted 34 (b ∷ rest)) (eqb b 76) (eqb b 117) (eqb b 85) ((eqb b 117 && begins (codes "8") rest) && is_quoted 34 (drop 1 rest)) (is_quoted 34 rest)
    (ap (λ x. x && is_closed 34 rest) (differs is_letter b 34 letter refl)))

-- the kind of a text that runs past the word
past_word : (b : ℕ) (bs : List ℕ) (i : ℕ) (c s : Bool) → is_letter b ≡ true → prefix_len is_word bs < i → i ≤ length bs → is_char (b ∷ take i bs) ≡ c → is_str (b ∷ take i bs) ≡ s → kind_of (b ∷ take i bs) ≡ cond c (Some Constant) (cond s (Some Str) None)
past_word b bs i c s letter more within char str =
    letter_kind b (take i bs) false c s letter (words_false bs i more within) char str ∙ by c s
  where
    by : (c s : Bool) → long_kind false false c s false (b ∷ take i bs) ≡ cond c (Some Constant) (cond s (Some Str) None)
    by true s = refl
    by false true = refl
    by false false = nothing b bs i (omega arith) within

length_here : (t : Bool) (b : ℕ) (bs : List ℕ) → is_word b ≡ t → t ≡ true → word_length (b ∷ bs) ≡ suc (prefix_len is_word bs)
length_here true b bs word is = ap (λ t. cond t (1 + prefix_len is_word bs) 0) word ∙ (let same_length : 1 + prefix_len is_word bs ≡ suc (prefix_len is_word bs) = omega arith in same_length)
length_here false b bs word is = cc

letter_is_word : (b : ℕ) → is_letter b ≡ true → is_word b ≡ true
letter_is_word b letter = ap (λ x. x || is_digit b) letter

token_by : (b : ℕ) (bs : List ℕ) → is_letter b ≡ true → word_token (b ∷ bs) ≡ word_before (suc (prefix_len is_word bs)) (b ∷ bs) (drop (prefix_len is_word bs) bs)
token_by b bs letter = ap (λ n. word_before n (b ∷ bs) (drop n (b ∷ bs))) (length_here (is_word b) b bs refl (letter_is_word b letter))

-- a quote directly after one letter

at_39 : (cs : List ℕ) (m : ℕ) (p : Bool) → m ≤ length cs → cond (p && is_constant (39 ∷ take m cs)) (Some Constant) (cond (p && is_quoted 34 (39 ∷ take m cs)) (Some Str) None) ≡ cond (is_that (cond p (quoted_length 39 cs) None) (suc m)) (Some Constant) None
at_39 cs m true within = ap (λ x. cond x (Some Constant) None) (char_that cs m within)
at_39 cs m false within = refl

at_34 : (cs : List ℕ) (m : ℕ) (p : Bool) → m ≤ length cs → cond (p && is_constant (34 ∷ take m cs)) (Some Constant) (cond (p && is_quoted 34 (34 ∷ take m cs)) (Some Str) None) ≡ cond (is_that (cond p (quoted_length 34 cs) None) (suc m)) (Some Str) None
at_34 cs m true within = ap (λ x. cond x (Some Str) None) (str_that cs m within)
at_34 cs m false within = refl

literal_by : (c : ℕ) (cs : List ℕ) (m : ℕ) (x y p : Bool) → eqb c 39 ≡ x → eqb c 34 ≡ y → m ≤ length cs →
    cond (p && is_constant (c ∷ take m cs)) (Some Constant) (cond (p && is_quoted 34 (c ∷ take m cs)) (Some Str) None) ≡ cond (is_that (cond ((x || y) && p) (quoted_length c cs) None) (suc m)) (Some (quoted_kind c)) None
literal_by c cs m true y p single double within =
    let same_byte : 39 ≡ c = sym (eqb-true c 39 single) in
    subst (λ z. cond (p && is_constant (z ∷ take m cs)) (Some Constant) (cond (p && is_quoted 34 (z ∷ take m cs)) (Some Str) None) ≡ cond (is_that (cond p (quoted_length z cs) None) (suc m)) (Some (quoted_kind z)) None) same_byte (at_39 cs m p within)
literal_by c cs m false true p single double within =
    let same_byte : 34 ≡ c = sym (eqb-true c 34 double) in
    subst (λ z. cond (p && is_constant (z ∷ take m cs)) (Some Constant) (cond (p && is_quoted 34 (z ∷ take m cs)) (Some Str) None) ≡ cond (is_that (cond p (quoted_length z cs) None) (suc m)) (Some (quoted_kind z)) None) same_byte (at_34 cs m p within)
literal_by c cs m false false p single double within = rw (single, double) (rw (and_false p) refl)

prefix_one : (p e x y : Bool) → (p || (((e && false) && x) && y)) ≡ p
prefix_one true e x y = refl
prefix_one false true x y = refl
prefix_one false false x y = refl

no_second : (u x z : Bool) → (((u && false) && x) || z) ≡ z
no_second true x z = refl
no_second false x z = refl

one_letter : (b c : ℕ) (cs : List ℕ) → prefixed_length c 1 (b ∷ c ∷ cs) cs ≡ cond (is_quote c && is_prefix_letter b) (quoted_length c cs) None
one_letter b c cs = ap (λ x. cond (is_quote c && x) (quoted_length c cs) None) (prefix_one (is_prefix_letter b) (eqb c 34) (eqb b 117) (eqb c 56))

no_word : ℕ → Bool
no_word b = not (is_word b)

behind_kind : (b c : ℕ) (cs : List ℕ) (m : ℕ) → is_letter b ≡ true → is_word c ≡ false → prefix_len is_word (c ∷ cs) ≡ 0 → m ≤ length cs →
    kind_of (b ∷ c ∷ take m cs) ≡ cond (is_that (prefixed_length c 1 (b ∷ c ∷ cs) cs) (suc m)) (Some (quoted_kind c)) None
unfolding no_word
behind_kind b c cs m letter word none within =
    let str : is_str (b ∷ c ∷ take m cs) ≡ (is_prefix_letter b && is_quoted 34 (c ∷ take m cs)) =
    str_letter b (c ∷ take m cs) letter ∙ ap (λ x. ((eqb b 117 && (x && true)) && is_quoted 34 (take m cs)) || (is_prefix_letter b && is_quoted 34 (c ∷ take m cs))) (differs_from no_word c 56 (ap not word) refl)
    ∙ no_second (eqb b 117) (is_quoted 34 (take m cs)) _ in
    past_word b (c ∷ cs) (suc m) _ _ letter (omega arith) (omega arith) (char_letter b (c ∷ take m cs) letter) str
    ∙ literal_by c cs m (eqb c 39) (eqb c 34) (is_prefix_letter b) refl refl within
    ∙ ap (λ o. cond (is_that o (suc m)) (Some (quoted_kind c)) None) (sym (one_letter b c cs))

quoted_fits : (q : ℕ) (cs : List ℕ) (t : Bool) (n : ℕ) → cond t (quoted_length q cs) None ≡ Some n → (1 ≤ n) × (n ≤ suc (length cs))
quoted_fits q cs true n is =
    let shape = quoted_some q n cs is in
    let bound : shape.0 ≤ length cs = shape.2 in
    (omega (arith, shape.1), omega (arith, shape.1, bound))
quoted_fits q cs false n is = cc

fits_from : (bs : List ℕ) (o : Option ℕ) → ((n : ℕ) → o ≡ Some n → (1 ≤ n) × (prefix_len is_word bs + n ≤ length bs)) → Fits bs o
fits_from bs None all = tt
fits_from bs (Some n) all = all n refl

or_of : (q word : ℕ) (o : Option ℕ) → word_of (quoted_kind q) word o ≡ word_or q word o
unfolding word_of
or_of q word None = refl
or_of q word (Some n) = refl

not_word_longest : (b c : ℕ) (cs : List ℕ) → is_letter b ≡ true → is_word c ≡ false → longest (b ∷ c ∷ cs) ≡ Some (word_token (b ∷ c ∷ cs))
not_word_longest b c cs letter word =
    let none : prefix_len is_word (c ∷ cs) ≡ 0 = ap (λ t. cond t (1 + prefix_len is_word cs) 0) word in
    let o : Option ℕ = prefixed_length c 1 (b ∷ c ∷ cs) cs in
    word_longest b (c ∷ cs) (quoted_kind c) o letter
    (fits_from (c ∷ cs) o (λ n is. let fits = quoted_fits c cs _ n is in (fits.0, omega (arith, fits.1, none))))
    (λ i m is within.
    let far : i ≡ suc m = omega (arith, none) in
    ap (λ n. kind_of (b ∷ take n (c ∷ cs))) far ∙ behind_kind b c cs m letter word none (omega (arith, far)))
    ∙ ap (λ f. Some f) (
    ap (λ n. word_of (quoted_kind c) (suc n) o) none ∙ or_of c 1 o
    ∙ sym (token_by b (c ∷ cs) letter ∙ ap (λ n. word_before (suc n) (b ∷ c ∷ cs) (drop n (c ∷ cs))) none)
    )

-- a word of at least two bytes that is no prefix

alone_by : (q word : ℕ) (bytes behind : List ℕ) (t : Bool) → (is_quote q && is_prefix q word bytes) ≡ false → word_or q word (prefixed_length q word bytes behind) ≡ (Identifier, word)
alone_by q word bytes behind t none = ap (λ x. word_or q word (cond x (quoted_length q behind) None)) none

alone : (word : ℕ) (bytes behind : List ℕ) → ((q : ℕ) → is_prefix q word bytes ≡ false) → word_before word bytes behind ≡ (Identifier, word)
alone word bytes [] none = refl
alone word bytes (q ∷ behind) none = alone_by q word bytes behind true (ap (λ x. is_quote q && x) (none q) ∙ and_false (is_quote q))

second_false : (u x : Bool) → u ≡ false → (u && x) ≡ false
second_false u x is = ap (λ y. y && x) is

-- no text that runs past the word has a kind
longer_word : (b c : ℕ) (cs : List ℕ) (i : ℕ) → is_letter b ≡ true → is_word c ≡ true → prefix_len is_word (c ∷ cs) < suc i → suc i ≤ suc (length cs) →
    ((eqb b 117 && eqb 56 c) && is_quoted 34 (take i cs)) ≡ false → kind_of (b ∷ c ∷ take i cs) ≡ None
longer_word b c cs i letter word more within none =
    past_word b (c ∷ cs) (suc i) false false letter more within
    (char_letter b (c ∷ take i cs) letter ∙ ap (λ x. is_prefix_letter b && ((x && is_closed 39 (take i cs)) && not (x && same (take i cs) (39 ∷ [])))) (differs is_word c 39 word refl) ∙ and_false (is_prefix_letter b))
    (str_letter b (c ∷ take i cs) letter
    ∙ ap (λ x. ((eqb b 117 && x) && is_quoted 34 (take i cs)) || (is_prefix_letter b && is_quoted 34 (c ∷ take i cs))) (and_same (eqb 56 c))
    ∙ ap (λ x. x || (is_prefix_letter b && is_quoted 34 (c ∷ take i cs))) none
    ∙ ap (λ x. is_prefix_letter b && (x && is_closed 34 (take i cs))) (differs is_word c 34 word refl) ∙ and_false (is_prefix_letter b))

long_by : (t : Bool) (c : ℕ) (cs : List ℕ) → is_word c ≡ t → t ≡ true → prefix_len is_word (c ∷ cs) ≡ suc (prefix_len is_word cs)
long_by true c cs word is = ap (λ t. cond t (1 + prefix_len is_word cs) 0) word ∙ (let same_length : 1 + prefix_len is_word cs ≡ suc (prefix_len is_word cs) = omega arith in same_length)
long_by false c cs word is = cc

plain_word : (b c : ℕ) (cs : List ℕ) → is_letter b ≡ true → is_word c ≡ true →
    ((i : ℕ) → prefix_len is_word (c ∷ cs) < suc i → suc i ≤ suc (length cs) → ((eqb b 117 && eqb 56 c) && is_quoted 34 (take i cs)) ≡ false) →
    word_before (suc (prefix_len is_word (c ∷ cs))) (b ∷ c ∷ cs) (drop (prefix_len is_word (c ∷ cs)) (c ∷ cs)) ≡ (Identifier, suc (prefix_len is_word (c ∷ cs))) →
    longest (b ∷ c ∷ cs) ≡ Some (word_token (b ∷ c ∷ cs))
unfolding word_of
plain_word b c cs letter word none scan =
    let long = long_by (is_word c) c cs refl word in
    word_longest b (c ∷ cs) Identifier None letter tt
    (λ i m is within.
    let j : ℕ = i - 1 in
    let far : i ≡ suc j = omega (arith, long) in
    ap (λ n. kind_of (b ∷ take n (c ∷ cs))) far ∙ longer_word b c cs j letter word (omega (arith, far)) (omega (arith, far)) (none j (omega (arith, far)) (omega (arith, far))))
    ∙ ap (λ f. Some f) (sym (token_by b (c ∷ cs) letter ∙ scan))

no_prefix_by : (w1 w2 p e x y : Bool) → w1 ≡ false → (w2 && (x && y)) ≡ false → ((w1 && p) || (((e && w2) && x) && y)) ≡ false
no_prefix_by true w2 p e x y first second = cc
no_prefix_by false true p true true true first second = cc
no_prefix_by false true p true true false first second = refl
no_prefix_by false true p true false y first second = refl
no_prefix_by false true p false x y first second = refl
no_prefix_by false false p true x y first second = refl
no_prefix_by false false p false x y first second = refl

not_same : (n m : ℕ) → m < n → eqb n m ≡ false
not_same n m less = false_from_ne_true (eqb n m) (λ is. let equal : n ≡ m = eqb-true n m is in absurd (omega arith))

-- it isn't `u8`
not_u8 : (b c : ℕ) (cs : List ℕ) → is_letter b ≡ true → is_word c ≡ true → (eqb b 117 && eqb 56 c) ≡ false → longest (b ∷ c ∷ cs) ≡ Some (word_token (b ∷ c ∷ cs))
not_u8 b c cs letter word other =
    let long = long_by (is_word c) c cs refl word in
    let w : ℕ = suc (prefix_len is_word (c ∷ cs)) in
    plain_word b c cs letter word (λ i more within. second_false _ _ other)
    (alone w (b ∷ c ∷ cs) (drop (prefix_len is_word (c ∷ cs)) (c ∷ cs)) (λ q.
    no_prefix_by (eqb w 1) (eqb w 2) (is_prefix_letter b) (eqb q 34) (eqb b 117) (eqb c 56) (not_same w 1 (omega (arith, long)))
    (ap (λ x. eqb w 2 && (eqb b 117 && x)) (eqb_swapped c 56) ∙ ap (λ x. eqb w 2 && x) other ∙ and_false (eqb w 2))))

-- it is longer than `u8`
beyond_u8 : (b c d : ℕ) (ds : List ℕ) → is_letter b ≡ true → is_word c ≡ true → is_word d ≡ true → longest (b ∷ c ∷ d ∷ ds) ≡ Some (word_token (b ∷ c ∷ d ∷ ds))
beyond_u8 b c d ds letter word third =
    let long = long_by (is_word c) c (d ∷ ds) refl word in
    let longer_still = long_by (is_word d) d ds refl third in
    let w : ℕ = suc (prefix_len is_word (c ∷ d ∷ ds)) in
    plain_word b c (d ∷ ds) letter word (λ i more within. no_quote (eqb b 117 && eqb 56 c) i (omega (arith, long, longer_still)))
    (alone w (b ∷ c ∷ d ∷ ds) (drop (prefix_len is_word (c ∷ d ∷ ds)) (c ∷ d ∷ ds)) (λ q.
    no_prefix_by (eqb w 1) (eqb w 2) (is_prefix_letter b) (eqb q 34) (eqb b 117) (eqb c 56) (not_same w 1 (omega (arith, long)))
    (second_false (eqb w 2) _ (not_same w 2 (omega (arith, long, longer_still))))))
  where
    no_quote : (u : Bool) (i : ℕ) → 0 < i → (u && is_quoted 34 (take i (d ∷ ds))) ≡ false
    no_quote u zero some = absurd (omega arith)
    no_quote u (suc i) some = ap (λ x. u && (x && is_closed 34 (take i ds))) (differs is_word d 34 third refl) ∙ and_false u

-- it is `u8`
u8_quote : (d : ℕ) (ds : List ℕ) (y : Bool) → eqb d 34 ≡ y → (m : ℕ) → m ≤ length ds →
    cond (is_quoted 34 (d ∷ take m ds)) (Some Str) None ≡ cond (is_that (cond y (quoted_length 34 ds) None) (suc m)) (Some Str) None
u8_quote d ds true double m within =
    let same_byte : 34 ≡ d = sym (eqb-true d 34 double) in
    subst (λ z. cond (is_quoted 34 (z ∷ take m ds)) (Some Str) None ≡ cond (is_that (quoted_length 34 ds) (suc m)) (Some Str) None) same_byte (ap (λ x. cond x (Some Str) None) (str_that ds m within))
u8_quote d ds false double m within = ap (λ x. cond (x && is_closed 34 (take m ds)) (Some Str) None) double

u8_prefix : (d : ℕ) (ds : List ℕ) (x y : Bool) → eqb d 39 ≡ x → eqb d 34 ≡ y → word_or d 2 (prefixed_length d 2 (117 ∷ 56 ∷ d ∷ ds) ds) ≡ word_of Str 2 (cond y (quoted_length 34 ds) None)
unfolding word_of
u8_prefix d ds x true single double =
    let same_byte : 34 ≡ d = sym (eqb-true d 34 double) in
    subst (λ z. word_or z 2 (prefixed_length z 2 (117 ∷ 56 ∷ z ∷ ds) ds) ≡ word_of Str 2 (quoted_length 34 ds)) same_byte (sym (or_of 34 2 (quoted_length 34 ds)))
u8_prefix d ds x false single double = rw double (rw (and_false (eqb d 39 || false)) refl)

u8_alone : longest (117 ∷ 56 ∷ []) ≡ Some (word_token (117 ∷ 56 ∷ []))
u8_alone = refl

u8_behind : (d : ℕ) (ds : List ℕ) → is_word d ≡ false → longest (117 ∷ 56 ∷ d ∷ ds) ≡ Some (word_token (117 ∷ 56 ∷ d ∷ ds))
u8_behind d ds word =
    let none : prefix_len is_word (d ∷ ds) ≡ 0 = ap (λ t. cond t (1 + prefix_len is_word ds) 0) word in
    let one : prefix_len is_word (56 ∷ d ∷ ds) ≡ 1 = ap (λ n. 1 + n) none in
    let o : Option ℕ = cond (eqb d 34) (quoted_length 34 ds) None in
    word_longest 117 (56 ∷ d ∷ ds) Str o refl
    (fits_from (56 ∷ d ∷ ds) o (λ n is. let fits = quoted_fits 34 ds (eqb d 34) n is in (fits.0, omega (arith, fits.1, one))))
    (λ i m is within.
    let far : i ≡ suc (suc m) = omega (arith, one) in
    ap (λ n. kind_of (117 ∷ take n (56 ∷ d ∷ ds))) far
    ∙ past_word 117 (56 ∷ d ∷ ds) (suc (suc m)) false _ refl (omega (arith, one)) (omega (arith, far)) refl (or_false (is_quoted 34 (d ∷ take m ds)))
    ∙ u8_quote d ds (eqb d 34) refl m (omega (arith, far)))
    ∙ ap (λ f. Some f) (
    ap (λ n. word_of Str (suc n) o) one
    ∙ sym (token_by 117 (56 ∷ d ∷ ds) refl ∙ ap (λ n. word_before (suc n) (117 ∷ 56 ∷ d ∷ ds) (drop n (56 ∷ d ∷ ds))) one ∙ u8_prefix d ds (eqb d 39) (eqb d 34) refl refl)
    )

is_u8 : (b c : ℕ) (cs : List ℕ) (x y : Bool) → eqb b 117 ≡ x → eqb 56 c ≡ y → (x && y) ≡ true → longest (117 ∷ 56 ∷ cs) ≡ Some (word_token (117 ∷ 56 ∷ cs)) → longest (b ∷ c ∷ cs) ≡ Some (word_token (b ∷ c ∷ cs))
is_u8 b c cs true true first second is here =
    let one : 117 ≡ b = sym (eqb-true b 117 first) in
    let two : 56 ≡ c = eqb-true 56 c second in
    subst (λ z. longest (z ∷ c ∷ cs) ≡ Some (word_token (z ∷ c ∷ cs))) one (subst (λ z. longest (117 ∷ z ∷ cs) ≡ Some (word_token (117 ∷ z ∷ cs))) two here)
is_u8 b c cs true false first second is here = cc
is_u8 b c cs false y first second is here = cc

word_by : (b c : ℕ) (cs : List ℕ) (u : Bool) → is_letter b ≡ true → is_word c ≡ true → (eqb b 117 && eqb 56 c) ≡ u → longest (b ∷ c ∷ cs) ≡ Some (word_token (b ∷ c ∷ cs))
word_by b c cs false letter word is = not_u8 b c cs letter word is
word_by b c [] true letter word is = is_u8 b c [] (eqb b 117) (eqb 56 c) refl refl is u8_alone
word_by b c (d ∷ ds) true letter word is = third (is_word d) refl
  where
    third : (t : Bool) → is_word d ≡ t → longest (b ∷ c ∷ d ∷ ds) ≡ Some (word_token (b ∷ c ∷ d ∷ ds))
    third true behind = beyond_u8 b c d ds letter word behind
    third false behind = is_u8 b c (d ∷ ds) (eqb b 117) (eqb 56 c) refl refl is (u8_behind d ds behind)

two_bytes : (b c : ℕ) (cs : List ℕ) (t : Bool) → is_letter b ≡ true → is_word c ≡ t → longest (b ∷ c ∷ cs) ≡ Some (word_token (b ∷ c ∷ cs))
two_bytes b c cs true letter word = word_by b c cs (eqb b 117 && eqb 56 c) letter word refl
two_bytes b c cs false letter word = not_word_longest b c cs letter word

pub letter_longest : (b : ℕ) (bs : List ℕ) → is_letter b ≡ true → longest (b ∷ bs) ≡ Some (word_token (b ∷ bs))
unfolding word_of
letter_longest b [] letter = word_longest b [] Identifier None letter tt (λ i m is within. absurd (omega arith)) ∙ ap (λ f. Some f) (sym (token_by b [] letter))
letter_longest b (c ∷ cs) letter = two_bytes b c cs (is_word c) letter refl
