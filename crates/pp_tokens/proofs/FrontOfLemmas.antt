-- What a token is that begins a longer text.
use Rattle.std.proofs.Common.{◌≡◌, ◌≢◌, ℕ, eqb, Bool, true, false, not, ◌&&◌, ◌||◌, List, [], ◌∷◌, ◌++◌, Some, refl, sym, ◌∙◌, ap, subst}
use Rattle.std.specs.List.{list_all}
use Rattle.std.specs.Option.{unwrap_or}
use Rattle.std.proofs.lemmas.Bool.{and_parts}
use borrow.Author.Tests.{eqb-true}
use Rattle.pp_tokens.specs.declared.token.Kind.{Kind}
use Rattle.pp_tokens.specs.declared.token.Kind.TheVariants.{LoneQuote}
use Rattle.pp_tokens.specs.Kinds.{is_digit, is_letter, is_word, is_quote, is_blank, is_identifier, goes_on, begins_number, is_number, is_closed, is_char, is_str, is_punct, is_one, kind_of}
use Rattle.pp_tokens.proofs.KindLemmas.{kind_by, kind_tests, clash}
use Rattle.pp_tokens.proofs.CloseLemmas.{all_back, no_number_with, no_punct_with}
use Rattle.pp_tokens.proofs.LiteralLemmas.{Literal, literal_of_char, literal_of_str, closed_end}

-- which test a token passes
pub data Sort (k : Kind) (t : List ℕ) : Type 0 where
  identifier : is_identifier t ≡ true → Sort k t
  number : is_number t ≡ true → Sort k t
  literal : Literal t → Sort k t
  punct : is_punct t ≡ true → Sort k t
  lone : k ≡ LoneQuote → Sort k t
  other : is_one is_quote t ≡ false → is_one (λ b. not (is_blank b || eqb b 10)) t ≡ true → Sort k t

same_kind : (j k : Kind) → Some j ≡ Some k → j ≡ k
same_kind j k is = ap (λ o. unwrap_or o j) is

sort_by : (k : Kind) (t : List ℕ) (i n c s p q o : Bool) → is_identifier t ≡ i → is_number t ≡ n → is_char t ≡ c → is_str t ≡ s → is_punct t ≡ p → is_one is_quote t ≡ q → is_one (λ b. not (is_blank b || eqb b 10)) t ≡ o → kind_by i n c s p q o ≡ Some k → Sort k t
sort_by k t true n c s p q o ei en ec es ep eq eo is = identifier ei
sort_by k t false true c s p q o ei en ec es ep eq eo is = number en
sort_by k t false false true s p q o ei en ec es ep eq eo is = literal (literal_of_char t ec)
sort_by k t false false false true p q o ei en ec es ep eq eo is = literal (literal_of_str t es)
sort_by k t false false false false true q o ei en ec es ep eq eo is = punct ep
sort_by k t false false false false false true o ei en ec es ep eq eo is = lone (sym (same_kind LoneQuote k is))
sort_by k t false false false false false false true ei en ec es ep eq eo is = other eq eo
sort_by k t false false false false false false false ei en ec es ep eq eo is = cc

pub sort_of : (k : Kind) (t : List ℕ) → kind_of t ≡ Some k → Sort k t
sort_of k t is = sort_by k t _ _ _ _ _ _ _ refl refl refl refl refl refl refl (sym (kind_tests t) ∙ is)

-- a quote is no letter, digit or sign
quote_cases : (P : ℕ → Type 0) (q : ℕ) (x y : Bool) → eqb q 39 ≡ x → eqb q 34 ≡ y → (x || y) ≡ true → P 39 → P 34 → P q
quote_cases P q true y single double is first second = subst P (sym (eqb-true q 39 single)) first
quote_cases P q false true single double is first second = subst P (sym (eqb-true q 34 double)) second
quote_cases P q false false single double is first second = cc

pub of_quote : (P : ℕ → Type 0) (q : ℕ) → is_quote q ≡ true → P 39 → P 34 → P q
of_quote P q is first second = quote_cases P q (eqb q 39) (eqb q 34) refl refl is first second

quote_no_word : (q : ℕ) → is_quote q ≡ true → is_word q ≡ false
quote_no_word q is = of_quote (λ x. is_word x ≡ false) q is refl refl

-- the first quote of two equal texts
first_quote : (p r : List ℕ) (q s : ℕ) (xs ys : List ℕ) → list_all is_word p ≡ true → list_all is_word r ≡ true → is_word q ≡ false → is_word s ≡ false → p ++ q ∷ xs ≡ r ++ s ∷ ys → (p ≡ r) × (q ≡ s) × (xs ≡ ys)
first_quote [] [] q s xs ys one two three four is = (refl, cc, cc)
first_quote [] (b ∷ r) q s xs ys one two three four is = let same_byte : q ≡ b = cc in absurd (clash (is_word b) (and_parts (is_word b) _ two).0 (ap is_word (sym same_byte) ∙ three))
first_quote (a ∷ p) [] q s xs ys one two three four is = let same_byte : a ≡ s = cc in absurd (clash (is_word a) (and_parts (is_word a) _ one).0 (ap is_word same_byte ∙ four))
first_quote (a ∷ p) (b ∷ r) q s xs ys one two three four is =
    let head : a ≡ b = cc in
    let tail : p ++ q ∷ xs ≡ r ++ s ∷ ys = cc in
    let inner = first_quote p r q s xs ys (and_parts (is_word a) _ one).1 (and_parts (is_word b) _ two).1 three four tail in
    ((λ i. head i ∷ inner.0 i), inner.1, inner.2)

-- a token with a quote in it after letters and digits is closed there
identifier_words : (t : List ℕ) → is_identifier t ≡ true → list_all is_word t ≡ true
identifier_words [] is = cc
identifier_words (b ∷ bs) is = let parts = and_parts (is_letter b) _ is in ap (λ x. (x || is_digit b) && list_all is_word bs) parts.0 ∙ parts.1

quoted_identifier : (p : List ℕ) (q : ℕ) (body : List ℕ) → is_word q ≡ false → is_identifier (p ++ q ∷ body) ≡ true → ⊥
quoted_identifier p q body apart is = clash (is_word q) (and_parts (is_word q) _ (all_back is_word p (q ∷ body) (identifier_words (p ++ q ∷ body) is))).0 apart

quoted_number : (p : List ℕ) (q : ℕ) (body : List ℕ) → is_quote q ≡ true → is_number (p ++ q ∷ body) ≡ true → ⊥
quoted_number [] q body sort is = clash _ (and_parts (begins_number q body) _ is).0 (of_quote (λ x. begins_number x body ≡ false) q sort refl refl)
quoted_number (x ∷ xs) q body sort is =
    clash _ is (no_number_with x xs q body (λ before. of_quote (λ z. goes_on before z ≡ false) q sort refl refl))

quoted_one : (p : List ℕ) (q : ℕ) (body : List ℕ) → is_quote q ≡ true → is_one is_quote (p ++ q ∷ body) ≡ false → is_one (λ b. not (is_blank b || eqb b 10)) (p ++ q ∷ body) ≡ true → ⊥
quoted_one [] q [] sort alone one = clash (is_quote q) sort alone
quoted_one [] q (c ∷ body) sort alone one = cc
quoted_one (a ∷ []) q body sort alone one = cc
quoted_one (a ∷ b ∷ p) q body sort alone one = cc

pub quoted_token : (k : Kind) (p : List ℕ) (q : ℕ) (body : List ℕ) → Sort k (p ++ q ∷ body) → k ≢ LoneQuote → is_quote q ≡ true → list_all is_word p ≡ true → is_closed q body ≡ true
quoted_token k p q body (identifier is) not_lone sort words = absurd (quoted_identifier p q body (quote_no_word q sort) is)
quoted_token k p q body (number is) not_lone sort words = absurd (quoted_number p q body sort is)
quoted_token k p q body (punct is) not_lone sort words =
    absurd (clash _ is (of_quote (λ x. is_punct (p ++ x ∷ body) ≡ false) q sort (no_punct_with 39 p body refl) (no_punct_with 34 p body refl)))
quoted_token k p q body (lone is) not_lone sort words = absurd (not_lone is)
quoted_token k p q body (other alone one) not_lone sort words = absurd (quoted_one p q body sort alone one)
quoted_token k p q body (literal l) not_lone sort words =
    let same_parts = first_quote p l.prefix q l.quote body l.body words l.words (quote_no_word q sort) (quote_no_word l.quote l.sort) l.is in
    subst (λ x. is_closed x body ≡ true) (sym same_parts.1) (subst (λ x. is_closed l.quote x ≡ true) (sym same_parts.2) l.closed)

-- where a text is cut
pub data Cut (t v p rest : List ℕ) : Type 0 where
  within : (z : List ℕ) → p ≡ t ++ z → v ≡ z ++ rest → Cut t v p rest
  beyond : (z : List ℕ) → t ≡ p ++ z → rest ≡ z ++ v → Cut t v p rest

cut_more : (a : ℕ) (t v p rest : List ℕ) → Cut t v p rest → Cut (a ∷ t) v (a ∷ p) rest
cut_more a t v p rest (within z first second) = within z (ap (λ xs. a ∷ xs) first) second
cut_more a t v p rest (beyond z first second) = beyond z (ap (λ xs. a ∷ xs) first) second

pub cut_of : (t v p rest : List ℕ) → t ++ v ≡ p ++ rest → Cut t v p rest
cut_of [] v p rest is = within p refl is
cut_of (a ∷ t) v [] rest is = beyond (a ∷ t) refl (sym is)
cut_of (a ∷ t) v (b ∷ p) rest is =
    let head : a ≡ b = cc in
    let tail : t ++ v ≡ p ++ rest = cc in
    subst (λ x. Cut (a ∷ t) v (x ∷ p) rest) head (cut_more a t v p rest (cut_of t v p rest tail))

-- a token that a literal goes on from is a prefix of its prefix
beyond_prefix : (k : Kind) (t v : List ℕ) (c : ℕ) (more : List ℕ) (l : Literal (t ++ v)) (z : List ℕ) → Sort k t → k ≢ LoneQuote → v ≡ c ∷ more → t ≡ l.prefix ++ z → l.quote ∷ l.body ≡ z ++ v → (y : List ℕ) × (l.prefix ≡ t ++ y)
beyond_prefix k t v c more l [] sort not_lone some front rest = ([], sym (front ∙ append_nil l.prefix) ∙ sym (append_nil t))
  where
    append_nil : (xs : List ℕ) → xs ++ [] ≡ xs
    append_nil [] = refl
    append_nil (x ∷ xs) = ap (λ ys. x ∷ ys) (append_nil xs)
beyond_prefix k t v c more l (q ∷ z) sort not_lone some front rest =
    let quote : l.quote ≡ q = cc in
    let body : l.body ≡ z ++ v = cc in
    let token : t ≡ l.prefix ++ l.quote ∷ z = front ∙ ap (λ x. l.prefix ++ x ∷ z) (sym quote) in
    let closed : is_closed l.quote z ≡ true = quoted_token k l.prefix l.quote z (subst (Sort k) token sort) not_lone l.sort l.words in
    absurd (clash _ l.closed (ap (is_closed l.quote) (body ∙ ap (λ x. z ++ x) some) ∙ closed_end l.quote z c more closed))

pub front_of_prefix : (k : Kind) (t v : List ℕ) (c : ℕ) (more : List ℕ) (l : Literal (t ++ v)) → kind_of t ≡ Some k → k ≢ LoneQuote → v ≡ c ∷ more → (y : List ℕ) × (l.prefix ≡ t ++ y)
front_of_prefix k t v c more l is not_lone some = by (cut_of t v l.prefix (l.quote ∷ l.body) l.is)
  where
    by : Cut t v l.prefix (l.quote ∷ l.body) → (y : List ℕ) × (l.prefix ≡ t ++ y)
    by (within z first second) = (z, first)
    by (beyond z first second) = beyond_prefix k t v c more l z (sort_of k t is) not_lone some first second
