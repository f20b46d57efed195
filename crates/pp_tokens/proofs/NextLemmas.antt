-- No token goes on over the end of its neighbour.
use Rattle.std.proofs.Common.{◌≡◌, ◌≢◌, ℕ, ◌≤◌, leb, Bool, true, false, ◌||◌, List, [], ◌∷◌, ◌++◌, length, Some, None, refl, sym, ◌∙◌, ap, subst, arith, append_assoc, append-nil, length-append, inl, inr, ◌⊎◌}
use Rattle.std.specs.List.{list_all}
use Rattle.std.specs.Cmp.Lexicographic.{same_text}
use Rattle.std.proofs.lemmas.List.{append_cancel_left}
use Rattle.std.proofs.lemmas.Bool.{and_parts, false_from_ne_true}
use borrow.Author.Tests.{leb-true}
use lib.Chars.{codes}
use Rattle.pp_tokens.specs.declared.token.Kind.{Kind}
use Rattle.pp_tokens.specs.declared.token.Kind.TheVariants.{LoneQuote}
use Rattle.pp_tokens.specs.Kinds.{same, is_word, is_quote, is_identifier, is_number, is_closed, punctuators, is_punct, kind_of}
use Rattle.pp_tokens.proofs.KindLemmas.{clash}
use Rattle.pp_tokens.proofs.CloseLemmas.{all_back, no_number_with, no_identifier_with, no_punct_with, identifier_front, number_front, in_table, Fails, fails, none-from}
use Rattle.pp_tokens.proofs.LiteralLemmas.{Literal, literal_of_char, literal_of_str, closed_end}
use Rattle.pp_tokens.proofs.FrontOfLemmas.{sort_of, quoted_token, front_of_prefix}

-- what the byte after the token is in a literal that goes on from it
data Next (t : List ℕ) (c : ℕ) (more : List ℕ) (l : Literal (t ++ c ∷ more)) : Type 0 where
  quote : l.quote ≡ c → l.body ≡ more → Next t c more l
  word : (y : List ℕ) → l.prefix ≡ t ++ c ∷ y → Next t c more l

next_by : (t : List ℕ) (c : ℕ) (more : List ℕ) (l : Literal (t ++ c ∷ more)) (y : List ℕ) → l.prefix ≡ t ++ y → c ∷ more ≡ y ++ l.quote ∷ l.body → Next t c more l
next_by t c more l [] front is = quote (let same_byte : c ≡ l.quote = cc in sym same_byte) (let rest : more ≡ l.body = cc in sym rest)
next_by t c more l (b ∷ y) front is = word y (front ∙ (let same_byte : c ≡ b = cc in ap (λ x. t ++ x ∷ y) (sym same_byte)))

next_of : (k : Kind) (t : List ℕ) (c : ℕ) (more : List ℕ) (l : Literal (t ++ c ∷ more)) → kind_of t ≡ Some k → k ≢ LoneQuote → Next t c more l
next_of k t c more l is not_lone =
    let front = front_of_prefix k t (c ∷ more) c more l is not_lone refl in
    next_by t c more l front.0 front.1 (append_cancel_left t (c ∷ more) (front.0 ++ l.quote ∷ l.body) (l.is ∙ ap (λ p. p ++ l.quote ∷ l.body) front.1 ∙ append_assoc t front.0 (l.quote ∷ l.body)))

empty_kind : (k : Kind) → kind_of [] ≡ Some k → ⊥
empty_kind k is = cc

-- white space after a token
blank_literal : (k : Kind) (t more : List ℕ) → kind_of t ≡ Some k → k ≢ LoneQuote → Literal (t ++ 32 ∷ more) → ⊥
blank_literal k t more is not_lone l = by (next_of k t 32 more l is not_lone)
  where
    by : Next t 32 more l → ⊥
    by (quote sort body) = clash (is_quote l.quote) l.sort (ap is_quote sort)
    by (word y front) = clash (is_word 32) (and_parts (is_word 32) (list_all is_word y) (all_back is_word t (32 ∷ y) (ap (list_all is_word) (sym front) ∙ l.words))).0 refl

long_text : (a : ℕ) (t : List ℕ) (b : ℕ) (more : List ℕ) → 2 ≤ length (a ∷ (t ++ b ∷ more))
long_text a t b more = omega (arith, length-append t (b ∷ more))

pub blank-behind : (k : Kind) (t more : List ℕ) → kind_of t ≡ Some k → k ≢ LoneQuote → kind_of (t ++ 32 ∷ more) ≡ None
blank-behind k [] more is not_lone = absurd (empty_kind k is)
blank-behind k (a ∷ t) more is not_lone =
    none-from ((a ∷ t) ++ 32 ∷ more) (long_text a t 32 more) (record {
      identifier = no_identifier_with a t 32 more refl;
      number = no_number_with a t 32 more (λ before. refl);
      char = false_from_ne_true _ (λ char. blank_literal k (a ∷ t) more is not_lone (literal_of_char _ char));
      str = false_from_ne_true _ (λ str. blank_literal k (a ∷ t) more is not_lone (literal_of_str _ str));
      punct = no_punct_with 32 (a ∷ t) more refl;
    })

-- A token, its neighbour, and the byte after it: the prefixes of the neighbour make no token with it, the two are no dots, and the byte makes no token with the neighbour.
pub record Neighbours (k j : Kind) (t u : List ℕ) (d : ℕ) : Type 0 where
  pub first : kind_of t ≡ Some k
  pub first_closed : k ≢ LoneQuote
  pub second : kind_of u ≡ Some j
  pub second_closed : j ≢ LoneQuote
  pub fronts : (w z : List ℕ) → u ≡ w ++ z → w ≢ [] → kind_of (t ++ w) ≡ None
  pub no_dots : t ≡ codes "." → u ≡ codes "." → ⊥
  pub behind : kind_of (u ++ d ∷ []) ≡ None

some_bytes : (b : ℕ) (u : List ℕ) → b ∷ u ≢ []
some_bytes b u is = cc

together : (k j : Kind) (t : List ℕ) (b : ℕ) (u : List ℕ) (d : ℕ) → Neighbours k j t (b ∷ u) d → Fails (t ++ b ∷ u)
together k j t b u d n = fails (t ++ b ∷ u) (n.fronts (b ∷ u) [] (sym (append-nil (b ∷ u))) (some_bytes b u))

not_empty : (t : List ℕ) (b : ℕ) (y : List ℕ) → t ++ b ∷ y ≢ []
not_empty [] b y is = cc
not_empty (a ∷ t) b y is = cc

name_by : (t : List ℕ) (b : ℕ) (y more : List ℕ) (l : Literal (t ++ b ∷ more)) → l.prefix ≡ t ++ b ∷ y → is_identifier ((t ++ b ∷ []) ++ y) ≡ true
name_by t b y more l front = ap is_identifier (append_assoc t (b ∷ []) y ∙ sym front) ∙ l.name (λ empty. not_empty t b y (sym front ∙ empty))

name_front : (t : List ℕ) (b : ℕ) (y : List ℕ) → is_identifier ((t ++ b ∷ []) ++ y) ≡ true → is_identifier (t ++ b ∷ []) ≡ true
name_front [] b y is = identifier_front b [] y is
name_front (a ∷ t) b y is = identifier_front a (t ++ b ∷ []) y is

one_byte : (b : ℕ) → b ∷ [] ≢ []
one_byte b is = cc

over_by : (k j : Kind) (t : List ℕ) (b : ℕ) (u : List ℕ) (d : ℕ) (more : List ℕ) (l : Literal (t ++ b ∷ (u ++ d ∷ more))) → Neighbours k j t (b ∷ u) d → Next t b (u ++ d ∷ more) l → ⊥
over_by k j t b u d more l n (quote sort body) =
    let quoted : is_quote b ≡ true = ap is_quote (sym sort) ∙ l.sort in
    let closed : is_closed b u ≡ true = quoted_token j [] b u (sort_of j (b ∷ u) n.second) n.second_closed quoted refl in
    clash (is_closed l.quote l.body) l.closed (ap (λ q. is_closed q l.body) sort ∙ ap (is_closed b) body ∙ closed_end b u d more closed)
over_by k j t b u d more l n (word y front) =
    clash (is_identifier (t ++ b ∷ [])) (name_front t b y (name_by t b y (u ++ d ∷ more) l front)) (fails (t ++ b ∷ []) (n.fronts (b ∷ []) u refl (one_byte b))).identifier

over_literal : (k j : Kind) (t : List ℕ) (b : ℕ) (u : List ℕ) (d : ℕ) (more : List ℕ) → Neighbours k j t (b ∷ u) d → Literal (t ++ b ∷ (u ++ d ∷ more)) → ⊥
over_literal k j t b u d more n l = over_by k j t b u d more l n (next_of k t b (u ++ d ∷ more) l n.first n.first_closed)

-- punctuators of three bytes and more
abbrev is_long : List ℕ → Bool
is_long s = same s (codes "...") || (same s (codes "<<=") || (same s (codes ">>=") || same s (codes "%:%:")))

three : (a b d : ℕ) (t u more : List ℕ) (p q r : ℕ) → (a ∷ t) ++ (b ∷ u) ++ (d ∷ more) ≡ p ∷ q ∷ r ∷ [] → ((a ∷ t) ≡ p ∷ []) × ((b ∷ u) ≡ q ∷ [])
three a b d [] [] more p q r is = ((let one : a ≡ p = cc in ap (λ x. x ∷ []) one), (let two : b ≡ q = cc in ap (λ x. x ∷ []) two))
three a b d [] (c ∷ []) more p q r is = cc
three a b d [] (c ∷ e ∷ u) more p q r is = cc
three a b d (c ∷ []) u more p q r is = absurd (three_long a c b d u more p q r is)
  where
    three_long : (a c b d : ℕ) (u more : List ℕ) (p q r : ℕ) → a ∷ c ∷ (b ∷ u) ++ (d ∷ more) ≡ p ∷ q ∷ r ∷ [] → ⊥
    three_long a c b d [] more p q r is = cc
    three_long a c b d (e ∷ u) more p q r is = cc
three a b d (c ∷ e ∷ t) u more p q r is = absurd (three_longer a c e b d t u more p q r is)
  where
    three_longer : (a c e b d : ℕ) (t u more : List ℕ) (p q r : ℕ) → a ∷ c ∷ e ∷ ((t ++ (b ∷ u)) ++ (d ∷ more)) ≡ p ∷ q ∷ r ∷ [] → ⊥
    three_longer a c e b d [] u more p q r is = cc
    three_longer a c e b d (f ∷ t) u more p q r is = cc

-- the ways to cut four bytes
data Four (t u : List ℕ) (d p q r s : ℕ) : Type 0 where
  halves : t ≡ p ∷ [] → u ≡ q ∷ [] → Four t u d p q r s
  middle : u ≡ q ∷ r ∷ [] → Four t u d p q r s
  front : t ≡ p ∷ q ∷ [] → u ≡ r ∷ [] → d ≡ s → Four t u d p q r s

four : (a b d : ℕ) (t u more : List ℕ) (p q r s : ℕ) → (a ∷ t) ++ (b ∷ u) ++ (d ∷ more) ≡ p ∷ q ∷ r ∷ s ∷ [] → Four (a ∷ t) (b ∷ u) d p q r s
four a b d [] [] more p q r s is = halves (let one : a ≡ p = cc in ap (λ x. x ∷ []) one) (let two : b ≡ q = cc in ap (λ x. x ∷ []) two)
four a b d [] (c ∷ []) more p q r s is = middle (let one : b ≡ q = cc in let two : c ≡ r = cc in λ i. one i ∷ two i ∷ [])
four a b d [] (c ∷ e ∷ u) more p q r s is = absurd (too_long a b c e d u more p q r s is)
  where
    too_long : (a b c e d : ℕ) (u more : List ℕ) (p q r s : ℕ) → a ∷ b ∷ c ∷ e ∷ (u ++ d ∷ more) ≡ p ∷ q ∷ r ∷ s ∷ [] → ⊥
    too_long a b c e d [] more p q r s is = cc
    too_long a b c e d (f ∷ u) more p q r s is = cc
four a b d (c ∷ []) [] more p q r s is =
    front (let one : a ≡ p = cc in let two : c ≡ q = cc in λ i. one i ∷ two i ∷ []) (let three_is : b ≡ r = cc in ap (λ x. x ∷ []) three_is) (let last : d ≡ s = cc in last)
four a b d (c ∷ []) (e ∷ u) more p q r s is = absurd (too_long a c b e d u more p q r s is)
  where
    too_long : (a b c e d : ℕ) (u more : List ℕ) (p q r s : ℕ) → a ∷ b ∷ c ∷ e ∷ (u ++ d ∷ more) ≡ p ∷ q ∷ r ∷ s ∷ [] → ⊥
    too_long a b c e d [] more p q r s is = cc
    too_long a b c e d (f ∷ u) more p q r s is = cc
four a b d (c ∷ e ∷ t) u more p q r s is = absurd (too_long a c e t b u d more p q r s is)
  where
    too_long : (a c e : ℕ) (t : List ℕ) (b : ℕ) (u : List ℕ) (d : ℕ) (more : List ℕ) (p q r s : ℕ) → a ∷ c ∷ e ∷ ((t ++ b ∷ u) ++ d ∷ more) ≡ p ∷ q ∷ r ∷ s ∷ [] → ⊥
    too_long a c e [] b [] d more p q r s is = cc
    too_long a c e [] b (f ∷ u) d more p q r s is = cc
    too_long a c e (f ∷ []) b u d more p q r s is = cc
    too_long a c e (f ∷ g ∷ t) b u d more p q r s is = cc

three_kinds : (k j : Kind) (a : ℕ) (t : List ℕ) (b : ℕ) (u : List ℕ) (d : ℕ) (p q : ℕ) → Neighbours k j (a ∷ t) (b ∷ u) d → (a ∷ t) ≡ p ∷ [] → (b ∷ u) ≡ q ∷ [] → kind_of (p ∷ q ∷ []) ≡ None
three_kinds k j a t b u d p q n first second =
    ap (λ xs. kind_of (xs ++ q ∷ [])) (sym first) ∙ ap (λ ys. kind_of ((a ∷ t) ++ ys)) (sym second) ∙ n.fronts (b ∷ u) [] (sym (append-nil (b ∷ u))) (some_bytes b u)

four_kinds : (k j : Kind) (a : ℕ) (t : List ℕ) (b : ℕ) (u : List ℕ) (d : ℕ) → Neighbours k j (a ∷ t) (b ∷ u) d → Four (a ∷ t) (b ∷ u) d 37 58 37 58 → ⊥
four_kinds k j a t b u d n (halves first second) = let none = three_kinds k j a t b u d 37 58 n first second in cc
four_kinds k j a t b u d n (middle second) = let some = ap kind_of (sym second) ∙ n.second in cc
four_kinds k j a t b u d n (front first second last) = let none = ap (λ xs. kind_of (xs ++ 58 ∷ [])) (sym second) ∙ ap (λ x. kind_of ((b ∷ u) ++ x ∷ [])) (sym last) ∙ n.behind in cc

long_cases : (s : List ℕ) (x y z w : Bool) → same s (codes "...") ≡ x → same s (codes "<<=") ≡ y → same s (codes ">>=") ≡ z → same s (codes "%:%:") ≡ w → (x || (y || (z || w))) ≡ true →
    (s ≡ codes "...") ⊎ ((s ≡ codes "<<=") ⊎ ((s ≡ codes ">>=") ⊎ (s ≡ codes "%:%:")))
long_cases s true y z w one two three_is four_is is = inl (same_text s (codes "...") (sym one))
long_cases s false true z w one two three_is four_is is = inr (inl (same_text s (codes "<<=") (sym two)))
long_cases s false false true w one two three_is four_is is = inr (inr (inl (same_text s (codes ">>=") (sym three_is))))
long_cases s false false false true one two three_is four_is is = inr (inr (inr (same_text s (codes "%:%:") (sym four_is))))
long_cases s false false false false one two three_is four_is is = cc

not_short : (s : List ℕ) → 3 ≤ length s → leb (length s) 2 ≡ false
not_short s long = false_from_ne_true _ (λ is. let short : length s ≤ 2 = leb-true (length s) 2 is in absurd (omega arith))

long_here : (s : List ℕ) (x : Bool) → leb (length s) 2 ≡ x → 3 ≤ length s → (x || is_long s) ≡ true → is_long s ≡ true
long_here s true short long is = absurd (clash (leb (length s) 2) short (not_short s long))
long_here s false short long is = is

three_more : (a b d : ℕ) (t u more : List ℕ) → 3 ≤ length ((a ∷ t) ++ (b ∷ u) ++ (d ∷ more))
three_more a b d t u more = omega (arith, length-append ((a ∷ t) ++ (b ∷ u)) (d ∷ more), length-append (a ∷ t) (b ∷ u))

over_punct : (k j : Kind) (a : ℕ) (t : List ℕ) (b : ℕ) (u : List ℕ) (d : ℕ) (more : List ℕ) → Neighbours k j (a ∷ t) (b ∷ u) d → is_punct ((a ∷ t) ++ (b ∷ u) ++ (d ∷ more)) ≡ true → ⊥
over_punct k j a t b u d more n is =
    let s : List ℕ = (a ∷ t) ++ (b ∷ u) ++ (d ∷ more) in
    let test = in_table (λ p. leb (length p) 2 || is_long p) punctuators s refl is in
    let long = long_here s (leb (length s) 2) refl (three_more a b d t u more) test in
    elim (long_cases s _ _ _ _ refl refl refl refl long) [
      | inl dots ↦ let parts = three a b d t u more 46 46 46 dots in n.no_dots parts.0 parts.1
      | inr later ↦ elim later [
        | inl left ↦ let parts = three a b d t u more 60 60 61 left in let none = three_kinds k j a t b u d 60 60 n parts.0 parts.1 in cc
        | inr more_later ↦ elim more_later [
          | inl right ↦ let parts = three a b d t u more 62 62 61 right in let none = three_kinds k j a t b u d 62 62 n parts.0 parts.1 in cc
          | inr hashes ↦ four_kinds k j a t b u d n (four a b d t u more 37 58 37 58 hashes)
        ]
      ]
    ]

number_over : (a : ℕ) (t : List ℕ) (b : ℕ) (u more : List ℕ) → is_number ((a ∷ t) ++ (b ∷ u) ++ more) ≡ true → is_number ((a ∷ t) ++ (b ∷ u)) ≡ true
number_over a [] b u more is = number_front a b u more is
number_over a (c ∷ t) b u more is = number_front a c (t ++ b ∷ u) more is

-- no token begins with both and goes on
pub over-neighbour : (k j : Kind) (t u : List ℕ) (d : ℕ) (more : List ℕ) → Neighbours k j t u d → kind_of (t ++ u ++ d ∷ more) ≡ None
over-neighbour k j [] u d more n = absurd (empty_kind k n.first)
over-neighbour k j (a ∷ t) [] d more n = absurd (empty_kind j n.second)
over-neighbour k j (a ∷ t) (b ∷ u) d more n =
    let both_fail = together k j (a ∷ t) b u d n in
    let assoc : (a ∷ t) ++ (b ∷ u) ++ (d ∷ more) ≡ (a ∷ t) ++ (b ∷ (u ++ d ∷ more)) = append_assoc (a ∷ t) (b ∷ u) (d ∷ more) in
    let no_literal : Literal ((a ∷ t) ++ (b ∷ u) ++ (d ∷ more)) → ⊥ = λ l. over_literal k j (a ∷ t) b u d more n (subst Literal assoc l) in
    none-from ((a ∷ t) ++ (b ∷ u) ++ (d ∷ more)) (let long = three_more a b d t u more in omega (arith, long)) (record {
      identifier = false_from_ne_true _ (λ is. clash (is_identifier ((a ∷ t) ++ (b ∷ u))) (identifier_front a (t ++ b ∷ u) (d ∷ more) is) both_fail.identifier);
      number = false_from_ne_true _ (λ is. clash (is_number ((a ∷ t) ++ (b ∷ u))) (number_over a t b u (d ∷ more) is) both_fail.number);
      char = false_from_ne_true _ (λ is. no_literal (literal_of_char _ is));
      str = false_from_ne_true _ (λ is. no_literal (literal_of_str _ is));
      punct = false_from_ne_true _ (λ is. over_punct k j a t b u d more n is);
    })
