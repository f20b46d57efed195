-- The longest punctuator stands first in the table, and other bytes stand alone.
use Rattle.std.proofs.Common.{◌≡◌, ℕ, zero, suc, ◌≤◌, ◌<◌, eqb, Bool, true, false, not, ◌&&◌, ◌||◌, cond, List, [], ◌∷◌, length, take, Option, Some, None, refl, sym, ◌∙◌, ap, subst, arith, eq-eqb}
use Rattle.std.specs.List.{list_any, list_all, find}
use Rattle.std.specs.Option.{option_map}
use Rattle.std.proofs.lemmas.Bool.{and_parts, or_from, false_from_ne_true}
use borrow.Author.Tests.{eqb-true}
use Rattle.pp_tokens.specs.declared.token.Kind.TheVariants.{Punct, Other}
use Rattle.pp_tokens.specs.Kinds.{begins, same, is_digit, is_letter, is_word, is_quote, is_blank, is_number_rest, first_is, begins_number, punctuators, is_punct, is_one, kind_of}
use Rattle.pp_tokens.specs.Cut.{longest}
use Rattle.pp_tokens.specs.Scan.{punct_or, search_order, punctuator_length}
use Rattle.pp_tokens.proofs.KindLemmas.{kind_by, kind-from, clash, no_char, no_str}
use Rattle.pp_tokens.proofs.CloseLemmas.{in_table}
use Rattle.pp_tokens.proofs.LongestLemmas.{longest_cons, not_one, first_taken}
use Rattle.mac_base.proofs.TestLemmas.{or_true, same_tests}

begins_more : (b c : ℕ) (p bytes : List ℕ) (m : ℕ) (x : Bool) → eqb b c ≡ x → (x && same (take m bytes) p) ≡ true → (same (take m bytes) p ≡ true → (begins p bytes ≡ true) × (length p ≡ m)) →
    ((eqb c b && begins p bytes) ≡ true) × (suc (length p) ≡ suc m)
begins_more b c p bytes m true here is inner =
    let found = inner is in
    let same_byte : eqb c b ≡ true = eq-eqb c b (sym (eqb-true b c here)) in
    (ap (λ x. x && begins p bytes) same_byte ∙ found.0, ap suc found.1)
begins_more b c p bytes m false here is inner = cc

-- a prefix that is the text is a front
pub same_begins : (p bytes : List ℕ) (m : ℕ) → m ≤ length bytes → same (take m bytes) p ≡ true → (begins p bytes ≡ true) × (length p ≡ m)
same_begins [] bytes zero within is = (refl, refl)
same_begins [] [] (suc m) within is = absurd (omega arith)
same_begins [] (b ∷ bytes) (suc m) within is = cc
same_begins (c ∷ p) bytes zero within is = cc
same_begins (c ∷ p) [] (suc m) within is = absurd (omega arith)
same_begins (c ∷ p) (b ∷ bytes) (suc m) within is = begins_more b c p bytes m (eqb b c) refl is (λ more. same_begins p bytes m (omega arith) more)

same_more : (b c : ℕ) (p bytes : List ℕ) (x : Bool) → eqb c b ≡ x → (x && begins p bytes) ≡ true → (begins p bytes ≡ true → (length p ≤ length bytes) × (same (take (length p) bytes) p ≡ true)) →
    (suc (length p) ≤ suc (length bytes)) × ((eqb b c && same (take (length p) bytes) p) ≡ true)
same_more b c p bytes true here is inner =
    let found = inner is in
    let same_byte : eqb b c ≡ true = eq-eqb b c (sym (eqb-true c b here)) in
    (omega (arith, found.0), ap (λ x. x && same (take (length p) bytes) p) same_byte ∙ found.1)
same_more b c p bytes false here is inner = cc

-- and a front is a prefix
pub begins_same : (p bytes : List ℕ) → begins p bytes ≡ true → (length p ≤ length bytes) × (same (take (length p) bytes) p ≡ true)
begins_same [] [] is = (omega arith, refl)
begins_same [] (b ∷ bytes) is = (omega arith, refl)
begins_same (c ∷ p) [] is = cc
begins_same (c ∷ p) (b ∷ bytes) is = same_more b c p bytes (eqb c b) refl is (begins_same p bytes)

both_more : (b c d : ℕ) (p q bytes : List ℕ) (x y : Bool) → eqb c b ≡ x → eqb d b ≡ y → (x && begins p bytes) ≡ true → (y && begins q bytes) ≡ true → (begins p bytes ≡ true → begins q bytes ≡ true → begins p q ≡ true) → (eqb c d && begins p q) ≡ true
both_more b c d p q bytes true true first second is and inner =
    let same_byte : eqb c d ≡ true = eq-eqb c d (eqb-true c b first ∙ sym (eqb-true d b second)) in
    ap (λ x. x && begins p q) same_byte ∙ inner is and
both_more b c d p q bytes true false first second is and inner = cc
both_more b c d p q bytes false y first second is and inner = cc

-- the shorter of two fronts is a front of the longer
both_begin : (p q bytes : List ℕ) → begins p bytes ≡ true → begins q bytes ≡ true → length p ≤ length q → begins p q ≡ true
both_begin [] q bytes first second less = refl
both_begin (c ∷ p) [] bytes first second less = absurd (omega arith)
both_begin (c ∷ p) (d ∷ q) [] first second less = cc
both_begin (c ∷ p) (d ∷ q) (b ∷ bytes) first second less = both_more b c d p q bytes (eqb c b) (eqb d b) refl refl first second (λ one two. both_begin p q bytes one two (omega arith))

-- no text of the table begins a later one
ordered : List (List ℕ) → Bool
ordered [] = true
ordered (p ∷ ps) = list_all (λ q. not (begins p q)) ps && ordered ps

no_front : (p bytes : List ℕ) (m : ℕ) → m ≤ length bytes → begins p bytes ≡ false → same (take m bytes) p ≡ false
no_front p bytes m within fails = false_from_ne_true _ (λ is. clash (begins p bytes) (same_begins p bytes m within is).0 fails)

no_length : (p bytes : List ℕ) (m : ℕ) → m ≤ length bytes → length p < m → same (take m bytes) p ≡ false
no_length p bytes m within less = false_from_ne_true _ (λ is. let same_length : length p ≡ m = (same_begins p bytes m within is).1 in absurd (omega arith))

any_none_by : (p bytes : List ℕ) (ps : List (List ℕ)) (m : ℕ) (x : Bool) → m ≤ length bytes → begins p bytes ≡ x → cond x (Some p) (find (λ q. begins q bytes) ps) ≡ None → (find (λ q. begins q bytes) ps ≡ None → list_any (same (take m bytes)) ps ≡ false) →
    (same (take m bytes) p || list_any (same (take m bytes)) ps) ≡ false
any_none_by p bytes ps m true within here is inner = cc
any_none_by p bytes ps m false within here is inner = or_from _ _ (no_front p bytes m within here) (inner is)

any_none : (table : List (List ℕ)) (bytes : List ℕ) (m : ℕ) → m ≤ length bytes → find (λ q. begins q bytes) table ≡ None → list_any (same (take m bytes)) table ≡ false
any_none [] bytes m within is = refl
any_none (p ∷ ps) bytes m within is = any_none_by p bytes ps m (begins p bytes) within refl is (any_none ps bytes m within)

-- what the search finds, and where
record Found (table : List (List ℕ)) (bytes p : List ℕ) : Type 0 where
  front : begins p bytes ≡ true
  there : list_any (same (take (length p) bytes)) table ≡ true
  longer : (m : ℕ) → length p < m → m ≤ length bytes → list_any (same (take m bytes)) table ≡ false

later_none : (p bytes : List ℕ) (ps : List (List ℕ)) (m : ℕ) → begins p bytes ≡ true → length p < m → m ≤ length bytes → list_all (λ q. not (begins p q)) ps ≡ true → list_any (same (take m bytes)) ps ≡ false
later_none p bytes [] m front less within all = refl
later_none p bytes (q ∷ qs) m front less within all =
    let parts = and_parts (not (begins p q)) _ all in
    or_from _ _
    (false_from_ne_true _ (λ is.
    let found = same_begins q bytes m within is in
    let bound : length p ≤ length q = omega (arith, found.1) in
    clash (not (begins p q)) parts.0 (ap not (both_begin p q bytes front found.0 bound))))
    (later_none p bytes qs m front less within parts.1)

found_by : (q bytes p : List ℕ) (qs : List (List ℕ)) (x : Bool) → begins q bytes ≡ x → cond x (Some q) (find (λ r. begins r bytes) qs) ≡ Some p → list_all (λ r. not (begins q r)) qs ≡ true →
    (find (λ r. begins r bytes) qs ≡ Some p → Found qs bytes p) → Found (q ∷ qs) bytes p
found_by q bytes p qs true here is all inner =
    let same_text : q ≡ p = cc in
    subst (Found (q ∷ qs) bytes) same_text (record {
      front = here;
      there = ap (λ x. x || list_any (same (take (length q) bytes)) qs) (begins_same q bytes here).1;
      longer = λ m less within. or_from _ _ (no_length q bytes m within less) (later_none q bytes qs m here less within all);
    })
found_by q bytes p qs false here is all inner =
    let later = inner is in
    record {
      front = later.front;
      there = ap (λ x. same (take (length p) bytes) q || x) later.there ∙ or_true _;
      longer = λ m less within. or_from _ _ (no_front q bytes m within here) (later.longer m less within);
    }

found : (table : List (List ℕ)) (bytes p : List ℕ) → ordered table ≡ true → find (λ q. begins q bytes) table ≡ Some p → Found table bytes p
unfolding ordered
found [] bytes p order is = cc
found (q ∷ qs) bytes p order is =
    let parts = and_parts (list_all (λ r. not (begins q r)) qs) (ordered qs) order in
    found_by q bytes p qs (begins q bytes) refl is parts.0 (found qs bytes p parts.1)

-- a text of the table has a byte
filled_by : (q bytes p : List ℕ) (qs : List (List ℕ)) (x : Bool) → cond x (Some q) (find (λ r. begins r bytes) qs) ≡ Some p → (first_is (λ b. true) q && list_all (first_is (λ b. true)) qs) ≡ true →
    (find (λ r. begins r bytes) qs ≡ Some p → list_all (first_is (λ b. true)) qs ≡ true → first_is (λ b. true) p ≡ true) → first_is (λ b. true) p ≡ true
filled_by q bytes p qs true is all inner =
    let same_text : q ≡ p = cc in
    subst (λ t. first_is (λ b. true) t ≡ true) same_text (and_parts (first_is (λ b. true) q) _ all).0
filled_by q bytes p qs false is all inner = inner is (and_parts (first_is (λ b. true) q) _ all).1

filled : (table : List (List ℕ)) (bytes p : List ℕ) → list_all (first_is (λ b. true)) table ≡ true → find (λ q. begins q bytes) table ≡ Some p → first_is (λ b. true) p ≡ true
filled [] bytes p all is = cc
filled (q ∷ qs) bytes p all is = filled_by q bytes p qs (begins q bytes) is all (λ later more. filled qs bytes p more later)

begins_taken : (b : ℕ) (bs : List ℕ) (i : ℕ) → begins_number b bs ≡ false → begins_number b (take i bs) ≡ false
begins_taken b bs zero none = by (is_digit b) (eqb b 46) (first_is is_digit bs) none
  where
    by : (d e f : Bool) → (d || (e && f)) ≡ false → (d || (e && false)) ≡ false
    by true e f is = cc
    by false true f is = refl
    by false false f is = refl
begins_taken b bs (suc i) none = ap (λ f. is_digit b || (eqb b 46 && f)) (first_taken is_digit bs (suc i) (omega arith)) ∙ none

-- neither a letter nor a quote
plain : ℕ → Bool
plain b = not (is_letter b || is_quote b)

other_kind : (b : ℕ) (bs : List ℕ) (i : ℕ) (p q o : Bool) → is_letter b ≡ false → begins_number b bs ≡ false → is_quote b ≡ false → is_punct (b ∷ take i bs) ≡ p →
    is_one is_quote (b ∷ take i bs) ≡ q → is_one (λ c. not (is_blank c || eqb c 10)) (b ∷ take i bs) ≡ o → kind_of (b ∷ take i bs) ≡ kind_by false false false false p q o
unfolding plain
other_kind b bs i p q o letter number quote punct one other =
    let passes : plain b ≡ true = ap (λ x. not (x || is_quote b)) letter ∙ ap not quote in
    kind-from (b ∷ take i bs) false false false false p q o
    (ap (λ x. x && list_all is_word (take i bs)) letter)
    (ap (λ x. x && is_number_rest b (take i bs)) (begins_taken b bs i number))
    (no_char plain b (take i bs) passes refl refl refl refl) (no_str plain b (take i bs) passes refl refl refl refl) punct one other

other_none : (b : ℕ) (bs : List ℕ) (i : ℕ) → is_letter b ≡ false → begins_number b bs ≡ false → is_quote b ≡ false → is_punct (b ∷ take i bs) ≡ false → 0 < i → i ≤ length bs → kind_of (b ∷ take i bs) ≡ None
other_none b bs i letter number quote punct some within =
    other_kind b bs i false false false letter number quote punct (not_one is_quote b bs i some within) (not_one (λ c. not (is_blank c || eqb c 10)) b bs i some within)

punct-order : (s : List ℕ) → is_punct s ≡ list_any (same s) search_order
punct-order s =
    same_tests (is_punct s) (list_any (same s) search_order)
    (in_table (λ p. list_any (same p) search_order) punctuators s refl) (in_table (λ p. list_any (same p) punctuators) search_order s refl)

punct_by : (b : ℕ) (bs : List ℕ) (o : Option (List ℕ)) → is_letter b ≡ false → begins_number b bs ≡ false → is_quote b ≡ false → eqb b 10 ≡ false → is_blank b ≡ false → find (λ p. begins p (b ∷ bs)) search_order ≡ o →
    longest (b ∷ bs) ≡ Some (punct_or (option_map length o))
unfolding ordered
punct_by b bs None letter number quote not_line_feed not_blank is =
    longest_cons b bs Other 0 (omega arith)
    (other_kind b bs 0 false false true letter number quote (punct-order (b ∷ []) ∙ any_none search_order (b ∷ bs) 1 (omega arith) is) quote (ap (λ x. not (x || eqb b 10)) not_blank ∙ ap not not_line_feed))
    (λ i more most. other_none b bs i letter number quote (punct-order (b ∷ take i bs) ∙ any_none search_order (b ∷ bs) (suc i) (omega arith) is) more most)
punct_by b bs (Some []) letter number quote not_line_feed not_blank is = absurd (clash false (filled search_order (b ∷ bs) [] refl is) refl)
punct_by b bs (Some (c ∷ p)) letter number quote not_line_feed not_blank is =
    let at = found search_order (b ∷ bs) (c ∷ p) refl is in
    let fits : suc (length p) ≤ suc (length bs) = (begins_same (c ∷ p) (b ∷ bs) at.front).0 in
    longest_cons b bs Punct (length p) (omega arith)
    (other_kind b bs (length p) true _ _ letter number quote (punct-order (b ∷ take (length p) bs) ∙ at.there) refl refl)
    (λ i more most. other_none b bs i letter number quote (punct-order (b ∷ take i bs) ∙ at.longer (suc i) (omega arith) (omega arith)) (omega arith) most)

pub punct_longest : (b : ℕ) (bs : List ℕ) → is_letter b ≡ false → begins_number b bs ≡ false → is_quote b ≡ false → eqb b 10 ≡ false → is_blank b ≡ false → longest (b ∷ bs) ≡ Some (punct_or (punctuator_length (b ∷ bs)))
punct_longest b bs letter number quote not_line_feed not_blank = punct_by b bs (find (λ p. begins p (b ∷ bs)) search_order) letter number quote not_line_feed not_blank refl
