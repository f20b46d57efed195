-- After a quote that nothing closes on its line, no other of its sort is closed on that line.
use Rattle.std.proofs.Common.{◌≡◌, ℕ, zero, suc, ◌+◌, ◌-◌, ◌<◌, eqb, ltb, Bool, true, false, cond, List, [], ◌∷◌, get_or, drop, Option, Some, None, refl, sym, ◌∙◌, ap, subst, arith, IsTrue}
use Rattle.std.specs.Option.{option_map}
use Rattle.std.proofs.lemmas.List.{drop-drop, get_or-drop, drop-map}
use borrow.Author.Tests.{eqb-true, ltb-true}
use Rattle.pp_tokens.specs.Cleaning.{Char, bytes_of}
use Rattle.pp_tokens.specs.Cut.{line_rest}
use Rattle.pp_tokens.specs.Scan.{first_byte, closing, KnownLone, IsKnown, count_of}
use Rattle.pp_tokens.proofs.KindLemmas.{clash}
use Rattle.mac_base.proofs.Choices.{none_mapped}

NoneLater : ℕ → List ℕ → Type 0
NoneLater quote bs = (j : ℕ) → j < line_rest bs → eqb (get_or bs j 0) quote ≡ true → closing quote (drop (suc j) bs) ≡ None

-- the tests: the byte is the quote, a line feed, a backslash; the next is a line feed
later_by : (quote b c : ℕ) (cs : List ℕ) (t u v w : Bool) → eqb b quote ≡ t → eqb b 10 ≡ u → eqb b 92 ≡ v → eqb c 10 ≡ w →
    cond t (Some 1) (cond u None (cond v (cond w None (option_map (λ n. suc (suc n)) (closing quote cs))) (option_map suc (closing quote (c ∷ cs))))) ≡ None →
    (closing quote cs ≡ None → NoneLater quote cs) → (closing quote (c ∷ cs) ≡ None → NoneLater quote (c ∷ cs)) →
    (j : ℕ) → j < cond u 0 (suc (cond w 0 (suc (line_rest cs)))) → eqb (get_or (b ∷ c ∷ cs) j 0) quote ≡ true → closing quote (drop (suc j) (b ∷ c ∷ cs)) ≡ None
unfolding NoneLater
later_by quote b c cs true u v w one two three four none far near j less here = cc
later_by quote b c cs false true v w one two three four none far near j less here = absurd (omega arith)
later_by quote b c cs false false v w one two three four none far near zero less here = absurd (clash (eqb b quote) here one)
later_by quote b c cs false false true true one two three four none far near (suc j) less here = absurd (omega arith)
later_by quote b c cs false false true false one two three four none far near (suc zero) less here = none_mapped (λ n. suc (suc n)) (closing quote cs) none
later_by quote b c cs false false true false one two three four none far near (suc (suc j)) less here = far (none_mapped (λ n. suc (suc n)) (closing quote cs) none) j (omega arith) here
later_by quote b c cs false false false w one two three four none far near (suc j) less here =
    near (none_mapped suc (closing quote (c ∷ cs)) none) j (subst (λ x. j < cond x 0 (suc (line_rest cs))) (sym four) (omega arith)) here

last_by : (quote b : ℕ) (t u : Bool) → eqb b quote ≡ t → cond {A = Option ℕ} t (Some 1) None ≡ None → (j : ℕ) → j < cond u 0 1 → eqb (get_or (b ∷ []) j 0) quote ≡ true → closing quote (drop (suc j) (b ∷ [])) ≡ None
last_by quote b true u one none j less here = cc
last_by quote b false true one none j less here = absurd (omega arith)
last_by quote b false false one none zero less here = refl
last_by quote b false false one none (suc j) less here = absurd (omega arith)

none_later : (quote : ℕ) (bs : List ℕ) → closing quote bs ≡ None → NoneLater quote bs
unfolding NoneLater
none_later quote [] none = λ j less here. absurd (omega arith)
none_later quote (b ∷ []) none = last_by quote b (eqb b quote) (eqb b 10) refl none
none_later quote (b ∷ c ∷ cs) none = later_by quote b c cs (eqb b quote) (eqb b 10) (eqb b 92) (eqb c 10) refl refl refl refl none (none_later quote cs) (none_later quote (c ∷ cs))

pub known-learned : (quote : ℕ) (bs : List ℕ) → closing quote bs ≡ None → KnownLone quote (line_rest bs) bs
unfolding NoneLater
known-learned quote bs none = none_later quote bs none

-- what is known goes with the place

known_past : (quote count n : ℕ) (bs : List ℕ) → KnownLone quote n bs → KnownLone quote (n - count) (drop count bs)
known_past quote count n bs known i less here =
    let place : get_or (drop count bs) i 0 ≡ get_or bs (count + i) 0 = get_or-drop count bs i 0 in
    let at : closing quote (drop (suc (count + i)) bs) ≡ None = known (count + i) (omega arith) (ap (λ x. eqb x quote) (sym place) ∙ here) in
    ap (closing quote) (drop-drop (suc i) count bs ∙ (let far : count + suc i ≡ suc (count + i) = omega arith in ap (λ n. drop n bs) far)) ∙ at

pub known-behind : (single double count : ℕ) (cs behind : List Char) → IsKnown single double (bytes_of cs) → behind ≡ drop count cs → IsKnown (single - count) (double - count) (bytes_of behind)
known-behind single double count cs behind known is =
    let bytes : drop count (bytes_of cs) ≡ bytes_of behind = drop-map (λ (c : Char). c.byte) count cs ∙ ap bytes_of (sym is) in
    subst (IsKnown (single - count) (double - count)) bytes (record { of_single = known_past 39 count single (bytes_of cs) known.of_single; of_double = known_past 34 count double (bytes_of cs) known.of_double })

byte_there : (cs : List Char) (n q : ℕ) → Some q ≡ first_byte (drop n cs) → get_or (bytes_of cs) n 0 ≡ q
byte_there [] zero q is = cc
byte_there [] (suc n) q is = cc
byte_there (c ∷ cs) zero q is = cc
byte_there (c ∷ cs) (suc n) q is = byte_there cs n q is

behind_there : (cs : List Char) (n : ℕ) → drop (suc n) (bytes_of cs) ≡ bytes_of (drop 1 (drop n cs))
behind_there [] zero = refl
behind_there [] (suc n) = refl
behind_there (c ∷ cs) zero = refl
behind_there (c ∷ cs) (suc n) = behind_there cs n

at_by : (quote n single double : ℕ) (bs : List ℕ) (x y : Bool) → eqb quote 39 ≡ x → eqb quote 34 ≡ y → IsKnown single double bs → get_or bs n 0 ≡ quote → n < cond x single (cond y double 0) → closing quote (drop (suc n) bs) ≡ None
at_by quote n single double bs true y first second known there less =
    let same : 39 ≡ quote = sym (eqb-true quote 39 first) in
    subst (λ q. closing q (drop (suc n) bs) ≡ None) same (known.of_single n less (ap (λ b. eqb b 39) there ∙ first))
at_by quote n single double bs false true first second known there less =
    let same : 34 ≡ quote = sym (eqb-true quote 34 second) in
    subst (λ q. closing q (drop (suc n) bs) ≡ None) same (known.of_double n less (ap (λ b. eqb b 34) there ∙ second))
at_by quote n single double bs false false first second known there less = absurd (omega arith)

-- a quote at a place that is known about
pub known-at : (quote n count single double : ℕ) (cs behind : List Char) → IsKnown single double (bytes_of cs) → Some quote ≡ first_byte (drop n cs) → count ≡ count_of quote single double → behind ≡ drop 1 (drop n cs) → IsTrue (ltb n count) → closing quote (bytes_of behind) ≡ None
known-at quote n count single double cs behind known here is place less =
    let within : n < count_of quote single double = subst (λ k. n < k) is (ltb-true n count less) in
    ap (λ (b : List Char). closing quote (bytes_of b)) place
    ∙ ap (closing quote) (sym (behind_there cs n))
    ∙ at_by quote n single double (bytes_of cs) (eqb quote 39) (eqb quote 34) refl refl known (byte_there cs n quote here) within
