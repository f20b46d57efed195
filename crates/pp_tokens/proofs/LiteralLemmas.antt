-- A constant or literal ends at its closing quote, so no token but its prefix begins it.
use Rattle.std.proofs.Common.{◌≡◌, ◌≢◌, ℕ, eqb, Bool, true, false, not, ◌&&◌, ◌||◌, cond, List, [], ◌∷◌, ◌++◌, drop, refl, sym, ◌∙◌, ap, inl, inr}
use Rattle.std.specs.List.{list_all}
use Rattle.std.proofs.lemmas.Bool.{and_parts, or_cases}
use borrow.Author.Tests.{eqb-true}
use lib.Chars.{codes}
use Rattle.pp_tokens.specs.Kinds.{begins, is_digit, is_letter, is_word, is_quote, is_identifier, is_closed, is_quoted, is_constant, is_char, is_str}
use Rattle.pp_tokens.specs.Scan.{is_prefix_letter}
use Rattle.pp_tokens.proofs.KindLemmas.{clash, differs_from}
use Rattle.pp_tokens.proofs.WordLemmas.{char_letter, str_letter}
use Rattle.mac_base.proofs.TestLemmas.{or_false}

-- a prefix, which is an identifier where there is one, a quote, and what it closes
pub record Literal (s : List ℕ) : Type 0 where
  pub prefix : List ℕ
  pub quote : ℕ
  pub body : List ℕ
  pub is : s ≡ prefix ++ quote ∷ body
  pub closed : is_closed quote body ≡ true
  pub sort : is_quote quote ≡ true
  pub words : list_all is_word prefix ≡ true
  pub name : prefix ≢ [] → is_identifier prefix ≡ true

constant_parts : (u : List ℕ) → is_constant u ≡ true → (body : List ℕ) × (u ≡ 39 ∷ body) × (is_closed 39 body ≡ true)
constant_parts [] is = cc
constant_parts (q ∷ body) is =
    let quoted = and_parts (is_quoted 39 (q ∷ body)) _ is in
    let parts = and_parts (eqb q 39) _ quoted.0 in
    (body, ap (λ x. x ∷ body) (eqb-true q 39 parts.0), parts.1)

quoted_parts : (u : List ℕ) → is_quoted 34 u ≡ true → (body : List ℕ) × (u ≡ 34 ∷ body) × (is_closed 34 body ≡ true)
quoted_parts [] is = cc
quoted_parts (q ∷ body) is =
    let parts = and_parts (eqb q 34) _ is in
    (body, ap (λ x. x ∷ body) (eqb-true q 34 parts.0), parts.1)

letter_word : (b : ℕ) → is_letter b ≡ true → is_word b ≡ true
letter_word b letter = ap (λ x. x || is_digit b) letter

no_letter : ℕ → Bool
no_letter b = not (is_letter b)

plain_char : (b : ℕ) (rest : List ℕ) → is_letter b ≡ false → is_char (b ∷ rest) ≡ is_constant (b ∷ rest)
unfolding no_letter
plain_char b rest other =
    rw (differs_from no_letter b 76 (ap not other) refl, differs_from no_letter b 117 (ap not other) refl, differs_from no_letter b 85 (ap not other) refl) (or_false (is_constant (b ∷ rest)))

plain_str : (b : ℕ) (rest : List ℕ) → is_letter b ≡ false → is_str (b ∷ rest) ≡ is_quoted 34 (b ∷ rest)
unfolding no_letter
plain_str b rest other =
    rw (differs_from no_letter b 76 (ap not other) refl, differs_from no_letter b 117 (ap not other) refl, differs_from no_letter b 85 (ap not other) refl) (or_false (is_quoted 34 (b ∷ rest)))

char_literal : (b : ℕ) (rest : List ℕ) (l : Bool) → is_letter b ≡ l → is_char (b ∷ rest) ≡ true → Literal (b ∷ rest)
char_literal b rest true letter is =
    let parts = and_parts (is_prefix_letter b) (is_constant rest) (sym (char_letter b rest letter) ∙ is) in
    let found = constant_parts rest parts.1 in
    record {
      prefix = b ∷ [];
      quote = 39;
      body = found.0;
      is = ap (λ u. b ∷ u) found.1;
      closed = found.2;
      sort = refl;
      words = ap (λ x. x && true) (letter_word b letter);
      name = λ some. ap (λ x. x && true) letter;
    }
char_literal b rest false letter is =
    let found = constant_parts (b ∷ rest) (sym (plain_char b rest letter) ∙ is) in
    record {
      prefix = [];
      quote = 39;
      body = found.0;
      is = found.1;
      closed = found.2;
      sort = refl;
      words = refl;
      name = λ some. absurd (some refl);
    }

u8_literal : (b : ℕ) (rest : List ℕ) → ((eqb b 117 && begins (codes "8") rest) && is_quoted 34 (drop 1 rest)) ≡ true → Literal (b ∷ rest)
u8_literal b [] is = absurd (clash _ (and_parts (eqb b 117) _ (and_parts _ false is).0).1 refl)
u8_literal b (c ∷ cs) is =
    let parts = and_parts (eqb b 117 && begins (codes "8") (c ∷ cs)) (is_quoted 34 cs) is in
    let front = and_parts (eqb b 117) (begins (codes "8") (c ∷ cs)) parts.0 in
    let eight = and_parts (eqb 56 c) true front.1 in
    let found = quoted_parts cs parts.1 in
    record {
      prefix = 117 ∷ 56 ∷ [];
      quote = 34;
      body = found.0;
      is = ap (λ x. x ∷ c ∷ cs) (eqb-true b 117 front.0) ∙ ap (λ x. 117 ∷ x ∷ cs) (sym (eqb-true 56 c eight.0)) ∙ ap (λ u. 117 ∷ 56 ∷ u) found.1;
      closed = found.2;
      sort = refl;
      words = refl;
      name = λ some. refl;
    }

str_literal : (b : ℕ) (rest : List ℕ) (l : Bool) → is_letter b ≡ l → is_str (b ∷ rest) ≡ true → Literal (b ∷ rest)
str_literal b rest true letter is =
    elim (or_cases ((eqb b 117 && begins (codes "8") rest) && is_quoted 34 (drop 1 rest)) (is_prefix_letter b && is_quoted 34 rest) (sym (str_letter b rest letter) ∙ is)) [
      | inl first ↦ u8_literal b rest first
      | inr second ↦
          let parts = and_parts (is_prefix_letter b) (is_quoted 34 rest) second in
          let found = quoted_parts rest parts.1 in
          record {
            prefix = b ∷ [];
            quote = 34;
            body = found.0;
            is = ap (λ u. b ∷ u) found.1;
            closed = found.2;
            sort = refl;
            words = ap (λ x. x && true) (letter_word b letter);
            name = λ some. ap (λ x. x && true) letter;
          }
    ]
str_literal b rest false letter is =
    let found = quoted_parts (b ∷ rest) (sym (plain_str b rest letter) ∙ is) in
    record {
      prefix = [];
      quote = 34;
      body = found.0;
      is = found.1;
      closed = found.2;
      sort = refl;
      words = refl;
      name = λ some. absurd (some refl);
    }

pub literal_of_char : (s : List ℕ) → is_char s ≡ true → Literal s
literal_of_char [] is = cc
literal_of_char (b ∷ rest) is = char_literal b rest (is_letter b) refl is

pub literal_of_str : (s : List ℕ) → is_str s ≡ true → Literal s
literal_of_str [] is = cc
literal_of_str (b ∷ rest) is = str_literal b rest (is_letter b) refl is

-- nothing follows a closing quote
end_by : (q b c : ℕ) (xs ys : List ℕ) (t v : Bool) (x y x' y' : Bool) → cond t false (cond v x y) ≡ true → (x ≡ true → x' ≡ false) → (y ≡ true → y' ≡ false) → cond t false (cond v x' y') ≡ false
end_by q b c xs ys true v x y x' y' is first second = refl
end_by q b c xs ys false true x y x' y' is first second = first is
end_by q b c xs ys false false x y x' y' is first second = second is

and_end : (w x x' : Bool) → (w && x) ≡ true → (x ≡ true → x' ≡ false) → (w && x') ≡ false
and_end true x x' is inner = inner is
and_end false x x' is inner = refl

pub closed_end : (q : ℕ) (xs : List ℕ) (c : ℕ) (ys : List ℕ) → is_closed q xs ≡ true → is_closed q (xs ++ c ∷ ys) ≡ false
closed_end q [] c ys is = cc
closed_end q (b ∷ []) c ys is = ap (λ t. cond (t || eqb b 10) false (cond (eqb b 92) (not (eqb c 10) && is_closed q ys) (is_closed q (c ∷ ys)))) is
closed_end q (b ∷ d ∷ xs) c ys is =
    end_by q b d xs ys (eqb b q || eqb b 10) (eqb b 92) (not (eqb d 10) && is_closed q xs) (is_closed q (d ∷ xs)) (not (eqb d 10) && is_closed q (xs ++ c ∷ ys)) (is_closed q (d ∷ xs ++ c ∷ ys)) is
    (λ first. and_end (not (eqb d 10)) (is_closed q xs) (is_closed q (xs ++ c ∷ ys)) first (closed_end q xs c ys)) (closed_end q (d ∷ xs) c ys)
