-- What the cursor passes over leaves the cleaned text as it is, and what is in front is its head.
use Rattle.std.proofs.Common.{◌≡◌, ◌≢◌, ℕ, suc, ◌+◌, ◌≤◌, ◌<◌, eqb, ltb, Bool, true, false, ◌&&◌, cond, List, [], ◌∷◌, length, drop, Option, Some, None, refl, sym, ◌∙◌, ap, subst, arith}
use Rattle.std.proofs.lemmas.List.{drop-drop, length-map}
use Rattle.std.proofs.lemmas.Bool.{and_parts, false_from_ne_true}
use Rattle.std.specs.Option.{unwrap_or}
use borrow.Author.Tests.{eqb-true, ltb-true}
use Rattle.pp_tokens.specs.Cleaning.{Char, bytes_of, numbered, without_cr, trigraph_of, replaced, without_trigraphs, spliced, cleaned_from, on_line_one}
use Rattle.pp_tokens.specs.Kinds.{first_is}
use Rattle.pp_tokens.specs.Raw.{decoded, feed, splice_by, splice, IsSettled, IsPlace, front_of, line_behind, left_of, IsPlain}
use Rattle.pp_tokens.specs.Cut.{line_of}
use Rattle.pp_tokens.specs.Scan.{first_byte}
use Rattle.pp_tokens.proofs.KindLemmas.{clash}
use Rattle.pp_tokens.proofs.RawLemmas.{next_line, unspliced, unspliced-step, decoded_plain, feed_head, feed_line}
use Rattle.mac_base.proofs.TestLemmas.{and_false}

spliced_cons : (c : Char) (cs : List Char) → spliced (c ∷ cs) ≡ cond (eqb c.byte 92 && first_is (λ b. eqb b 10) (bytes_of cs)) (spliced (drop 1 cs)) (c ∷ spliced cs)
spliced_cons c [] = ap (λ t. cond t [] (c ∷ [])) (sym (and_false (eqb c.byte 92)))
spliced_cons c (d ∷ cs) = refl

-- the unit in front is cleaned by what follows it
cleaned_by : (line : ℕ) (bytes : List ℕ) (unit : ℕ × ℕ) (t : Bool) → decoded bytes ≡ Some unit → feed bytes ≢ 2 → (eqb unit.0 92 && ltb 0 (feed (drop unit.1 bytes))) ≡ t →
    cleaned_from line bytes ≡ cond t (spliced (drop 1 (unspliced (next_line line unit.0) (drop unit.1 bytes)))) (record { byte = unit.0; line = line } ∷ cleaned_from (next_line line unit.0) (drop unit.1 bytes))
cleaned_by line bytes unit t is kept test =
    let behind : List Char = unspliced (next_line line unit.0) (drop unit.1 bytes) in
    ap spliced (unspliced-step line bytes unit is kept)
    ∙ spliced_cons (record { byte = unit.0; line = line }) behind
    ∙ ap (λ x. cond x (spliced (drop 1 behind)) (record { byte = unit.0; line = line } ∷ spliced behind)) (ap (λ x. eqb unit.0 92 && x) (feed_head (next_line line unit.0) (drop unit.1 bytes)) ∙ test)

-- a carriage return and a line feed
return_by : (a b : ℕ) (bs : List ℕ) (x y z : Bool) → eqb a 10 ≡ x → eqb a 13 ≡ y → eqb b 10 ≡ z → ◌≡◌ {A = ℕ} (cond x 1 (cond (y && z) 2 0)) 2 → (13 ≡ a) × (10 ≡ b)
return_by a b bs true y z first second third is = absurd (omega arith)
return_by a b bs false true true first second third is = (sym (eqb-true a 13 second), sym (eqb-true b 10 third))
return_by a b bs false true false first second third is = absurd (omega arith)
return_by a b bs false false z first second third is = absurd (omega arith)

alone_13 : (bs : List ℕ) (unit : ℕ × ℕ) → decoded (13 ∷ 10 ∷ bs) ≡ Some unit → eqb unit.0 92 ≡ false
alone_13 [] unit is = ap (λ (o : Option (ℕ × ℕ)). eqb (unwrap_or o (0, 0)).0 92) (sym is)
alone_13 (c ∷ cs) unit is = ap (λ (o : Option (ℕ × ℕ)). eqb (unwrap_or o (0, 0)).0 92) (sym is)

-- a carriage return before a line feed is spelled as it is
return_alone : (bytes : List ℕ) (unit : ℕ × ℕ) → decoded bytes ≡ Some unit → eqb unit.0 92 ≡ true → feed bytes ≢ 2
return_alone [] unit is mark two = absurd (omega arith)
return_alone (a ∷ []) unit is mark two = by (eqb a 10) two
  where
    by : (t : Bool) → ◌≡◌ {A = ℕ} (cond t 1 0) 2 → ⊥
    by true wrong = absurd (omega arith)
    by false wrong = absurd (omega arith)
return_alone (a ∷ b ∷ bs) unit is mark two =
    let bytes = return_by a b bs (eqb a 10) (eqb a 13) (eqb b 10) refl refl refl two in
    clash (eqb unit.0 92) mark (alone_13 bs unit (ap (λ x. decoded (x ∷ 10 ∷ bs)) bytes.0 ∙ ap (λ y. decoded (a ∷ y ∷ bs)) bytes.1 ∙ is))

-- a splice in front goes away
pub splice-gone : (line : ℕ) (bytes : List ℕ) (unit : ℕ × ℕ) → decoded bytes ≡ Some unit → (eqb unit.0 92 && ltb 0 (feed (drop unit.1 bytes))) ≡ true →
    cleaned_from line bytes ≡ cleaned_from (line + 1) (drop (unit.1 + feed (drop unit.1 bytes)) bytes)
splice-gone line bytes unit is test =
    let parts = and_parts (eqb unit.0 92) _ test in
    let same_line : next_line line unit.0 ≡ line = ap (λ b. next_line line b) (eqb-true unit.0 92 parts.0) in
    cleaned_by line bytes unit true is (return_alone bytes unit is parts.0) test
    ∙ ap (λ n. spliced (drop 1 (unspliced n (drop unit.1 bytes)))) same_line
    ∙ ap (λ (cs : List Char). spliced (drop 1 cs)) (feed_line line (drop unit.1 bytes) parts.1)
    ∙ ap (cleaned_from (line + 1)) (drop-drop (feed (drop unit.1 bytes)) unit.1 bytes)

-- so does a carriage return before a line feed, and the line feed stays
feed_settled : (bs : List ℕ) → IsSettled (10 ∷ bs)
feed_settled [] = record { no_splice = refl; no_return = λ is. absurd (omega arith) }
feed_settled (b ∷ []) = record { no_splice = refl; no_return = λ is. absurd (omega arith) }
feed_settled (b ∷ c ∷ cs) = record { no_splice = refl; no_return = λ is. absurd (omega arith) }

pub return-gone : (line : ℕ) (bytes : List ℕ) → feed bytes ≡ 2 → (cleaned_from line bytes ≡ cleaned_from line (drop 1 bytes)) × IsSettled (drop 1 bytes)
return-gone line [] is = absurd (omega arith)
return-gone line (a ∷ []) is = absurd (by (eqb a 10) is)
  where
    by : (t : Bool) → ◌≡◌ {A = ℕ} (cond t 1 0) 2 → ⊥
    by true wrong = absurd (omega arith)
    by false wrong = absurd (omega arith)
return-gone line (a ∷ b ∷ bs) is =
    let bytes = return_by a b bs (eqb a 10) (eqb a 13) (eqb b 10) refl refl refl is in
    subst (λ x. (cleaned_from line (x ∷ b ∷ bs) ≡ cleaned_from line (b ∷ bs)) × IsSettled (b ∷ bs)) bytes.0
    (subst (λ y. (cleaned_from line (13 ∷ y ∷ bs) ≡ cleaned_from line (y ∷ bs)) × IsSettled (y ∷ bs)) bytes.1 (refl, feed_settled bs))

no_splice_by : (w k : ℕ) (t u : Bool) → ltb 0 k ≡ u → ◌≡◌ {A = ℕ} (cond (t && u) (w + k) 0) 0 → (t && u) ≡ false
no_splice_by w k true true some none = absurd (omega (arith, none, ltb-true 0 k some))
no_splice_by w k true false some none = refl
no_splice_by w k false u some none = refl

splice_test : (bytes : List ℕ) (unit : ℕ × ℕ) → decoded bytes ≡ Some unit → splice bytes ≡ 0 → (eqb unit.0 92 && ltb 0 (feed (drop unit.1 bytes))) ≡ false
splice_test bytes unit is none = no_splice_by unit.1 (feed (drop unit.1 bytes)) (eqb unit.0 92) (ltb 0 (feed (drop unit.1 bytes))) refl (ap (λ o. splice_by o bytes) (sym is) ∙ none)

-- where nothing in front goes away, the unit in front is the first byte of the cleaned text
pub cleaned-head : (line : ℕ) (bytes : List ℕ) (unit : ℕ × ℕ) → IsSettled bytes → decoded bytes ≡ Some unit →
    cleaned_from line bytes ≡ record { byte = unit.0; line = line } ∷ cleaned_from (next_line line unit.0) (drop unit.1 bytes)
cleaned-head line bytes unit settled is = cleaned_by line bytes unit false is settled.no_return (splice_test bytes unit is settled.no_splice)

-- lengths

numbered_long : (line : ℕ) (bs : List ℕ) → length (numbered line bs) ≡ length bs
numbered_long line [] = refl
numbered_long line (b ∷ bs) = ap suc (numbered_long (cond (eqb b 10) (line + 1) line) bs)

shorter : {A : Type 0} (t : Bool) (n : ℕ) (xs ys : List A) → length xs ≤ n → length ys ≤ n → length (cond t xs ys) ≤ n
shorter true n xs ys first second = first
shorter false n xs ys first second = second

without_cr_short : (cs : List Char) → length (without_cr cs) ≤ length cs
without_cr_short [] = omega arith
without_cr_short (c ∷ []) = omega arith
without_cr_short (c ∷ d ∷ cs) =
    let inner = without_cr_short (d ∷ cs) in
    shorter ((eqb c.byte 13) && (eqb d.byte 10)) (suc (suc (length cs))) (without_cr (d ∷ cs)) (c ∷ without_cr (d ∷ cs)) (omega (arith, inner)) (omega (arith, inner))

replaced_short : (o : Option ℕ) (line n : ℕ) (xs ys : List Char) → length xs < n → length ys ≤ n → length (replaced o line xs ys) ≤ n
replaced_short None line n xs ys first second = second
replaced_short (Some b) line n xs ys first second = omega arith

without_trigraphs_short : (cs : List Char) → length (without_trigraphs cs) ≤ length cs
without_trigraphs_short [] = omega arith
without_trigraphs_short (a ∷ []) = omega arith
without_trigraphs_short (a ∷ b ∷ []) = omega arith
without_trigraphs_short (a ∷ b ∷ c ∷ cs) =
    let inner = without_trigraphs_short cs in
    let next = without_trigraphs_short (b ∷ c ∷ cs) in
    replaced_short (trigraph_of a b c) a.line (suc (suc (suc (length cs)))) (without_trigraphs cs) (a ∷ without_trigraphs (b ∷ c ∷ cs)) (omega (arith, inner)) (omega (arith, next))

spliced_short : (cs : List Char) → length (spliced cs) ≤ length cs
spliced_short [] = omega arith
spliced_short (c ∷ []) = omega arith
spliced_short (c ∷ d ∷ cs) =
    let inner = spliced_short cs in
    let next = spliced_short (d ∷ cs) in
    shorter ((eqb c.byte 92) && (eqb d.byte 10)) (suc (suc (length cs))) (spliced cs) (c ∷ spliced (d ∷ cs)) (omega (arith, inner)) (omega (arith, next))

pub cleaned-short : (line : ℕ) (bytes : List ℕ) → length (cleaned_from line bytes) ≤ length bytes
cleaned-short line bytes =
    omega (arith, spliced_short (unspliced line bytes), without_trigraphs_short (without_cr (numbered line bytes)), without_cr_short (numbered line bytes), numbered_long line bytes)

pub left-short : (cleans : Bool) (line : ℕ) (bytes : List ℕ) → length (left_of cleans line bytes) ≤ length bytes
left-short true line bytes = cleaned-short line bytes
left-short false line bytes = omega (arith, length-map {B = Char} bytes (λ b. record { byte = b; line = 1 }))

-- the place of the cursor

pub splice-some : (line : ℕ) (bytes : List ℕ) (size : ℕ) → size ≡ splice bytes → size ≢ 0 → cleaned_from line bytes ≡ cleaned_from (line + 1) (drop size bytes)
splice-some line bytes size is some = by (decoded bytes) refl
  where
    test_by : (unit : ℕ × ℕ) (t : Bool) → decoded bytes ≡ Some unit → (eqb unit.0 92 && ltb 0 (feed (drop unit.1 bytes))) ≡ t → size ≡ cond t (unit.1 + feed (drop unit.1 bytes)) 0 → cleaned_from line bytes ≡ cleaned_from (line + 1) (drop size bytes)
    test_by unit true found test far = splice-gone line bytes unit found test ∙ ap (λ n. cleaned_from (line + 1) (drop n bytes)) (sym far)
    test_by unit false found test far = absurd (some far)

    by : (o : Option (ℕ × ℕ)) → decoded bytes ≡ o → cleaned_from line bytes ≡ cleaned_from (line + 1) (drop size bytes)
    by None found = absurd (some (is ∙ ap (λ o. splice_by o bytes) found))
    by (Some unit) found = test_by unit (eqb unit.0 92 && ltb 0 (feed (drop unit.1 bytes))) found refl (is ∙ ap (λ o. splice_by o bytes) found)

pub place-some : (cleans : Bool) (line : ℕ) (bytes : List ℕ) (unit : ℕ × ℕ) → IsPlace cleans line bytes → front_of cleans bytes ≡ Some unit →
    left_of cleans line bytes ≡ record { byte = unit.0; line = line } ∷ left_of cleans (next_line line unit.0) (drop unit.1 bytes)
place-some true line bytes unit place is = cleaned-head line bytes unit (place.settled refl) is
place-some false line [] unit place is = cc
place-some false line (b ∷ bs) unit place is =
    let same : (b, 1) ≡ unit = ap (λ (o : Option (ℕ × ℕ)). unwrap_or o (b, 1)) is in
    subst (λ (u : ℕ × ℕ). on_line_one (b ∷ bs) ≡ record { byte = u.0; line = line } ∷ on_line_one (drop u.1 (b ∷ bs))) same (ap (λ n. record { byte = b; line = n } ∷ on_line_one bs) (sym (place.one refl)))

pub place-none : (cleans : Bool) (line : ℕ) (bytes : List ℕ) → front_of cleans bytes ≡ None → left_of cleans line bytes ≡ []
place-none true line [] is = refl
place-none true line (a ∷ []) is = cc
place-none true line (a ∷ b ∷ []) is = cc
place-none true line (a ∷ b ∷ c ∷ cs) is = cc
place-none false line [] is = refl
place-none false line (a ∷ bs) is = cc

pub place-byte : (cleans : Bool) (line : ℕ) (bytes : List ℕ) (byte width : ℕ) → IsPlace cleans line bytes → front_of cleans bytes ≡ Some (byte, width) → Some byte ≡ first_byte (left_of cleans line bytes)
place-byte cleans line bytes byte width place is = ap first_byte (sym (place-some cleans line bytes (byte, width) place is))

pub place-line : (cleans : Bool) (line : ℕ) (bytes : List ℕ) → IsPlace cleans line bytes → left_of cleans line bytes ≢ [] → line ≡ line_of (left_of cleans line bytes)
place-line cleans line bytes place some = by (front_of cleans bytes) refl
  where
    by : (o : Option (ℕ × ℕ)) → front_of cleans bytes ≡ o → line ≡ line_of (left_of cleans line bytes)
    by None is = absurd (some (place-none cleans line bytes is))
    by (Some unit) is = ap line_of (sym (place-some cleans line bytes unit place is))

pub place-behind : (cleans : Bool) (line : ℕ) (bytes : List ℕ) (byte width : ℕ) → IsPlace cleans line bytes → front_of cleans bytes ≡ Some (byte, width) → left_of cleans (line_behind line byte) (drop width bytes) ≡ drop 1 (left_of cleans line bytes)
place-behind cleans line bytes byte width place is = ap (drop 1) (sym (place-some cleans line bytes (byte, width) place is))

pub apart : (a b : ℕ) → a ≢ b → eqb a b ≡ false
apart a b other = false_from_ne_true (eqb a b) (λ is. other (eqb-true a b is))

plain_front : (cleans : Bool) (a : ℕ) (bs : List ℕ) → a ≢ 63 → front_of cleans (a ∷ bs) ≡ Some (a, 1)
plain_front true a bs other = decoded_plain a bs (apart a 63 other)
plain_front false a bs other = refl

-- a plain byte is the head, and the line stays
pub plain-head : (cleans : Bool) (line a : ℕ) (bs : List ℕ) → IsPlace cleans line (a ∷ bs) → IsPlain (a ∷ bs) → left_of cleans line (a ∷ bs) ≡ record { byte = a; line = line } ∷ left_of cleans line bs
plain-head cleans line a [] place plain = absurd plain
plain-head cleans line a (b ∷ bs) place plain =
    place-some cleans line (a ∷ b ∷ bs) (a, 1) place (plain_front cleans a (b ∷ bs) plain.0)
    ∙ ap (λ x. record { byte = a; line = line } ∷ left_of cleans (cond x (line + 1) line) (b ∷ bs)) (apart a 10 plain.1)

no_feed_two : (b : ℕ) (bs : List ℕ) → b ≢ 13 → feed (b ∷ bs) ≢ 2
no_feed_two b [] other is = by (eqb b 10) is
  where
    by : (t : Bool) → ◌≡◌ {A = ℕ} (cond t 1 0) 2 → ⊥
    by true wrong = absurd (omega arith)
    by false wrong = absurd (omega arith)
no_feed_two b (c ∷ cs) other is = other (sym (return_by b c cs (eqb b 10) (eqb b 13) (eqb c 10) refl refl refl is).0)

plain_settled : (b : ℕ) (bs : List ℕ) → b ≢ 13 → b ≢ 92 → b ≢ 63 → IsSettled (b ∷ bs)
plain_settled b bs return back mark = record {
  no_splice = ap (λ o. splice_by o (b ∷ bs)) (decoded_plain b bs (apart b 63 mark)) ∙ ap (λ x. cond (x && ltb 0 (feed bs)) (1 + feed bs) 0) (apart b 92 back);
  no_return = no_feed_two b bs return;
}

pub plain-place : (cleans : Bool) (line : ℕ) (bytes : List ℕ) → IsPlace cleans line bytes → IsPlain bytes → IsPlace cleans line (drop 1 bytes)
plain-place cleans line [] place plain = absurd plain
plain-place cleans line (a ∷ []) place plain = absurd plain
plain-place cleans line (a ∷ b ∷ bs) place plain = record {
  settled = λ is. plain_settled b bs plain.2 plain.3 plain.4;
  one = place.one;
  bound = omega (arith, place.bound);
}
