-- What the cursor finds in front is the head of what phases 1 and 2 leave.
use Rattle.std.proofs.Common.{◌≡◌, ◌≢◌, ℕ, ◌+◌, eqb, ltb, Bool, true, false, ◌&&◌, cond, List, [], ◌∷◌, drop, Option, Some, None, refl, sym, ◌∙◌, ap, subst, arith}
use Rattle.std.specs.Option.{unwrap_or}
use Rattle.std.proofs.lemmas.Bool.{and_parts, false_from_ne_true}
use borrow.Author.Tests.{eqb-true}
use Rattle.pp_tokens.specs.Cleaning.{Char, bytes_of, numbered, without_cr, trigraph, replaced, without_trigraphs}
use Rattle.pp_tokens.specs.Kinds.{first_is}
use Rattle.pp_tokens.specs.Raw.{spelled, decoded, feed}
use Rattle.pp_tokens.proofs.KindLemmas.{clash}

-- the line after a byte
abbrev pub next_line : ℕ → ℕ → ℕ
next_line line byte = cond (eqb byte 10) (line + 1) line

-- without carriage returns

kept_return : (line b : ℕ) (bs : List ℕ) → (eqb b 13 && first_is (λ c. eqb c 10) bs) ≡ false → without_cr (numbered line (b ∷ bs)) ≡ record { byte = b; line = line } ∷ without_cr (numbered (next_line line b) bs)
kept_return line b [] kept = refl
kept_return line b (c ∷ cs) kept = rw kept refl

-- without trigraphs

kept_first : (c : Char) (cs : List Char) → eqb c.byte 63 ≡ false → without_trigraphs (c ∷ cs) ≡ c ∷ without_trigraphs cs
kept_first c [] other = refl
kept_first c (d ∷ []) other = refl
kept_first c (d ∷ e ∷ cs) other = rw other refl

kept_second : (c : Char) (cs : List Char) → first_is (λ b. eqb b 63) (bytes_of cs) ≡ false → without_trigraphs (c ∷ cs) ≡ c ∷ without_trigraphs cs
kept_second c [] other = refl
kept_second c (d ∷ []) other = refl
kept_second c (d ∷ e ∷ cs) other = rw other (by (eqb c.byte 63))
  where
    by : (t : Bool) → replaced (cond (t && false) (trigraph e.byte) None) c.line (without_trigraphs cs) (c ∷ without_trigraphs (d ∷ e ∷ cs)) ≡ c ∷ without_trigraphs (d ∷ e ∷ cs)
    by true = refl
    by false = refl

-- the bytes without carriage returns, and without trigraphs too

abbrev returned : ℕ → List ℕ → List Char
returned line bytes = without_cr (numbered line bytes)

abbrev pub unspliced : ℕ → List ℕ → List Char
unspliced line bytes = without_trigraphs (returned line bytes)

-- a carriage return before a line feed
return_gone : (line a : ℕ) (xs : List ℕ) → (eqb a 13 && first_is (λ c. eqb c 10) xs) ≡ true → returned line (a ∷ xs) ≡ record { byte = 10; line = line } ∷ returned (line + 1) (drop 1 xs)
return_gone line a [] both = absurd (clash false (and_parts (eqb a 13) false both).1 refl)
return_gone line a (b ∷ bs) both =
    let parts = and_parts (eqb a 13) (eqb b 10) both in
    let first : 13 ≡ a = sym (eqb-true a 13 parts.0) in
    let second : 10 ≡ b = sym (eqb-true b 10 parts.1) in
    subst (λ x. returned line (x ∷ b ∷ bs) ≡ record { byte = 10; line = line } ∷ returned (line + 1) bs) first
    (subst (λ y. returned line (13 ∷ y ∷ bs) ≡ record { byte = 10; line = line } ∷ returned (line + 1) bs) second (kept_return line 10 bs refl))

head_other : (line x : ℕ) (xs : List ℕ) (t : Bool) → (eqb x 13 && first_is (λ c. eqb c 10) xs) ≡ t → eqb x 63 ≡ false → first_is (λ b. eqb b 63) (bytes_of (returned line (x ∷ xs))) ≡ false
head_other line x xs true return other = ap (λ (cs : List Char). first_is (λ b. eqb b 63) (bytes_of cs)) (return_gone line x xs return)
head_other line x xs false return other = ap (λ (cs : List Char). first_is (λ b. eqb b 63) (bytes_of cs)) (kept_return line x xs return) ∙ other

-- no trigraph stands for a line feed
abbrev pub NoFeed : Option ℕ → Type 0
NoFeed None = Unit {0}
NoFeed (Some b) = eqb b 10 ≡ false

either : (P : Option ℕ → Type 0) (t : Bool) (x y : Option ℕ) → P x → P y → P (cond t x y)
either P true x y first second = first
either P false x y first second = second

pub trigraph_feed : (t : ℕ) → NoFeed (trigraph t)
trigraph_feed t =
    either NoFeed (eqb t 61) _ _ refl (either NoFeed (eqb t 40) _ _ refl (either NoFeed (eqb t 47) _ _ refl (either NoFeed (eqb t 41) _ _ refl (either NoFeed (eqb t 39) _ _ refl
    (either NoFeed (eqb t 60) _ _ refl (either NoFeed (eqb t 33) _ _ refl (either NoFeed (eqb t 62) _ _ refl (either NoFeed (eqb t 45) (Some 126) None refl tt))))))))

third_no_feed : (t b : ℕ) → trigraph t ≡ Some b → eqb t 10 ≡ false
third_no_feed t b is = false_from_ne_true (eqb t 10) (λ feed_is. let same : t ≡ 10 = eqb-true t 10 feed_is in let none : trigraph t ≡ None = ap trigraph same in cc)

-- the unit in front
abbrev Heads : ℕ → List ℕ → ℕ × ℕ → Type 0
Heads line bytes unit = unspliced line bytes ≡ record { byte = unit.0; line = line } ∷ unspliced (next_line line unit.0) (drop unit.1 bytes)

plain : (line b : ℕ) (bs : List ℕ) → eqb b 63 ≡ false → (eqb b 13 && first_is (λ c. eqb c 10) bs) ≡ false → Heads line (b ∷ bs) (b, 1)
plain line b bs other kept = ap without_trigraphs (kept_return line b bs kept) ∙ kept_first _ _ other

third : (line t : ℕ) (ts : List ℕ) (return : Bool) (o : Option ℕ) → (eqb t 13 && first_is (λ c. eqb c 10) ts) ≡ return → trigraph t ≡ o → Heads line (63 ∷ 63 ∷ t ∷ ts) (spelled 63 o)
third line t ts true None return is =
    let gone = return_gone line t ts return in
    ap (λ (cs : List Char). without_trigraphs (record { byte = 63; line = line } ∷ record { byte = 63; line = line } ∷ cs)) gone
    ∙ ap (λ (cs : List Char). record { byte = 63; line = line } ∷ without_trigraphs (record { byte = 63; line = line } ∷ cs)) (sym gone)
third line t ts true (Some b) return is =
    let same : t ≡ 13 = eqb-true t 13 (and_parts (eqb t 13) _ return).0 in
    let none : trigraph t ≡ None = ap trigraph same in cc
third line t ts false None return is =
    let kept = kept_return line t ts return in
    ap (λ (cs : List Char). without_trigraphs (record { byte = 63; line = line } ∷ record { byte = 63; line = line } ∷ cs)) kept
    ∙ ap (λ o. replaced o line (unspliced (next_line line t) ts) (record { byte = 63; line = line } ∷ without_trigraphs (record { byte = 63; line = line } ∷ record { byte = t; line = line } ∷ returned (next_line line t) ts))) is
    ∙ ap (λ (cs : List Char). record { byte = 63; line = line } ∷ without_trigraphs (record { byte = 63; line = line } ∷ cs)) (sym kept)
third line t ts false (Some b) return is =
    let kept = kept_return line t ts return in
    let no_feed : eqb b 10 ≡ false = subst NoFeed is (trigraph_feed t) in
    ap (λ (cs : List Char). without_trigraphs (record { byte = 63; line = line } ∷ record { byte = 63; line = line } ∷ cs)) kept
    ∙ ap (λ o. replaced o line (unspliced (next_line line t) ts) (record { byte = 63; line = line } ∷ without_trigraphs (record { byte = 63; line = line } ∷ record { byte = t; line = line } ∷ returned (next_line line t) ts))) is
    ∙ ap (λ x. record { byte = b; line = line } ∷ unspliced (cond x (line + 1) line) ts) (third_no_feed t b is ∙ sym no_feed)

same_unit : (x y : ℕ × ℕ) → Some x ≡ Some y → x ≡ y
same_unit x y is = ap (λ (o : Option (ℕ × ℕ)). unwrap_or o x) is

second_by : (line x t : ℕ) (ts : List ℕ) (e : Bool) → eqb x 63 ≡ e → Heads line (63 ∷ x ∷ t ∷ ts) (spelled 63 (cond e (trigraph t) None))
second_by line x t ts true is =
    let same : 63 ≡ x = sym (eqb-true x 63 is) in
    subst (λ z. Heads line (63 ∷ z ∷ t ∷ ts) (spelled 63 (trigraph t))) same (third line t ts _ (trigraph t) refl refl)
second_by line x t ts false is = ap without_trigraphs (kept_return line 63 (x ∷ t ∷ ts) refl) ∙ kept_second (record { byte = 63; line = line }) (returned line (x ∷ t ∷ ts)) (head_other line x (t ∷ ts) _ refl is)

question : (line : ℕ) (bs : List ℕ) (unit : ℕ × ℕ) → decoded (63 ∷ bs) ≡ Some unit → Heads line (63 ∷ bs) unit
question line [] unit is = subst (Heads line (63 ∷ [])) (same_unit (63, 1) unit is) refl
question line (x ∷ []) unit is = subst (Heads line (63 ∷ x ∷ [])) (same_unit (63, 1) unit is) refl
question line (x ∷ t ∷ ts) unit is = subst (Heads line (63 ∷ x ∷ t ∷ ts)) (same_unit (spelled 63 (cond (eqb x 63) (trigraph t) None)) unit is) (second_by line x t ts (eqb x 63) refl)

pub decoded_plain : (a : ℕ) (bs : List ℕ) → eqb a 63 ≡ false → decoded (a ∷ bs) ≡ Some (a, 1)
decoded_plain a [] other = refl
decoded_plain a (b ∷ []) other = refl
decoded_plain a (b ∷ c ∷ cs) other = ap (λ x. Some (spelled a (cond (x && eqb b 63) (trigraph c) None))) other

return_feed : (a : ℕ) (bs : List ℕ) → (eqb a 13 && first_is (λ c. eqb c 10) bs) ≡ true → feed (a ∷ bs) ≡ 2
return_feed a [] both = absurd (clash false (and_parts (eqb a 13) false both).1 refl)
return_feed a (b ∷ bs) both =
    let parts = and_parts (eqb a 13) (eqb b 10) both in
    let first : 13 ≡ a = sym (eqb-true a 13 parts.0) in
    subst (λ x. feed (x ∷ b ∷ bs) ≡ 2) first (ap (λ x. cond x 2 0) parts.1)

no_return : (a : ℕ) (bs : List ℕ) → feed (a ∷ bs) ≢ 2 → (eqb a 13 && first_is (λ c. eqb c 10) bs) ≡ false
no_return a bs kept = false_from_ne_true _ (λ both. kept (return_feed a bs both))

step_by : (line a : ℕ) (bs : List ℕ) (unit : ℕ × ℕ) (t : Bool) → eqb a 63 ≡ t → decoded (a ∷ bs) ≡ Some unit → feed (a ∷ bs) ≢ 2 → Heads line (a ∷ bs) unit
step_by line a bs unit true mark is kept =
    let same : 63 ≡ a = sym (eqb-true a 63 mark) in
    subst (λ x. Heads line (x ∷ bs) unit) same (question line bs unit (ap (λ x. decoded (x ∷ bs)) same ∙ is))
step_by line a bs unit false mark is kept = subst (Heads line (a ∷ bs)) (same_unit (a, 1) unit (sym (decoded_plain a bs mark) ∙ is)) (plain line a bs mark (no_return a bs kept))

pub unspliced-step : (line : ℕ) (bytes : List ℕ) (unit : ℕ × ℕ) → decoded bytes ≡ Some unit → feed bytes ≢ 2 → Heads line bytes unit
unspliced-step line [] unit is kept = cc
unspliced-step line (a ∷ bs) unit is kept = step_by line a bs unit (eqb a 63) refl is kept

-- a line feed in front

spelled_feed : (o : Option ℕ) → NoFeed o → eqb (spelled 63 o).0 10 ≡ false
spelled_feed None none = refl
spelled_feed (Some b) none = none

question_feed : (bs : List ℕ) (unit : ℕ × ℕ) → decoded (63 ∷ bs) ≡ Some unit → eqb unit.0 10 ≡ false
question_feed [] unit is = ap (λ (u : ℕ × ℕ). eqb u.0 10) (sym (same_unit (63, 1) unit is))
question_feed (x ∷ []) unit is = ap (λ (u : ℕ × ℕ). eqb u.0 10) (sym (same_unit (63, 1) unit is))
question_feed (x ∷ t ∷ ts) unit is =
    ap (λ (u : ℕ × ℕ). eqb u.0 10) (sym (same_unit (spelled 63 (cond (eqb x 63) (trigraph t) None)) unit is)) ∙ spelled_feed _ (either NoFeed (eqb x 63) (trigraph t) None (trigraph_feed t) tt)

decoded_feed : (a : ℕ) (bs : List ℕ) (unit : ℕ × ℕ) (t : Bool) → eqb a 63 ≡ t → decoded (a ∷ bs) ≡ Some unit → eqb unit.0 10 ≡ eqb a 10
decoded_feed a bs unit true mark is =
    let same : 63 ≡ a = sym (eqb-true a 63 mark) in
    question_feed bs unit (ap (λ x. decoded (x ∷ bs)) same ∙ is) ∙ ap (λ x. eqb x 10) same
decoded_feed a bs unit false mark is = ap (λ (u : ℕ × ℕ). eqb u.0 10) (sym (same_unit (a, 1) unit (sym (decoded_plain a bs mark) ∙ is)))

decoded_some : (a : ℕ) (bs : List ℕ) → (unit : ℕ × ℕ) × (decoded (a ∷ bs) ≡ Some unit)
decoded_some a [] = ((a, 1), refl)
decoded_some a (b ∷ []) = ((a, 1), refl)
decoded_some a (b ∷ c ∷ cs) = (spelled a (cond ((eqb a 63) && (eqb b 63)) (trigraph c) None), refl)

feed_by : (a : ℕ) (bs : List ℕ) → (eqb a 13 && first_is (λ c. eqb c 10) bs) ≡ false → feed (a ∷ bs) ≡ cond (eqb a 10) 1 0
feed_by a [] kept = refl
feed_by a (b ∷ bs) kept = ap (λ x. cond (eqb a 10) 1 (cond x 2 0)) kept

kept_feed : (a : ℕ) (bs : List ℕ) → (eqb a 13 && first_is (λ c. eqb c 10) bs) ≡ false → feed (a ∷ bs) ≢ 2
kept_feed a bs kept is = by (eqb a 10) (sym (feed_by a bs kept) ∙ is)
  where
    by : (t : Bool) → ◌≡◌ {A = ℕ} (cond t 1 0) 2 → ⊥
    by true wrong = absurd (omega arith)
    by false wrong = absurd (omega arith)

positive_by : (t : Bool) → t ≡ ltb 0 (cond t 1 0)
positive_by true = refl
positive_by false = refl

gone : (line a : ℕ) (bs : List ℕ) → (eqb a 13 && first_is (λ c. eqb c 10) bs) ≡ true → unspliced line (a ∷ bs) ≡ record { byte = 10; line = line } ∷ unspliced (line + 1) (drop 1 bs)
gone line a bs return = ap without_trigraphs (return_gone line a bs return) ∙ kept_first _ _ refl

feed_head_by : (line a : ℕ) (bs : List ℕ) (t : Bool) → (eqb a 13 && first_is (λ c. eqb c 10) bs) ≡ t → first_is (λ b. eqb b 10) (bytes_of (unspliced line (a ∷ bs))) ≡ ltb 0 (feed (a ∷ bs))
feed_head_by line a bs true return = ap (λ (cs : List Char). first_is (λ b. eqb b 10) (bytes_of cs)) (gone line a bs return) ∙ ap (ltb 0) (sym (return_feed a bs return))
feed_head_by line a bs false return =
    let unit = decoded_some a bs in
    ap (λ (cs : List Char). first_is (λ b. eqb b 10) (bytes_of cs)) (unspliced-step line (a ∷ bs) unit.0 unit.1 (kept_feed a bs return))
    ∙ decoded_feed a bs unit.0 (eqb a 63) refl unit.1 ∙ positive_by (eqb a 10) ∙ ap (ltb 0) (sym (feed_by a bs return))

pub feed_head : (line : ℕ) (bytes : List ℕ) → first_is (λ b. eqb b 10) (bytes_of (unspliced line bytes)) ≡ ltb 0 (feed bytes)
feed_head line [] = refl
feed_head line (a ∷ bs) = feed_head_by line a bs (eqb a 13 && first_is (λ c. eqb c 10) bs) refl

feed_one : (line a : ℕ) (bs : List ℕ) (t : Bool) → eqb a 10 ≡ t → (eqb a 13 && first_is (λ c. eqb c 10) bs) ≡ false → ltb 0 (cond t 1 0) ≡ true → unspliced line (a ∷ bs) ≡ record { byte = 10; line = line } ∷ unspliced (line + 1) (drop (cond t 1 0) (a ∷ bs))
feed_one line a bs true is kept some =
    let same : 10 ≡ a = sym (eqb-true a 10 is) in
    subst (λ x. unspliced line (x ∷ bs) ≡ record { byte = 10; line = line } ∷ unspliced (line + 1) bs) same (plain line 10 bs refl refl)
feed_one line a bs false is kept some = cc

feed_line_by : (line a : ℕ) (bs : List ℕ) (t : Bool) → (eqb a 13 && first_is (λ c. eqb c 10) bs) ≡ t → ltb 0 (feed (a ∷ bs)) ≡ true → unspliced line (a ∷ bs) ≡ record { byte = 10; line = line } ∷ unspliced (line + 1) (drop (feed (a ∷ bs)) (a ∷ bs))
feed_line_by line a bs true return some = gone line a bs return ∙ ap (λ n. record { byte = 10; line = line } ∷ unspliced (line + 1) (drop n (a ∷ bs))) (sym (return_feed a bs return))
feed_line_by line a bs false return some =
    feed_one line a bs (eqb a 10) refl return (ap (ltb 0) (sym (feed_by a bs return)) ∙ some) ∙ ap (λ n. record { byte = 10; line = line } ∷ unspliced (line + 1) (drop n (a ∷ bs))) (sym (feed_by a bs return))

pub feed_line : (line : ℕ) (bytes : List ℕ) → ltb 0 (feed bytes) ≡ true → unspliced line bytes ≡ record { byte = 10; line = line } ∷ unspliced (line + 1) (drop (feed bytes) bytes)
feed_line line [] some = cc
feed_line line (a ∷ bs) some = feed_line_by line a bs (eqb a 13 && first_is (λ c. eqb c 10) bs) refl some
