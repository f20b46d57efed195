-- What is counted over the bytes in front goes on after them.
use Rattle.std.proofs.Common.{◌≡◌, ℕ, suc, ◌+◌, Bool, true, false, not, ◌&&◌, ◌||◌, cond, eqb, List, [], ◌∷◌, take, drop, Option, Some, None, refl, sym, ◌∙◌, ap, length, ◌≤◌, arith}
use Rattle.std.specs.Option.{option_map}
use Rattle.std.proofs.lemmas.List.{drop-map, length-map}
use Rattle.pp_tokens.specs.Cleaning.{Char, bytes_of}
use Rattle.pp_tokens.specs.Cut.{line_rest, up_to_close}
use Rattle.pp_tokens.specs.Kinds.{first_is, is_word}
use Rattle.pp_tokens.specs.Scan.{first_byte, word_length, element, closing}

pub map_same : (f g : ℕ → ℕ) (o : Option ℕ) → ((n : ℕ) → f n ≡ g n) → option_map f o ≡ option_map g o
map_same f g None same = refl
map_same f g (Some n) same = ap Some (same n)

one_more : (o : Option ℕ) → option_map (λ n. 1 + n) o ≡ option_map suc o
one_more o = map_same _ _ o (λ n. omega arith)

two_more : (o : Option ℕ) → option_map (λ n. 2 + n) o ≡ option_map (λ n. suc (suc n)) o
two_more o = map_same _ _ o (λ n. omega arith)

length_by : (closes ends escapes again : Bool) → ℕ
length_by closes ends escapes again = cond (closes || ends) 0 (cond escapes (cond (not again) 2 0) 1)

cases : (closes ends escapes again : Bool) (q b c : ℕ) (bs : List ℕ) → (length_by closes ends escapes again ≡ 0 → ⊥) →
    option_map (λ n. length_by closes ends escapes again + n) (closing q (drop (length_by closes ends escapes again) (b ∷ c ∷ bs)))
    ≡ cond closes (Some 1) (cond ends None (cond escapes (cond again None (option_map (λ n. suc (suc n)) (closing q bs))) (option_map suc (closing q (c ∷ bs)))))
unfolding length_by
cases true ends escapes again q b c bs some = absurd (some refl)
cases false true escapes again q b c bs some = absurd (some refl)
cases false false true true q b c bs some = absurd (some refl)
cases false false true false q b c bs some = two_more (closing q bs)
cases false false false again q b c bs some = one_more (closing q (c ∷ bs))

last_by : (closes ends escapes : Bool) → ℕ
last_by closes ends escapes = cond (closes || ends) 0 (cond escapes 0 1)

last_case : (closes ends escapes : Bool) (q b : ℕ) → (last_by closes ends escapes ≡ 0 → ⊥) →
    option_map (λ n. last_by closes ends escapes + n) (closing q (drop (last_by closes ends escapes) (b ∷ []))) ≡ cond closes (Some 1) None
unfolding last_by
last_case true ends escapes q b some = absurd (some refl)
last_case false true escapes q b some = absurd (some refl)
last_case false false true q b some = absurd (some refl)
last_case false false false q b some = refl

pub closing-element : (q : ℕ) (xs : List ℕ) → (element q xs ≡ 0 → ⊥) → option_map (λ n. element q xs + n) (closing q (drop (element q xs) xs)) ≡ closing q xs
unfolding length_by last_by
closing-element q [] some = absurd (some refl)
closing-element q (b ∷ []) some = last_case (eqb b q) (eqb b 10) (eqb b 92) q b some
closing-element q (b ∷ c ∷ bs) some = cases (eqb b q) (eqb b 10) (eqb b 92) (eqb c 10) q b c bs some

none_cases : (closes ends escapes again : Bool) (inner later : Option ℕ) → length_by closes ends escapes again ≡ 0 →
    cond closes (Some 1) (cond ends None (cond escapes (cond again None inner) later)) ≡ cond closes (Some 1) None
unfolding length_by
none_cases true ends escapes again inner later none = refl
none_cases false true escapes again inner later none = refl
none_cases false false true true inner later none = refl
none_cases false false true false inner later none = absurd (omega arith)
none_cases false false false again inner later none = absurd (omega arith)

pub closing-no_element : (q : ℕ) (xs : List ℕ) → element q xs ≡ 0 → closing q xs ≡ cond (first_is (λ b. eqb b q) xs) (Some 1) None
unfolding length_by
closing-no_element q [] none = refl
closing-no_element q (b ∷ []) none = refl
closing-no_element q (b ∷ c ∷ bs) none = none_cases (eqb b q) (eqb b 10) (eqb b 92) (eqb c 10) _ _ none

-- what m bytes more make of a length that was counted to k
pub counted : (k m : ℕ) (o p whole : Option ℕ) → option_map (λ n. m + n) o ≡ p → option_map (λ n. k + n) p ≡ whole → option_map (λ n. k + m + n) o ≡ whole
counted k m None p whole step is = ap (option_map (λ n. k + n)) step ∙ is
counted k m (Some n) p whole step is = (let same : k + m + n ≡ k + (m + n) = omega arith in ap Some same) ∙ ap (option_map (λ n. k + n)) step ∙ is

pub closing-counted : (q k m : ℕ) (cs : List Char) (whole : Option ℕ) → m ≡ element q (bytes_of cs) → (m ≡ 0 → ⊥) →
    option_map (λ n. k + n) (closing q (bytes_of cs)) ≡ whole → option_map (λ n. k + m + n) (closing q (bytes_of (drop m cs))) ≡ whole
closing-counted q k m cs whole size some is =
    let far : drop (element q (bytes_of cs)) (bytes_of cs) ≡ bytes_of (drop m cs) = ap (λ n. drop n (bytes_of cs)) (sym size) ∙ drop-map (λ (c : Char). c.byte) m cs in
    let step : option_map (λ n. m + n) (closing q (bytes_of (drop m cs))) ≡ closing q (bytes_of cs) =
    ap (λ xs. option_map (λ n. m + n) (closing q xs)) (sym far) ∙ ap (λ e. option_map (λ n. e + n) (closing q (drop (element q (bytes_of cs)) (bytes_of cs)))) size ∙ closing-element q (bytes_of cs) (λ none. some (size ∙ none)) in
    counted k m (closing q (bytes_of (drop m cs))) (closing q (bytes_of cs)) whole step is

close_cases : (t : Bool) (o : Option ℕ) → false ≡ t → option_map (λ n. 1 + n) o ≡ cond t (Some 2) (option_map suc o)
close_cases true o is = cc
close_cases false o is = one_more o

close_step : (cs : List Char) (b : ℕ) → Some b ≡ first_byte cs → false ≡ (eqb b 42 && first_is (λ c. eqb c 47) (bytes_of (drop 1 cs))) →
    option_map (λ n. 1 + n) (up_to_close (bytes_of (drop 1 cs))) ≡ up_to_close (bytes_of cs)
close_step [] b is not_here = cc
close_step (c ∷ []) b is not_here = refl
close_step (c ∷ d ∷ cs) b is not_here =
    let same : b ≡ c.byte = cc in
    close_cases (eqb c.byte 42 && eqb d.byte 47) (up_to_close (bytes_of (d ∷ cs))) (not_here ∙ ap (λ x. eqb x 42 && eqb d.byte 47) same)

pub close-counted : (k b : ℕ) (cs : List Char) (whole : Option ℕ) → Some b ≡ first_byte cs → false ≡ (eqb b 42 && first_is (λ c. eqb c 47) (bytes_of (drop 1 cs))) →
    option_map (λ n. k + n) (up_to_close (bytes_of cs)) ≡ whole → option_map (λ n. k + 1 + n) (up_to_close (bytes_of (drop 1 cs))) ≡ whole
close-counted k b cs whole is not_here was = counted k 1 (up_to_close (bytes_of (drop 1 cs))) (up_to_close (bytes_of cs)) whole (close_step cs b is not_here) was

element_cases : (closes ends escapes again : Bool) (n : ℕ) → length_by closes ends escapes again ≤ suc (suc n)
unfolding length_by
element_cases true ends escapes again n = omega arith
element_cases false true escapes again n = omega arith
element_cases false false true true n = omega arith
element_cases false false true false n = omega arith
element_cases false false false again n = omega arith

last_le : (closes ends escapes : Bool) → last_by closes ends escapes ≤ 1
unfolding last_by
last_le true ends escapes = omega arith
last_le false true escapes = omega arith
last_le false false true = omega arith
last_le false false false = omega arith

element_fits : (q : ℕ) (xs : List ℕ) → element q xs ≤ length xs
unfolding length_by last_by
element_fits q [] = omega arith
element_fits q (b ∷ []) = last_le (eqb b q) (eqb b 10) (eqb b 92)
element_fits q (b ∷ c ∷ bs) = element_cases (eqb b q) (eqb b 10) (eqb b 92) (eqb c 10) (length bs)

pub element-le : (q : ℕ) (cs : List Char) → element q (bytes_of cs) ≤ length cs
element-le q cs = omega (arith, element_fits q (bytes_of cs), length-map cs (λ (c : Char). c.byte))

-- bytes in front are no more than there are
pub front-le : (front : List ℕ) (cs : List Char) → front ≡ bytes_of (take (length front) cs) → length front ≤ length cs
front-le [] cs is = omega arith
front-le (b ∷ bs) [] is = cc
front-le (b ∷ bs) (c ∷ cs) is = let rest : bs ≡ bytes_of (take (length bs) cs) = cc in omega (arith, front-le bs cs rest)

-- one byte in front of what was counted so
word_cases : (t : Bool) (n : ℕ) (c : Char) (cs : List Char) → is_word c.byte ≡ t → n + word_length (bytes_of (drop n cs)) ≡ word_length (bytes_of cs) →
    cond t (1 + n) 0 + word_length (bytes_of (drop (cond t (1 + n) 0) (c ∷ cs))) ≡ word_length (bytes_of (c ∷ cs))
word_cases true n c cs is inner = grind arith
word_cases false n c cs is inner = omega arith

-- the letters and digits of the bytes in front are counted, and those after them
pub word-on : (front : List ℕ) (cs : List Char) → front ≡ bytes_of (take (length front) cs) → word_length front + word_length (bytes_of (drop (word_length front) cs)) ≡ word_length (bytes_of cs)
word-on [] cs is = omega arith
word-on (b ∷ bs) [] is = cc
word-on (b ∷ bs) (c ∷ cs) is =
    let same : c.byte ≡ b = cc in
    let rest : bs ≡ bytes_of (take (length bs) cs) = cc in
    word_cases (is_word b) (word_length bs) c cs (ap is_word same) (word-on bs cs rest)

-- one byte that is no line feed in front of what was counted so
line_cases : (t : Bool) (bs : List ℕ) (c : Char) (cs : List Char) → eqb c.byte 10 ≡ t → ◌≡◌ {A = ℕ} (cond t 0 (suc (line_rest bs))) (suc (length bs)) →
    (line_rest bs ≡ length bs → length bs + line_rest (bytes_of (drop (length bs) cs)) ≡ line_rest (bytes_of cs)) →
    suc (length bs) + line_rest (bytes_of (drop (length bs) cs)) ≡ line_rest (bytes_of (c ∷ cs))
line_cases true bs c cs is none inner = absurd (omega (arith, none))
line_cases false bs c cs is none inner =
    let more : length bs + line_rest (bytes_of (drop (length bs) cs)) ≡ line_rest (bytes_of cs) = inner (omega (arith, none)) in
    rw is (omega (arith, more))

-- where no line feed is among the bytes in front, all of them are counted
pub line-on : (front : List ℕ) (cs : List Char) → front ≡ bytes_of (take (length front) cs) → line_rest front ≡ length front → length front + line_rest (bytes_of (drop (length front) cs)) ≡ line_rest (bytes_of cs)
line-on [] cs is none = omega arith
line-on (b ∷ bs) [] is none = cc
line-on (b ∷ bs) (c ∷ cs) is none =
    let same : c.byte ≡ b = cc in
    let rest : bs ≡ bytes_of (take (length bs) cs) = cc in
    line_cases (eqb b 10) bs c cs (ap (λ x. eqb x 10) same) none (line-on bs cs rest)
