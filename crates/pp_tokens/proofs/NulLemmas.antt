-- The first byte 0 and its line.
use Rattle.std.proofs.Common.{◌≡◌, ℕ, zero, suc, ◌+◌, ◌<◌, eqb, Bool, true, false, cond, List, [], ◌∷◌, ◌++◌, length, get_or, take, Some, None, refl, ◌∙◌, ap, arith}
use Rattle.pp_tokens.specs.Cleaning.{on_line_one, numbered, first_nul}
use Rattle.pp_tokens.specs.Scan.{line_feeds}

pub nul_none : (xs : List ℕ) → ((j : ℕ) → j < length xs → eqb (get_or xs j 0) 0 ≡ false) → first_nul (on_line_one xs) ≡ None
nul_none [] none = refl
nul_none (b ∷ bs) none =
    let other : eqb b 0 ≡ false = none 0 (omega arith) in
    rw other (nul_none bs (λ j h. none (suc j) (omega arith)))

pub nul_some : (xs : List ℕ) (k : ℕ) → k < length xs → eqb (get_or xs k 0) 0 ≡ true → ((j : ℕ) → j < k → eqb (get_or xs j 0) 0 ≡ false) → first_nul (on_line_one xs) ≡ Some 1
nul_some [] k within here before = absurd (omega arith)
nul_some (b ∷ bs) zero within here before = rw here refl
nul_some (b ∷ bs) (suc k) within here before =
    let other : eqb b 0 ≡ false = before 0 (omega arith) in
    rw other (nul_some bs k (omega arith) here (λ j h. before (suc j) (omega arith)))

pub nul_none_file : (xs : List ℕ) (line : ℕ) → ((j : ℕ) → j < length xs → eqb (get_or xs j 0) 0 ≡ false) → first_nul (numbered line xs) ≡ None
nul_none_file [] line none = refl
nul_none_file (b ∷ bs) line none =
    let other : eqb b 0 ≡ false = none 0 (omega arith) in
    rw other (nul_none_file bs _ (λ j h. none (suc j) (omega arith)))

count_cases : (t : Bool) (line n : ℕ) → cond t (line + 1) line + n ≡ line + cond t (suc n) n
count_cases true line n = omega arith
count_cases false line n = refl

pub nul_some_file : (xs : List ℕ) (k line : ℕ) → k < length xs → eqb (get_or xs k 0) 0 ≡ true → ((j : ℕ) → j < k → eqb (get_or xs j 0) 0 ≡ false) →
    first_nul (numbered line xs) ≡ Some (line + line_feeds (take k xs))
nul_some_file [] k line within here before = absurd (omega arith)
nul_some_file (b ∷ bs) zero line within here before = rw here (let same : line ≡ line + 0 = omega arith in ap Some same)
nul_some_file (b ∷ bs) (suc k) line within here before =
    let other : eqb b 0 ≡ false = before 0 (omega arith) in
    rw other (nul_some_file bs k (cond (eqb b 10) (line + 1) line) (omega arith) here (λ j h. before (suc j) (omega arith)) ∙ ap Some (count_cases (eqb b 10) line (line_feeds (take k bs))))

more_by : (t : Bool) (n m : ℕ) → m + cond t (suc n) n ≡ m + n + cond t 1 0
more_by true n m = omega arith
more_by false n m = omega arith

pub line_feeds-last : (xs : List ℕ) (b : ℕ) → line_feeds (xs ++ b ∷ []) ≡ line_feeds xs + cond (eqb b 10) 1 0
line_feeds-last [] b = by (eqb b 10)
  where
    by : (t : Bool) → ◌≡◌ {A = ℕ} (cond t 1 0) (0 + cond t 1 0)
    by true = refl
    by false = refl
line_feeds-last (x ∷ xs) b = step (eqb x 10) (line_feeds-last xs b)
  where
    step : (t : Bool) → line_feeds (xs ++ b ∷ []) ≡ line_feeds xs + cond (eqb b 10) 1 0 → cond t (suc (line_feeds (xs ++ b ∷ []))) (line_feeds (xs ++ b ∷ [])) ≡ cond t (suc (line_feeds xs)) (line_feeds xs) + cond (eqb b 10) 1 0
    step true inner = omega (arith, inner)
    step false inner = inner
