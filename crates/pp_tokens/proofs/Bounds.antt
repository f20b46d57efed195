-- Lengths that are found are no longer than the text.
use Rattle.std.proofs.Common.{ℕ, suc, ◌≤◌, eqb, Bool, true, false, cond, List, [], ◌∷◌, length, Option, Some, None, arith}
use Rattle.std.specs.Option.{option_map}
use Rattle.pp_tokens.specs.Scan.{closing}

-- a length of at most n
abbrev pub AtMost : ℕ → Option ℕ → Type 0
AtMost n None = Unit {0}
AtMost n (Some k) = k ≤ n

pub one_of : {A : Type 0} (P : A → Type 0) (t : Bool) (x y : A) → P x → P y → P (cond t x y)
one_of P true x y first second = first
one_of P false x y first second = second

pub more : (n : ℕ) (o : Option ℕ) → AtMost n o → AtMost (suc n) (option_map suc o)
more n None most = tt
more n (Some k) most = omega arith

two_more : (n : ℕ) (o : Option ℕ) → AtMost n o → AtMost (suc (suc n)) (option_map (λ k. suc (suc k)) o)
two_more n None most = tt
two_more n (Some k) most = omega arith

pub closing-most : (q : ℕ) (bs : List ℕ) → AtMost (length bs) (closing q bs)
closing-most q [] = tt
closing-most q (b ∷ []) = one_of (AtMost 1) (eqb b q) (Some 1) None (omega arith) tt
closing-most q (b ∷ c ∷ bs) =
    let P : Option ℕ → Type 0 = AtMost (suc (suc (length bs))) in
    one_of P (eqb b q) (Some 1) _ (omega arith) (one_of P (eqb b 10) None _ tt (one_of P (eqb b 92) _ _
    (one_of P (eqb c 10) None _ tt (two_more (length bs) (closing q bs) (closing-most q bs)))
    (more (suc (length bs)) (closing q (c ∷ bs)) (closing-most q (c ∷ bs)))))
