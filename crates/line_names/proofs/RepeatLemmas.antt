-- Entries are read one after another, and so are fields of one byte.
use Rattle.std.proofs.Common.{◌≡◌, ℕ, zero, suc, ◌-◌, ◌<◌, List, [], ◌∷◌, ◌++◌, Result, Ok, Err, map, refl, ap, sym, ◌∙◌, arith, append_assoc, append-nil}
use Rattle.mac_base.specs.Input.{Input, ◌>>=◌}
use Rattle.mac_base.specs.Fields.{number_at}
use Rattle.line_names.specs.declared.fault.LineFault.{LineFault}
use Rattle.line_names.specs.Header.{bytes_passed}
use Rattle.line_names.specs.Files.{repeat_at}

-- what was read before, before what is read
abbrev pub with_front : {A : Type 0} → List A → Result (List A × Input) LineFault → Result (List A × Input) LineFault
with_front front read = read >>= λ xs. Ok (front ++ xs.0, xs.1)

front_more : {A : Type 0} (front : List A) (x : A) (r : Result (List A × Input) LineFault) → with_front front (r >>= λ xs. Ok (x ∷ xs.0, xs.1)) ≡ with_front (front ++ x ∷ []) r
front_more front x (Ok xs) = ap (λ ys. Ok (ys, xs.1)) (sym (append_assoc front (x ∷ []) xs.0))
front_more front x (Err fault) = refl

-- nothing was read before
pub front_none : {A : Type 0} (r : Result (List A × Input) LineFault) → with_front [] r ≡ r
front_none (Ok xs) = refl
front_none (Err fault) = refl

-- the entries after the next one
pub repeat_more : {A : Type 0} (read : Input → Result (A × Input) LineFault) (n : ℕ) (front : List A) (p q : Input) (x : A) → 0 < n → read p ≡ Ok (x, q) → with_front front (repeat_at read n p) ≡ with_front (front ++ x ∷ []) (repeat_at read (n - 1) q)
repeat_more read zero front p q x some is = absurd (omega arith)
repeat_more read (suc n) front p q x some is =
    let less : n ≡ suc n - 1 = omega arith in
    ap (λ r. with_front front (r >>= λ y. repeat_at read n y.1 >>= λ ys. Ok (y.0 ∷ ys.0, ys.1))) is ∙ front_more front x (repeat_at read n q)
    ∙ ap (λ m. with_front (front ++ x ∷ []) (repeat_at read m q)) less

-- the fault of the next one
pub repeat_stop : {A : Type 0} (read : Input → Result (A × Input) LineFault) (n : ℕ) (front : List A) (p : Input) (fault : LineFault) → 0 < n → read p ≡ Err fault → with_front front (repeat_at read n p) ≡ Err fault
repeat_stop read zero front p fault some is = absurd (omega arith)
repeat_stop read (suc n) front p fault some is = ap (λ r. with_front front (r >>= λ y. repeat_at read n y.1 >>= λ ys. Ok (y.0 ∷ ys.0, ys.1))) is

-- none is left
pub repeat_end : {A : Type 0} (read : Input → Result (A × Input) LineFault) (n : ℕ) (front : List A) (p : Input) → n ≡ 0 → with_front front (repeat_at read n p) ≡ Ok (front, p)
repeat_end read n front p none = ap (λ m. with_front front (repeat_at read m p)) none ∙ ap (λ xs. Ok (xs, p)) (append-nil front)

pub passed_more : (n b : ℕ) (p q : Input) → 0 < n → number_at 1 p ≡ Ok (b, q) → bytes_passed n p ≡ bytes_passed (n - 1) q
passed_more zero b p q some is = absurd (omega arith)
passed_more (suc n) b p q some is = let less : n ≡ suc n - 1 = omega arith in ap (λ r. r >>= λ byte. bytes_passed n byte.1) is ∙ ap (λ m. bytes_passed m q) less

-- one more at the end
pub map_one : {A B : Type 0} (f : A → B) (xs : List A) (x : A) → map f (xs ++ x ∷ []) ≡ map f xs ++ f x ∷ []
map_one f [] x = refl
map_one f (y ∷ ys) x = ap (λ zs. f y ∷ zs) (map_one f ys x)
