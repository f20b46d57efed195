-- Bytes that are read one field after another, and what a call that reads them has to give.
use Rattle.std.specs.Prelude.{◌≡◌, ℕ, ◌+◌, List, drop, Result, Ok, Err}

-- bytes, and the place in them where the next field begins
pub record Input : Type 0 where
  pub bytes : List ℕ
  pub at : ℕ

-- the bytes from the place on
abbrev pub rest : Input → List ℕ
rest p = drop p.at p.bytes

-- the same bytes, n further on
abbrev pub ahead : Input → ℕ → Input
ahead p n = record p { at = p.at + n }

-- go on after what was read, or stop at the fault
infixl 10 ◌>>=◌
abbrev pub ◌>>=◌ : {A B E : Type 0} → Result A E → (A → Result B E) → Result B E
(Ok x) >>= f = f x
(Err fault) >>= f = Err fault

-- A call that found the input old and left it new answers exactly what reading at old gives: the value, seen by view, with the place after it, or the fault. A fault leaves the input as it was.
abbrev pub Gives : {X Y E : Type 0} → (X → Y) → Input → Input → Result X E → Result (Y × Input) E → Type 0
Gives view old new (Ok x) reading = reading ≡ Ok (view x, new)
Gives view old new (Err fault) reading = (reading ≡ Err fault) × (new ≡ old)

-- the same of a call that works on a copy, which nobody uses after a fault
abbrev pub Reads : {X Y E : Type 0} → (X → Y) → Input → Result X E → Result (Y × Input) E → Type 0
Reads view new (Ok x) reading = reading ≡ Ok (view x, new)
Reads view new (Err fault) reading = reading ≡ Err fault
