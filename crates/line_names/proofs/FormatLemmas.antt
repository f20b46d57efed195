-- Contents are read one after another.
use Rattle.std.proofs.Common.{◌≡◌, ℕ, zero, suc, ◌-◌, ◌<◌, List, [], ◌∷◌, ◌++◌, Ok, Err, refl, ap, arith}
use Rattle.mac_base.specs.Input.{Input}
use Rattle.line_names.specs.declared.fault.LineFault.{LineFault}
use Rattle.line_names.specs.declared.format.Content.{Content}
use Rattle.line_names.specs.Format.{content_at, contents_at}

-- the contents after the next one
pub contents_more : (n : ℕ) (contents : List Content) (p q : Input) (x : Content) → 0 < n → content_at contents p ≡ Ok (x, q) → contents_at n contents p ≡ contents_at (n - 1) (contents ++ x ∷ []) q
contents_more zero contents p q x some read = absurd (omega arith)
contents_more (suc n) contents p q x some read = let less : n ≡ suc n - 1 = omega arith in rw read (ap (λ m. contents_at m (contents ++ x ∷ []) q) less)

-- the fault of the next one
pub contents_stop : (n : ℕ) (contents : List Content) (p : Input) (fault : LineFault) → 0 < n → content_at contents p ≡ Err fault → contents_at n contents p ≡ Err fault
contents_stop zero contents p fault some read = absurd (omega arith)
contents_stop (suc n) contents p fault some read = rw read refl
