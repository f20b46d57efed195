-- Units are read one after another.
use Rattle.std.proofs.Common.{◌≡◌, ◌≢◌, ℕ, zero, suc, ◌-◌, ◌<◌, cond, List, length, Result, Ok, inl, inr, ap, ◌∙◌, arith}
use borrow.Author.Tests.{apart_eqb, eq-eqb}
use Rattle.mac_base.specs.Input.{◌>>=◌}
use Rattle.mac_base.specs.SectionBytes.{SectionBytes}
use Rattle.info_roots.specs.declared.fault.InfoFault.{InfoFault}
use Rattle.info_roots.specs.declared.root.Root.{Root}
use Rattle.info_roots.specs.Faults.{IsFaultOf}
use Rattle.info_roots.specs.Roots.{unit_read, roots_from}

abbrev pub rest_of : SectionBytes → ℕ → Result (ℕ × List Root) InfoFault → Result (List Root) InfoFault
rest_of s n read = read >>= λ next. roots_from s n next.0 next.1

-- the units after the next one
pub roots_more : (s : SectionBytes) (n at next : ℕ) (roots more : List Root) → 0 < n → at ≢ length s.info → unit_read s at roots ≡ Ok (next, more) → roots_from s n at roots ≡ roots_from s (n - 1) next more
roots_more s zero at next roots more some not read = absurd (omega arith)
roots_more s (suc n) at next roots more some not read =
    let less : n ≡ suc n - 1 = omega arith in
    ap (λ t. cond t (Ok roots) (rest_of s n (unit_read s at roots))) (apart_eqb at (length s.info) not) ∙ ap (rest_of s n) read ∙ ap (λ m. roots_from s m next more) less

-- the end of the section
pub roots_end : (s : SectionBytes) (n at : ℕ) (roots : List Root) → 0 < n → at ≡ length s.info → roots_from s n at roots ≡ Ok roots
roots_end s zero at roots some is = absurd (omega arith)
roots_end s (suc n) at roots some is = ap (λ t. cond t (Ok roots) (rest_of s n (unit_read s at roots))) (eq-eqb at (length s.info) is)

-- the fault of the next unit
pub roots_stop : (s : SectionBytes) (n at : ℕ) (roots : List Root) (fault : InfoFault) → 0 < n → at ≢ length s.info → IsFaultOf (unit_read s at roots) fault → IsFaultOf (roots_from s n at roots) fault
roots_stop s n at roots fault some not (inl out) = inl out
roots_stop s zero at roots fault some not (inr read) = absurd (omega arith)
roots_stop s (suc n) at roots fault some not (inr read) =
    inr (ap (λ t. cond t (Ok roots) (rest_of s n (unit_read s at roots))) (apart_eqb at (length s.info) not) ∙ ap (rest_of s n) read)
