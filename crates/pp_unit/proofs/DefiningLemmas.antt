-- What is predefined is recorded as three definitions.
use Rattle.std.proofs.Common.{◌≡◌, ℕ, List, [], ◌∷◌, Ok, Result, subst}
use lib.Chars.{codes}
use Rattle.mac_base.specs.Items.{Define}
use Rattle.pp_unit.specs.declared.fault.PpKind.{PpKind}
use Rattle.pp_unit.specs.Seen.{Seen, added}
use Rattle.pp_unit.specs.Definitions.{predefined}

pub predefined_is : (first second third : Seen) (t u v : List ℕ) → t ≡ codes "__STDC__ 1" → u ≡ codes "__STDC_HOSTED__ 1" → v ≡ codes "__STDC_VERSION__ 201710L" →
    added (record { items = []; files = []; once = [] }) (Define 0 t) ≡ Ok first → added first (Define 0 u) ≡ Ok second → added second (Define 0 v) ≡ Ok third → ◌≡◌ {A = Result Seen PpKind} (Ok predefined) (Ok third)
predefined_is first second third t u v is_t is_u is_v a b d =
    let one : Seen = record { items = Define 0 (codes "__STDC__ 1") ∷ []; files = []; once = [] } in
    let two : Seen = record { items = Define 0 (codes "__STDC__ 1") ∷ Define 0 (codes "__STDC_HOSTED__ 1") ∷ []; files = []; once = [] } in
    let p : ◌≡◌ {A = Result Seen PpKind} (Ok one) (Ok first) = subst (λ (z : List ℕ). added (record { items = []; files = []; once = [] }) (Define 0 z) ≡ Ok first) is_t a in
    let q : first ≡ one = cc in
    let b1 : added one (Define 0 (codes "__STDC_HOSTED__ 1")) ≡ Ok second = subst (λ (s : Seen). added s (Define 0 (codes "__STDC_HOSTED__ 1")) ≡ Ok second) q (subst (λ (z : List ℕ). added first (Define 0 z) ≡ Ok second) is_u b) in
    let p2 : ◌≡◌ {A = Result Seen PpKind} (Ok two) (Ok second) = b1 in
    let q2 : second ≡ two = cc in
    let d1 : added two (Define 0 (codes "__STDC_VERSION__ 201710L")) ≡ Ok third = subst (λ (s : Seen). added s (Define 0 (codes "__STDC_VERSION__ 201710L")) ≡ Ok third) q2 (subst (λ (z : List ℕ). added second (Define 0 z) ≡ Ok third) is_v d) in
    d1
