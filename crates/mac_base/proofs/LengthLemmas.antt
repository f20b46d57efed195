-- The length of a unit is what its bytes spell, and what is spelled is read.
use Rattle.std.proofs.Common.{◌≡◌, ℕ, ◌+◌, ◌<◌, ◌≤◌, Bool, true, false, ltb, cond, List, ◌++◌, length, Result, Ok, Err, refl, ap, subst, ◌∙◌, sym, arith}
use Rattle.std.proofs.Math.Dec.{eqb}
use Rattle.std.proofs.lemmas.Bool.Decides.{Decides-eqb}
use borrow.Author.Tests.{ltb-true, ltb-false, lt-ltb}
use Rattle.mac_base.specs.declared.cursor.CursorFault.{CursorFault}
use Rattle.mac_base.specs.declared.extent.Extent.{Extent}
use Rattle.mac_base.specs.declared.extent.ExtentFault.{ExtentFault}
use Rattle.mac_base.specs.declared.extent.ExtentFault.TheVariants.{Cut, Length}
use Rattle.mac_base.specs.Input.{Input, ahead}
use Rattle.mac_base.specs.Fields.{number_at}
use Rattle.mac_base.specs.Spelling.{IsFixed, Between}
use Rattle.mac_base.specs.Extents.{extent_of, extent_by, wide_extent, bounded_by}
use Rattle.mac_base.specs.LengthSpelling.{IsLength}
use Rattle.mac_base.proofs.Choices.{same_ok, guarded_not}
use Rattle.mac_base.proofs.InputLemmas.{between_both, between_cut, number_at-takes, number_at-again}

abbrev IsSpelled : Input → Extent → Type 0
IsSpelled p e = (q : Input) × (bytes : List ℕ) × (n : ℕ) × Between p q bytes × IsLength e.wide bytes n × (e.start ≡ q.at) × (e.end ≡ q.at + n) × (e.end ≤ length p.bytes)

bounded_ok : (total at : ℕ) (wide : Bool) (start long : ℕ) (e : Extent) → bounded_by total at wide start long ≡ Ok e
    → (start + long ≤ total) × (record { wide = wide; start = start; end = start + long } ≡ e)
bounded_ok total at wide start long e is =
    let parts = guarded_not (ltb total (start + long)) (Ok (record { wide = wide; start = start; end = start + long })) e (Cut at) is in
    (ltb-false total (start + long) parts.0, same_ok {E = ExtentFault} (record { wide = wide; start = start; end = start + long }) e parts.1)

spelled_by : (p q : Input) (bytes : List ℕ) (wide : Bool) (n : ℕ) (e : Extent) → Between p q bytes → IsLength wide bytes n → bounded_by (length p.bytes) p.at wide q.at n ≡ Ok e → IsSpelled p e
spelled_by p q bytes wide n e between is ends =
    let found = bounded_ok (length p.bytes) p.at wide q.at n e ends in
    subst (IsSpelled p) found.1 (q, bytes, n, between, is, refl, refl, found.0)

narrow_takes : (p : Input) (long : ℕ × Input) (e : Extent) → number_at 4 p ≡ Ok long → long.0 < 0xffff_fff0 → bounded_by (length p.bytes) p.at false long.1.at long.0 ≡ Ok e → IsSpelled p e
narrow_takes p long e read small is =
    let found = number_at-takes 4 p long.1 long.0 read in
    spelled_by p long.1 found.0 false long.0 e found.1 (found.2, small) is

wide_takes : (p : Input) (long : ℕ × Input) (e : Extent) → number_at 4 p ≡ Ok long → long.0 ≡ 0xffff_ffff → (r : Result (ℕ × Input) CursorFault) → number_at 8 long.1 ≡ r → wide_extent p.bytes p.at long.1.at r ≡ Ok e → IsSpelled p e
wide_takes p long e read same (Err fault) next is = cc
wide_takes p long e read same (Ok more) next is =
    let mark = number_at-takes 4 p long.1 long.0 read in
    let number = number_at-takes 8 long.1 more.1 more.0 next in
    spelled_by p more.1 (mark.0 ++ number.0) true more.0 e (between_both p long.1 more.1 mark.0 number.0 mark.1 number.1) (mark.0, number.0, refl, subst (IsFixed 4 mark.0) same mark.2, number.2) is

by_first : (p : Input) (long : ℕ × Input) (e : Extent) (s t : Bool) → number_at 4 p ≡ Ok long → ltb long.0 0xffff_fff0 ≡ s → eqb long.0 0xffff_ffff ≡ t
    → cond s (bounded_by (length p.bytes) p.at false long.1.at long.0) (cond t (wide_extent p.bytes p.at long.1.at (number_at 8 long.1)) (Err (Length p.at))) ≡ Ok e → IsSpelled p e
by_first p long e true t read small mark is = narrow_takes p long e read (ltb-true long.0 0xffff_fff0 small) is
by_first p long e false true read small mark is = wide_takes p long e read ((Decides-eqb long.0 0xffff_ffff).0 mark) (number_at 8 long.1) refl is
by_first p long e false false read small mark is = cc

by_reading : (p : Input) (e : Extent) (r : Result (ℕ × Input) CursorFault) → number_at 4 p ≡ r → extent_by p.bytes p.at r ≡ Ok e → IsSpelled p e
by_reading p e (Err fault) read is = cc
by_reading p e (Ok long) read is = by_first p long e (ltb long.0 0xffff_fff0) (eqb long.0 0xffff_ffff) read refl refl is

pub length-takes : (p : Input) (e : Extent) → extent_of p.bytes p.at ≡ Ok e → IsSpelled p e
length-takes p e is = by_reading p e (number_at 4 p) refl is

pub length-again : (p q : Input) (bytes : List ℕ) (wide : Bool) (n : ℕ) → Between p q bytes → IsLength wide bytes n → extent_of p.bytes p.at ≡ bounded_by (length p.bytes) p.at wide q.at n
length-again p q bytes false n between is =
    ap (extent_by p.bytes p.at) (number_at-again 4 p q bytes n between is.0) ∙ ap (λ t. cond t (bounded_by (length p.bytes) p.at false q.at n) (cond (eqb n 0xffff_ffff) (wide_extent p.bytes p.at q.at (number_at 8 q)) (Err (Length p.at)))) (lt-ltb n 0xffff_fff0 is.1)
length-again p q bytes true n between is =
    let parts = between_cut p q is.0 is.1 (subst (Between p q) is.2 between) in
    let r = ahead p (length is.0) in
    ap (extent_by p.bytes p.at) (number_at-again 4 p r is.0 0xffff_ffff parts.0 is.3) ∙ ap (wide_extent p.bytes p.at r.at) (number_at-again 8 r q is.1 n parts.1 is.4)

same_reading : (r : Result (ℕ × Input) CursorFault) (a b : ℕ × Input) → r ≡ Ok a → r ≡ Ok b → (a.0 ≡ b.0) × (a.1 ≡ b.1)
same_reading r a b is other =
    let same = same_ok {E = CursorFault} a b (sym is ∙ other) in
    (ap (λ (x : ℕ × Input). x.0) same, ap (λ (x : ℕ × Input). x.1) same)

-- the mark of the 64-bit format is no length of the 32-bit format
no_mark : (p q r : Input) (a mark : List ℕ) (n : ℕ) → Between p q a → IsFixed 4 a n → n < 0xffff_fff0 → Between p r mark → IsFixed 4 mark 0xffff_ffff → ⊥
no_mark p q r a mark n first is small second marks =
    let same = same_reading (number_at 4 p) (n, q) (0xffff_ffff, r) (number_at-again 4 p q a n first is) (number_at-again 4 p r mark 0xffff_ffff second marks) in
    absurd (omega (arith, same.0))

pub one_length : (p q q' : Input) (a b : List ℕ) (wide wide' : Bool) (n n' : ℕ) → Between p q a → Between p q' b → IsLength wide a n → IsLength wide' b n' → (wide ≡ wide') × (n ≡ n') × (q ≡ q')
one_length p q q' a b false false n n' first second is other =
    let same = same_reading (number_at 4 p) (n, q) (n', q') (number_at-again 4 p q a n first is.0) (number_at-again 4 p q' b n' second other.0) in
    (refl, same.0, same.1)
one_length p q q' a b false true n n' first second is other =
    let parts = between_cut p q' other.0 other.1 (subst (Between p q') other.2 second) in
    absurd (no_mark p q (ahead p (length other.0)) a other.0 n first is.0 is.1 parts.0 other.3)
one_length p q q' a b true false n n' first second is other =
    let parts = between_cut p q is.0 is.1 (subst (Between p q) is.2 first) in
    absurd (no_mark p q' (ahead p (length is.0)) b is.0 n' second other.0 other.1 parts.0 is.3)
one_length p q q' a b true true n n' first second is other =
    let parts = between_cut p q is.0 is.1 (subst (Between p q) is.2 first) in
    let others = between_cut p q' other.0 other.1 (subst (Between p q') other.2 second) in
    let long : length is.0 ≡ length other.0 = is.3.long ∙ sym other.3.long in
    let here : Between (ahead p (length is.0)) q' other.1 = subst (λ k. Between (ahead p k) q' other.1) (sym long) others.1 in
    let same = same_reading (number_at 8 (ahead p (length is.0))) (n, q) (n', q') (number_at-again 8 (ahead p (length is.0)) q is.1 n parts.1 is.4) (number_at-again 8 (ahead p (length is.0)) q' other.1 n' here other.4) in
    (refl, same.0, same.1)
