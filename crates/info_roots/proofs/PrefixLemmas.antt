-- A field that begins what is left, and what is left after it.
use Rattle.std.proofs.Common.{◌≡◌, ℕ, ℤ, Bool, ◌<◌, List, [], ◌∷◌, ◌++◌, length, drop, Result, Ok, Err, refl, ap, ◌∙◌, sym, arith, append_assoc}
use Rattle.std.proofs.lemmas.List.{drop-drop, drop_at}
use Rattle.std.specs.Prelude.{IsTrue}
use Rattle.mac_base.specs.Input.{Input, rest, ahead}
use Rattle.mac_base.specs.declared.cursor.CursorFault.{CursorFault}
use Rattle.mac_base.specs.declared.form.Layout.{Layout}
use Rattle.mac_base.specs.declared.value.Sizes.{Sizes}
use Rattle.mac_base.specs.Fields.{number_at, uleb_at, sleb_at, fits_i64}
use Rattle.mac_base.specs.Spelling.{IsSleb, IsFixed, AreDigits}
use Rattle.mac_base.specs.Values.{Value, value_at, offset_at, offset_width}
use Rattle.mac_base.specs.ValueSpelling.{IsValue}
use Rattle.mac_base.proofs.InputLemmas.{between_front, number_at-takes, number_at-again, byte_at-takes, byte_at-again, uleb_at-takes, uleb_at-again, sleb_at-takes, sleb_at-again}
use Rattle.mac_base.proofs.ValueLemmas.{offset_at-is, value_at-takes, value_at-again}
use Rattle.info_roots.specs.Faults.{field}
use Rattle.info_roots.specs.AbbreviationSpelling.{IsUnsigned}

-- reading gives x, and leaves these bytes
abbrev pub Leaves : {A E : Type 0} → Result (A × Input) E → A → List ℕ → Type 0
Leaves read x more = (q : Input) × (read ≡ Ok (x, q)) × (rest q ≡ more)

pub joined : (a xs ys b r : List ℕ) → a ≡ xs ++ b → b ≡ ys ++ r → a ≡ (xs ++ ys) ++ r
joined a xs ys b r first second = first ∙ ap (λ zs. xs ++ zs) second ∙ sym (append_assoc xs ys r)

pub parted : (a w xs ys r : List ℕ) → a ≡ w ++ r → w ≡ xs ++ ys → a ≡ xs ++ (ys ++ r)
parted a w xs ys r is split = is ∙ ap (λ (zs : List ℕ). zs ++ r) split ∙ append_assoc xs ys r

pub rest_after : (p : Input) (front more : List ℕ) → rest p ≡ front ++ more → rest (ahead p (length front)) ≡ more
rest_after p front more is = sym (drop-drop (length front) p.at p.bytes) ∙ ap (drop (length front)) is ∙ drop_at front more (length front) refl

pub field_ok : {A : Type 0} (r : Result A CursorFault) (x : A) → field r ≡ Ok x → r ≡ Ok x
field_ok (Ok y) x is = cc
field_ok (Err e) x is = cc

pub uleb_takes : (p q : Input) (n : ℕ) → uleb_at p ≡ Ok (n, q) → (bytes : List ℕ) × (rest p ≡ bytes ++ rest q) × IsUnsigned bytes n
uleb_takes p q n is = let found = uleb_at-takes p q n is in (found.0, found.1.front, (found.2, found.3))

pub uleb_again : (p : Input) (bytes more : List ℕ) (n : ℕ) → rest p ≡ bytes ++ more → IsUnsigned bytes n → Leaves (uleb_at p) n more
uleb_again p bytes more n is spelled =
    let q = ahead p (length bytes) in
    (q, uleb_at-again p q bytes n (between_front p bytes more is) spelled.0 spelled.1, rest_after p bytes more is)

pub sleb_takes : (p q : Input) (z : ℤ) → sleb_at p ≡ Ok (z, q) → (bytes : List ℕ) × (rest p ≡ bytes ++ rest q) × IsSleb bytes z × IsTrue (fits_i64 z)
sleb_takes p q z is = let found = sleb_at-takes p q z is in (found.0, found.1.front, found.2, found.3)

pub sleb_again : (p : Input) (bytes more : List ℕ) (z : ℤ) → rest p ≡ bytes ++ more → IsSleb bytes z → IsTrue (fits_i64 z) → Leaves (sleb_at p) z more
sleb_again p bytes more z is spelled fits =
    let q = ahead p (length bytes) in
    (q, sleb_at-again p q bytes z (between_front p bytes more is) spelled fits, rest_after p bytes more is)

pub number_takes : (width : ℕ) (p q : Input) (n : ℕ) → number_at width p ≡ Ok (n, q) → (bytes : List ℕ) × (rest p ≡ bytes ++ rest q) × IsFixed width bytes n
number_takes width p q n is = let found = number_at-takes width p q n is in (found.0, found.1.front, found.2)

pub number_again : (width : ℕ) (p : Input) (bytes more : List ℕ) (n : ℕ) → rest p ≡ bytes ++ more → IsFixed width bytes n → Leaves (number_at width p) n more
number_again width p bytes more n is spelled =
    let q = ahead p (length bytes) in
    (q, number_at-again width p q bytes n (between_front p bytes more is) spelled, rest_after p bytes more is)

pub byte_takes : (p q : Input) (b : ℕ) → number_at 1 p ≡ Ok (b, q) → rest p ≡ b ∷ rest q
byte_takes p q b is = (byte_at-takes p q b is).front

pub byte_again : (p : Input) (b : ℕ) (more : List ℕ) → rest p ≡ b ∷ more → Leaves (number_at 1 p) b more
byte_again p b more is =
    let q = ahead p 1 in
    (q, byte_at-again p q b (between_front p (b ∷ []) more is), rest_after p (b ∷ []) more is)

pub offset_takes : (wide : Bool) (p q : Input) (n : ℕ) → offset_at wide p ≡ Ok (n, q) → (bytes : List ℕ) × (rest p ≡ bytes ++ rest q) × IsFixed (offset_width wide) bytes n
offset_takes wide p q n is = number_takes (offset_width wide) p q n (sym (offset_at-is wide p) ∙ is)

pub offset_again : (wide : Bool) (p : Input) (bytes more : List ℕ) (n : ℕ) → rest p ≡ bytes ++ more → IsFixed (offset_width wide) bytes n → Leaves (offset_at wide p) n more
offset_again wide p bytes more n is spelled =
    let found = number_again (offset_width wide) p bytes more n is spelled in (found.0, offset_at-is wide p ∙ found.1, found.2)

pub value_takes : (sizes : Sizes) (layout : Layout) (p q : Input) (v : Value) → value_at sizes layout p ≡ Ok (v, q) → (bytes : List ℕ) × (rest p ≡ bytes ++ rest q) × IsValue sizes layout bytes v
value_takes sizes layout p q v is = let found = value_at-takes sizes layout p q v is in (found.0, found.1.front, found.2)

pub value_again : (sizes : Sizes) (layout : Layout) (p : Input) (bytes more : List ℕ) (v : Value) → rest p ≡ bytes ++ more → IsValue sizes layout bytes v → Leaves (value_at sizes layout p) v more
value_again sizes layout p bytes more v is spelled =
    let q = ahead p (length bytes) in
    (q, value_at-again sizes layout p q bytes v (between_front p bytes more is) spelled, rest_after p bytes more is)

-- a number in LEB128 has a byte
pub digits_long : (bytes : List ℕ) → AreDigits bytes → 0 < length bytes
digits_long [] are = absurd are
digits_long (b ∷ bytes) are = omega arith
