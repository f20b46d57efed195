-- A value in a form is what its bytes spell, and what is spelled is read.
use Rattle.std.proofs.Common.{◌≡◌, ℕ, ◌<◌, ◌^◌, Bool, true, false, List, [], ◌++◌, length, Result, Ok, refl, ap, subst, ◌∙◌, sym}
use Rattle.mac_base.specs.declared.cursor.CursorFault.{CursorFault}
use Rattle.mac_base.specs.declared.form.Layout.{Layout}
use Rattle.mac_base.specs.declared.form.Layout.TheVariants.{Nothing as NoBytes, One, Two, Three, Four, Eight, Sixteen, Address, Offset, Uleb, Sleb, Text as String, Counted1, Counted2, Counted4, CountedUleb}
use Rattle.mac_base.specs.declared.value.Sizes.{Sizes}
use Rattle.mac_base.specs.Input.{Input, ahead}
use Rattle.mac_base.specs.Fields.{number_at, bytes_at, uleb_at, sleb_at, text_at}
use Rattle.mac_base.specs.Spelling.{IsFixed, IsUleb, Between}
use Rattle.mac_base.specs.Values.{Value, Nothing, Number, Signed, Text, Bytes, value_at, as_value, counted_by, offset_at, offset_width}
use Rattle.mac_base.specs.ValueSpelling.{IsValue, IsNumber, IsBytes, IsCounted}
use Rattle.mac_base.proofs.Choices.{same_ok, bind_ok}
use Rattle.mac_base.proofs.InputLemmas.{between_none, between_both, between_cut, bytes_at-takes, bytes_at-long, bytes_at-again, number_at-takes, number_at-again, uleb_at-takes, uleb_at-again, sleb_at-takes, sleb_at-again, text_at-takes, text_at-again}

as_value_ok : {A : Type 0} (make : A → Value) (read : Result (A × Input) CursorFault) (v : Value) (q : Input) → as_value make read ≡ Ok (v, q) → (x : A) × (read ≡ Ok (x, q)) × (v ≡ make x)
as_value_ok make read v q is =
    let found = bind_ok read _ (v, q) is in
    let same = same_ok {E = CursorFault} (make found.0.0, found.0.1) (v, q) found.2 in
    (found.0.0, found.1 ∙ ap (λ (z : Input). Ok (found.0.0, z)) (ap (λ (x : Value × Input). x.1) same), sym (ap (λ (x : Value × Input). x.0) same))

number_takes : (width : ℕ) (p q : Input) (v : Value) → as_value Number (number_at width p) ≡ Ok (v, q) → (bytes : List ℕ) × Between p q bytes × IsNumber width bytes v
number_takes width p q v is =
    let read = as_value_ok Number (number_at width p) v q is in
    let found = number_at-takes width p q read.0 read.1 in
    (found.0, found.1, (read.0, found.2, read.2))

bytes_takes : (n : ℕ) (p q : Input) (v : Value) → as_value Bytes (bytes_at n p) ≡ Ok (v, q) → (bytes : List ℕ) × Between p q bytes × IsBytes n bytes v
bytes_takes n p q v is =
    let read = as_value_ok Bytes (bytes_at n p) v q is in
    (read.0, bytes_at-takes n p q read.0 read.1, (bytes_at-long n p q read.0 read.1, read.2))

counted_takes : (width : ℕ) (p q : Input) (v : Value) → counted_by (number_at width p) ≡ Ok (v, q) → (bytes : List ℕ) × Between p q bytes × IsCounted width bytes v
counted_takes width p q v is =
    let count = bind_ok (number_at width p) _ (v, q) is in
    let found = number_at-takes width p count.0.1 count.0.0 count.1 in
    let block = bytes_takes count.0.0 count.0.1 q v count.2 in
    (found.0 ++ block.0, between_both p count.0.1 q found.0 block.0 found.1 block.1, (found.0, block.0, refl {a = found.0 ++ block.0}, subst (IsFixed width found.0) (sym block.2.0) found.2, block.2.1))

pub offset_at-is : (wide : Bool) (p : Input) → offset_at wide p ≡ number_at (offset_width wide) p
offset_at-is true p = refl
offset_at-is false p = refl

-- what is read in a form is spelled so
pub value_at-takes : (sizes : Sizes) (layout : Layout) (p q : Input) (v : Value) → value_at sizes layout p ≡ Ok (v, q) → (bytes : List ℕ) × Between p q bytes × IsValue sizes layout bytes v
value_at-takes sizes NoBytes p q v is =
    let same = same_ok {E = CursorFault} (Nothing, p) (v, q) is in
    ([], subst (λ (z : Input). Between p z []) (ap (λ (x : Value × Input). x.1) same) (between_none p), (refl, sym (ap (λ (x : Value × Input). x.0) same)))
value_at-takes sizes One p q v is = number_takes 1 p q v is
value_at-takes sizes Two p q v is = number_takes 2 p q v is
value_at-takes sizes Three p q v is = number_takes 3 p q v is
value_at-takes sizes Four p q v is = number_takes 4 p q v is
value_at-takes sizes Eight p q v is = number_takes 8 p q v is
value_at-takes sizes Sixteen p q v is = bytes_takes 16 p q v is
value_at-takes sizes Address p q v is = bytes_takes sizes.address p q v is
value_at-takes sizes Offset p q v is = number_takes (offset_width sizes.wide) p q v (sym (ap (as_value Number) (offset_at-is sizes.wide p)) ∙ is)
value_at-takes sizes Uleb p q v is =
    let read = as_value_ok Number (uleb_at p) v q is in
    let found = uleb_at-takes p q read.0 read.1 in
    (found.0, found.1, (read.0, found.2, found.3, read.2))
value_at-takes sizes Sleb p q v is =
    let read = as_value_ok Signed (sleb_at p) v q is in
    let found = sleb_at-takes p q read.0 read.1 in
    (found.0, found.1, (read.0, found.2, found.3, read.2))
value_at-takes sizes String p q v is =
    let read = as_value_ok Text (text_at p) v q is in
    let found = text_at-takes p q read.0 read.1 in
    (found.0, found.1, (read.0, found.2, read.2))
value_at-takes sizes Counted1 p q v is = counted_takes 1 p q v is
value_at-takes sizes Counted2 p q v is = counted_takes 2 p q v is
value_at-takes sizes Counted4 p q v is = counted_takes 4 p q v is
value_at-takes sizes CountedUleb p q v is =
    let count = bind_ok (uleb_at p) _ (v, q) is in
    let found = uleb_at-takes p count.0.1 count.0.0 count.1 in
    let block = bytes_takes count.0.0 count.0.1 q v count.2 in
    let long = sym block.2.0 in
    (found.0 ++ block.0, between_both p count.0.1 q found.0 block.0 found.1 block.1, (found.0, block.0, refl {a = found.0 ++ block.0}, subst (IsUleb found.0) long found.2, subst (λ n. n < 2 ^ 64) long found.3, block.2.1))

number_again : (width : ℕ) (p q : Input) (bytes : List ℕ) (v : Value) → Between p q bytes → IsNumber width bytes v → as_value Number (number_at width p) ≡ Ok (v, q)
number_again width p q bytes v between is = rw (number_at-again width p q bytes is.0 between is.1) (ap (λ (w : Value). Ok (w, q)) (sym is.2))

bytes_again : (n : ℕ) (p q : Input) (bytes : List ℕ) (v : Value) → Between p q bytes → IsBytes n bytes v → as_value Bytes (bytes_at n p) ≡ Ok (v, q)
bytes_again n p q bytes v between is = rw (bytes_at-again p q bytes n between is.0) (ap (λ (w : Value). Ok (w, q)) (sym is.1))

counted_again : (width : ℕ) (p q : Input) (bytes : List ℕ) (v : Value) → Between p q bytes → IsCounted width bytes v → counted_by (number_at width p) ≡ Ok (v, q)
counted_again width p q bytes v between is =
    let parts = between_cut p q is.0 is.1 (subst (Between p q) is.2 between) in
    rw (number_at-again width p (ahead p (length is.0)) is.0 (length is.1) parts.0 is.3) (bytes_again (length is.1) (ahead p (length is.0)) q is.1 v parts.1 (refl, is.4))

-- and what is spelled in a form is read
pub value_at-again : (sizes : Sizes) (layout : Layout) (p q : Input) (bytes : List ℕ) (v : Value) → Between p q bytes → IsValue sizes layout bytes v → value_at sizes layout p ≡ Ok (v, q)
value_at-again sizes NoBytes p q bytes v between is =
    let none : Between p q [] = subst (Between p q) is.0 between in
    let here : p ≡ q = (between_none p).place ∙ sym none.place in
    ap (λ (x : Value × Input). Ok x) (λ i. (sym is.1 i, here i))
value_at-again sizes One p q bytes v between is = number_again 1 p q bytes v between is
value_at-again sizes Two p q bytes v between is = number_again 2 p q bytes v between is
value_at-again sizes Three p q bytes v between is = number_again 3 p q bytes v between is
value_at-again sizes Four p q bytes v between is = number_again 4 p q bytes v between is
value_at-again sizes Eight p q bytes v between is = number_again 8 p q bytes v between is
value_at-again sizes Sixteen p q bytes v between is = bytes_again 16 p q bytes v between is
value_at-again sizes Address p q bytes v between is = bytes_again sizes.address p q bytes v between is
value_at-again sizes Offset p q bytes v between is = ap (as_value Number) (offset_at-is sizes.wide p) ∙ number_again (offset_width sizes.wide) p q bytes v between is
value_at-again sizes Uleb p q bytes v between is = rw (uleb_at-again p q bytes is.0 between is.1 is.2) (ap (λ (w : Value). Ok (w, q)) (sym is.3))
value_at-again sizes Sleb p q bytes v between is = rw (sleb_at-again p q bytes is.0 between is.1 is.2) (ap (λ (w : Value). Ok (w, q)) (sym is.3))
value_at-again sizes String p q bytes v between is = rw (text_at-again p q bytes is.0 between is.1) (ap (λ (w : Value). Ok (w, q)) (sym is.2))
value_at-again sizes Counted1 p q bytes v between is = counted_again 1 p q bytes v between is
value_at-again sizes Counted2 p q bytes v between is = counted_again 2 p q bytes v between is
value_at-again sizes Counted4 p q bytes v between is = counted_again 4 p q bytes v between is
value_at-again sizes CountedUleb p q bytes v between is =
    let parts = between_cut p q is.0 is.1 (subst (Between p q) is.2 between) in
    rw (uleb_at-again p (ahead p (length is.0)) is.0 (length is.1) parts.0 is.3 is.4) (bytes_again (length is.1) (ahead p (length is.0)) q is.1 v parts.1 (refl, is.5))
