-- Reading a field, a value or the length of a unit and spelling it agree, and what is written is spelled so.
use Rattle.std.specs.Prelude.{◌≡◌, ◌≢◌, ℕ, ℤ, ◌+◌, ◌<◌, ◌≤◌, ◌^◌, Bool, true, false, List, length, Ok, IsTrue}
use Rattle.std.specs.List.{AllByRecursion}
use Rattle.mac_base.specs.Input.{Input}
use Rattle.mac_base.specs.Fields.{bytes_at, number_at, uleb_at, sleb_at, text_at, fits_i64}
use Rattle.mac_base.specs.Spelling.{IsUleb, IsSleb, IsFixed, IsString, Between}
use Rattle.mac_base.specs.Values.{Value, value_at}
use Rattle.mac_base.specs.ValueSpelling.{IsValue}
use Rattle.mac_base.specs.Extents.{extent_of, bounded_by}
use Rattle.mac_base.specs.LengthSpelling.{IsLength}
use Rattle.mac_base.specs.Writing.{uleb_bytes, fixed_bytes, length_bytes, string_bytes}
use Rattle.mac_base.specs.declared.extent.Extent.{Extent}
use Rattle.mac_base.specs.declared.form.Layout.{Layout}
use Rattle.mac_base.specs.declared.value.Sizes.{Sizes}

-- what is read is spelled by the bytes that are passed over, and it fits 64 bits
pub record ReadIsSpelled : Type 0 where
  pub bytes : (n : ℕ) (p q : Input) (bytes : List ℕ) → bytes_at n p ≡ Ok (bytes, q) → Between p q bytes
  pub number : (width : ℕ) (p q : Input) (n : ℕ) → number_at width p ≡ Ok (n, q) → (bytes : List ℕ) × Between p q bytes × IsFixed width bytes n
  pub uleb : (p q : Input) (n : ℕ) → uleb_at p ≡ Ok (n, q) → (bytes : List ℕ) × Between p q bytes × IsUleb bytes n × (n < 2 ^ 64)
  pub sleb : (p q : Input) (z : ℤ) → sleb_at p ≡ Ok (z, q) → (bytes : List ℕ) × Between p q bytes × IsSleb bytes z × IsTrue (fits_i64 z)
  pub text : (p q : Input) (text : List ℕ) → text_at p ≡ Ok (text, q) → (bytes : List ℕ) × Between p q bytes × IsString bytes text
  pub value : (sizes : Sizes) (layout : Layout) (p q : Input) (v : Value) → value_at sizes layout p ≡ Ok (v, q) → (bytes : List ℕ) × Between p q bytes × IsValue sizes layout bytes v

-- what is spelled, and fits 64 bits, is read, whatever follows
pub record SpelledIsRead : Type 0 where
  pub bytes : (p q : Input) (bytes : List ℕ) (n : ℕ) → Between p q bytes → length bytes ≡ n → bytes_at n p ≡ Ok (bytes, q)
  pub number : (width : ℕ) (p q : Input) (bytes : List ℕ) (n : ℕ) → Between p q bytes → IsFixed width bytes n → number_at width p ≡ Ok (n, q)
  pub uleb : (p q : Input) (bytes : List ℕ) (n : ℕ) → Between p q bytes → IsUleb bytes n → n < 2 ^ 64 → uleb_at p ≡ Ok (n, q)
  pub sleb : (p q : Input) (bytes : List ℕ) (z : ℤ) → Between p q bytes → IsSleb bytes z → IsTrue (fits_i64 z) → sleb_at p ≡ Ok (z, q)
  pub text : (p q : Input) (bytes text : List ℕ) → Between p q bytes → IsString bytes text → text_at p ≡ Ok (text, q)
  pub value : (sizes : Sizes) (layout : Layout) (p q : Input) (bytes : List ℕ) (v : Value) → Between p q bytes → IsValue sizes layout bytes v → value_at sizes layout p ≡ Ok (v, q)

-- the length that is read of a unit is spelled by the bytes before its first field, and the unit ends inside the section
abbrev pub LengthIsSpelled : Type 0
LengthIsSpelled = (p : Input) (e : Extent) → extent_of p.bytes p.at ≡ Ok e
    → (q : Input) × (bytes : List ℕ) × (n : ℕ) × Between p q bytes × IsLength e.wide bytes n × (e.start ≡ q.at) × (e.end ≡ q.at + n) × (e.end ≤ length p.bytes)

-- A length that is spelled is read, whatever follows: the unit ends so many bytes on, or is cut off by the section's end.
abbrev pub SpelledLengthIsRead : Type 0
SpelledLengthIsRead = (p q : Input) (bytes : List ℕ) (wide : Bool) (n : ℕ) → Between p q bytes → IsLength wide bytes n → extent_of p.bytes p.at ≡ bounded_by (length p.bytes) p.at wide q.at n

-- at most one length is spelled at a place
abbrev pub OneLength : Type 0
OneLength = (p q q' : Input) (a b : List ℕ) (wide wide' : Bool) (n n' : ℕ) → Between p q a → Between p q' b → IsLength wide a n → IsLength wide' b n' → (wide ≡ wide') × (n ≡ n') × (q ≡ q')

-- what is written of a number, a length or a string spells it, so it is read again, whatever follows; no spelling in ULEB128 is shorter
pub record WrittenIsRead : Type 0 where
  pub uleb : (n : ℕ) → n < 2 ^ 64 → IsUleb (uleb_bytes n) n
  pub shortest : (n : ℕ) (bytes : List ℕ) → IsUleb bytes n → length (uleb_bytes n) ≤ length bytes
  pub fixed : (width n : ℕ) → n < 256 ^ width → IsFixed width (fixed_bytes width n) n
  pub uleb_again : (p q : Input) (n : ℕ) → n < 2 ^ 64 → Between p q (uleb_bytes n) → uleb_at p ≡ Ok (n, q)
  pub fixed_again : (p q : Input) (width n : ℕ) → n < 256 ^ width → Between p q (fixed_bytes width n) → number_at width p ≡ Ok (n, q)
  pub length_narrow : (n : ℕ) → n < 0xffff_fff0 → IsLength false (length_bytes false n) n
  pub length_wide : (n : ℕ) → n < 2 ^ 64 → IsLength true (length_bytes true n) n
  pub string : (text : List ℕ) → AllByRecursion (λ b. b ≢ 0) text → IsString (string_bytes text) text
