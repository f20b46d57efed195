-- The value in a form at a place of a unit (DWARF 5, 7.5.5 and 7.5.6).
use Rattle.std.specs.Prelude.{ℕ, Bool, if◌then◌else◌, List, ℤ, Result, Ok}
use Rattle.mac_base.specs.Input.{Input, ◌>>=◌}
use Rattle.mac_base.specs.Fields.{number_at, bytes_at, uleb_at, sleb_at, text_at}
use Rattle.mac_base.specs.declared.cursor.CursorFault.{CursorFault}
use Rattle.mac_base.specs.declared.form.Layout.{Layout}
use Rattle.mac_base.specs.declared.form.Layout.TheVariants.{Nothing as NoBytes, One, Two, Three, Four, Eight, Sixteen, Address, Offset, Uleb, Sleb, Text as String, Counted1, Counted2, Counted4, CountedUleb}
use Rattle.mac_base.specs.declared.value.Sizes.{Sizes}
use Rattle.mac_base.specs.declared.value.Value.{Value as HeldValue}
use Rattle.mac_base.specs.declared.value.Value.TheVariants.{Nothing as HeldNothing, Number as HeldNumber, Signed as HeldSigned, Text as HeldText, Bytes as HeldBytes}

-- what is spelled in a form
pub data Value : Type 0 where
  Nothing : Value
  Number : ℕ → Value
  Signed : ℤ → Value
  Text : List ℕ → Value
  Bytes : List ℕ → Value

-- a value without where it lies in memory
abbrev pub value_of : HeldValue → Value
value_of HeldNothing = Nothing
value_of (HeldNumber n) = Number n
value_of (HeldSigned z) = Signed z
value_of (HeldText text) = Text text.now
value_of (HeldBytes bytes) = Bytes bytes.now

-- the bytes of an offset (7.4)
abbrev pub offset_width : Bool → ℕ
offset_width wide = if wide then 8 else 4

-- an offset into a section
abbrev pub offset_at : Bool → Input → Result (ℕ × Input) CursorFault
offset_at wide p = if wide then number_at 8 p else number_at 4 p

-- a field, as a value
abbrev pub as_value : {A : Type 0} → (A → Value) → Result (A × Input) CursorFault → Result (Value × Input) CursorFault
as_value make read = read >>= λ x. Ok (make x.0, x.1)

-- so many bytes, after a field that counts them
abbrev pub counted_by : Result (ℕ × Input) CursorFault → Result (Value × Input) CursorFault
counted_by read = read >>= λ count. as_value Bytes (bytes_at count.0 count.1)

-- the value at a place, by the bytes that its form wants
abbrev pub value_at : Sizes → Layout → Input → Result (Value × Input) CursorFault
value_at sizes NoBytes p = Ok (Nothing, p)
value_at sizes One p = as_value Number (number_at 1 p)
value_at sizes Two p = as_value Number (number_at 2 p)
value_at sizes Three p = as_value Number (number_at 3 p)
value_at sizes Four p = as_value Number (number_at 4 p)
value_at sizes Eight p = as_value Number (number_at 8 p)
value_at sizes Sixteen p = as_value Bytes (bytes_at 16 p)
value_at sizes Address p = as_value Bytes (bytes_at sizes.address p)
value_at sizes Offset p = as_value Number (offset_at sizes.wide p)
value_at sizes Uleb p = as_value Number (uleb_at p)
value_at sizes Sleb p = as_value Signed (sleb_at p)
value_at sizes String p = as_value Text (text_at p)
value_at sizes Counted1 p = counted_by (number_at 1 p)
value_at sizes Counted2 p = counted_by (number_at 2 p)
value_at sizes Counted4 p = counted_by (number_at 4 p)
value_at sizes CountedUleb p = counted_by (uleb_at p)
