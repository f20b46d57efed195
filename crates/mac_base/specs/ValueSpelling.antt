-- Which bytes spell a value in a form (DWARF 5, 7.5.5 and 7.5.6), apart from how it is read.
use Rattle.std.specs.Prelude.{◌≡◌, ℕ, ℤ, ◌<◌, ◌^◌, List, [], ◌++◌, length, IsTrue}
use Rattle.mac_base.specs.Fields.{fits_i64}
use Rattle.mac_base.specs.Spelling.{IsUleb, IsSleb, IsFixed, IsString}
use Rattle.mac_base.specs.Values.{Value, Nothing, Number, Signed, Text, Bytes, offset_width}
use Rattle.mac_base.specs.declared.form.Layout.{Layout}
use Rattle.mac_base.specs.declared.form.Layout.TheVariants.{Nothing as NoBytes, One, Two, Three, Four, Eight, Sixteen, Address, Offset, Uleb, Sleb, Text as String, Counted1, Counted2, Counted4, CountedUleb}
use Rattle.mac_base.specs.declared.value.Sizes.{Sizes}

-- a number of so many bytes
abbrev pub IsNumber : ℕ → List ℕ → Value → Type 0
IsNumber width bytes v = (n : ℕ) × IsFixed width bytes n × (v ≡ Number n)

-- so many bytes as they are
abbrev pub IsBytes : ℕ → List ℕ → Value → Type 0
IsBytes n bytes v = (length bytes ≡ n) × (v ≡ Bytes bytes)

-- a count of so many bytes, and as many bytes as it says
abbrev pub IsCounted : ℕ → List ℕ → Value → Type 0
IsCounted width bytes v = (count block : List ℕ) × (bytes ≡ count ++ block) × IsFixed width count (length block) × (v ≡ Bytes block)

-- the bytes spell the value, by what its form wants
abbrev pub IsValue : Sizes → Layout → List ℕ → Value → Type 0
IsValue sizes NoBytes bytes v = (bytes ≡ []) × (v ≡ Nothing)
IsValue sizes One bytes v = IsNumber 1 bytes v
IsValue sizes Two bytes v = IsNumber 2 bytes v
IsValue sizes Three bytes v = IsNumber 3 bytes v
IsValue sizes Four bytes v = IsNumber 4 bytes v
IsValue sizes Eight bytes v = IsNumber 8 bytes v
IsValue sizes Sixteen bytes v = IsBytes 16 bytes v
IsValue sizes Address bytes v = IsBytes sizes.address bytes v
IsValue sizes Offset bytes v = IsNumber (offset_width sizes.wide) bytes v
IsValue sizes Uleb bytes v = (n : ℕ) × IsUleb bytes n × (n < 2 ^ 64) × (v ≡ Number n)
IsValue sizes Sleb bytes v = (z : ℤ) × IsSleb bytes z × IsTrue (fits_i64 z) × (v ≡ Signed z)
IsValue sizes String bytes v = (text : List ℕ) × IsString bytes text × (v ≡ Text text)
IsValue sizes Counted1 bytes v = IsCounted 1 bytes v
IsValue sizes Counted2 bytes v = IsCounted 2 bytes v
IsValue sizes Counted4 bytes v = IsCounted 4 bytes v
IsValue sizes CountedUleb bytes v = (count block : List ℕ) × (bytes ≡ count ++ block) × IsUleb count (length block) × (length block < 2 ^ 64) × (v ≡ Bytes block)
