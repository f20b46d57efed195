-- Reading a header and spelling it agree, and what is written is spelled so.
use Rattle.std.specs.Prelude.{◌≡◌, ℕ, Bool, List, ◌++◌, Option, Ok}
use Rattle.mac_base.specs.Input.{Input}
use Rattle.mac_base.specs.Spelling.{Between}
use Rattle.unit_header.specs.Header.{Header}
use Rattle.unit_header.specs.Spelling.{IsHeader}
use Rattle.unit_header.specs.Reading.{header_at}
use Rattle.unit_header.specs.Writing.{header_bytes, plain_header, FitsWidth}

-- what is read is spelled by the bytes that are passed over
abbrev pub ReadIsSpelled : Type 0
ReadIsSpelled = (p q : Input) (h : Header) → header_at p ≡ Ok (h, q) → (bytes : List ℕ) × Between p q bytes × IsHeader bytes h

-- what is spelled is read, whatever follows
abbrev pub SpelledIsRead : Type 0
SpelledIsRead = (p q : Input) (bytes : List ℕ) (h : Header) → Between p q bytes → IsHeader bytes h → header_at p ≡ Ok (h, q)

-- no header begins another
abbrev pub OneHeader : Type 0
OneHeader = (a b x y : List ℕ) (h h' : Header) → IsHeader a h → IsHeader b h' → a ++ x ≡ b ++ y → (a ≡ b) × (h ≡ h')

-- what is written spells the header, so it is read again, whatever follows
pub record WrittenIsRead : Type 0 where
  pub spelled : (line : Option ℕ) (wide : Bool) → FitsWidth wide line → IsHeader (header_bytes line wide) (plain_header line wide)
  pub again : (p q : Input) (line : Option ℕ) (wide : Bool) → FitsWidth wide line → Between p q (header_bytes line wide) → header_at p ≡ Ok (plain_header line wide, q)
