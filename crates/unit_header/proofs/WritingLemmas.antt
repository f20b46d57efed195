-- A header that is written is spelled, and is read again.
use Rattle.std.proofs.Common.{◌≡◌, ℕ, Bool, false, [], ◌∷◌, Option, Some, None, Ok, refl, ap, sym}
use Rattle.std.specs.Prelude.{is_some}
use Rattle.std.proofs.lemmas.List.{append-nil}
use Rattle.mac_base.specs.Input.{Input}
use Rattle.mac_base.specs.Spelling.{Between}
use Rattle.mac_base.specs.Values.{offset_width}
use Rattle.mac_base.proofs.WritingLemmas.{fixed_spelled}
use Rattle.unit_header.specs.Spelling.{IsHeader, IsLinePart, flags_of}
use Rattle.unit_header.specs.Reading.{header_at}
use Rattle.unit_header.specs.Writing.{line_bytes, header_bytes, plain_header, FitsWidth}
use Rattle.unit_header.proofs.HeaderLemmas.{header_again}

line_spelled : (wide : Bool) (line : Option ℕ) → FitsWidth wide line → IsLinePart wide line (line_bytes wide line)
line_spelled wide None fits = refl
line_spelled wide (Some offset) fits = fixed_spelled (offset_width wide) offset fits

pub header_spelled : (line : Option ℕ) (wide : Bool) → FitsWidth wide line → IsHeader (header_bytes line wide) (plain_header line wide)
header_spelled line wide fits = record {
  tabled = false;
  line = line_bytes wide line;
  table = [];
  spelled = ap (λ xs. 5 ∷ 0 ∷ flags_of wide (is_some line) false ∷ xs) (sym (append-nil (line_bytes wide line)));
  version = refl;
  is_line = line_spelled wide line fits;
  is_table = (refl, refl);
}

pub header_written : (p q : Input) (line : Option ℕ) (wide : Bool) → FitsWidth wide line → Between p q (header_bytes line wide) → header_at p ≡ Ok (plain_header line wide, q)
header_written p q line wide fits between = header_again p q (header_bytes line wide) (plain_header line wide) between (header_spelled line wide fits)
