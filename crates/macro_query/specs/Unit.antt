-- What the bytes of a section say as one macro unit: the report on it, or the first fault.
use Rattle.std.specs.Prelude.{◌≡◌, ◌⊎◌, ℕ, List, [], ◌∷◌, Option, Some, None as Absent, Result, Ok, Err}
use Rattle.mac_base.specs.Input.{Input}
use Rattle.string_sections.specs.Strings.{string_of}
use Rattle.unit_header.specs.declared.fault.UnitFault.{UnitFault}
use Rattle.unit_header.specs.declared.fault.UnitKind.TheVariants.{StrRange}
use Rattle.unit_header.specs.Header.{Header}
use Rattle.unit_header.specs.Reading.{header_at}
use Rattle.macro_opcodes.specs.Entry.{Operand, Text, Str, Entry}
use Rattle.macro_opcodes.specs.Spells.{Spells}
use Rattle.macro_opcodes.specs.Reading.{entry_at, AreRead}
use Rattle.macro_query.specs.UnitLines.{report}

-- the entry with the string that was looked up, if there is one
abbrev pub with_string : Entry → Option (List ℕ) → Result Entry UnitFault
with_string e Absent = Err (record { at = e.at; what = StrRange })
with_string e (Some text) = Ok (record e { operand = Text text })

-- the offset of a string is looked up in the string section, and other operands stay
abbrev pub shown_by : List ℕ → Entry → Operand → Result Entry UnitFault
shown_by strs e (Str at) = with_string e (string_of strs at)
shown_by strs e operand = Ok e

-- An entry as it is printed. Without a string section offsets stay as they are.
abbrev pub shown : Option (List ℕ) → Entry → Result Entry UnitFault
shown Absent e = Ok e
shown (Some strs) e = shown_by strs e e.operand

-- these are the entries as they are printed
abbrev pub AreShown : Option (List ℕ) → List Entry → List Entry → Type 0
AreShown strs [] lines = lines ≡ []
AreShown strs (e ∷ es) [] = ⊥
AreShown strs (e ∷ es) (line ∷ lines) = (shown strs e ≡ Ok line) × AreShown strs es lines

-- the bytes from the offset on spell a unit, all its strings are there, and this is the report on it
pub record IsReportOf (strs : Option (List ℕ)) (section : List ℕ) (offset : ℕ) (text : List ℕ) : Type 0 where
  pub header : Header
  pub entries : List Entry
  pub lines : List Entry
  pub end : ℕ
  pub spelled : Spells section offset header entries end
  pub are_shown : AreShown strs entries lines
  pub told : text ≡ report lines

-- at this place an entry has this fault: it can't be read, or its string isn't there
abbrev pub FailsAt : Option (List ℕ) → Header → Input → UnitFault → Type 0
FailsAt strs h p fault = (entry_at h p ≡ Err fault) ⊎ ((e : Entry) × (q : Input) × (entry_at h p ≡ Ok (Some e, q)) × (shown strs e ≡ Err fault))

-- the header is read and so are these entries, none with a fault, and the entry after them has this one
pub record FailsBehind (strs : Option (List ℕ)) (section : List ℕ) (offset : ℕ) (fault : UnitFault) : Type 0 where
  pub header : Header
  pub start : Input
  pub entries : List Entry
  pub lines : List Entry
  pub place : Input
  pub read_header : header_at (record { bytes = section; at = offset }) ≡ Ok (header, start)
  pub are_read : AreRead header start entries place
  pub are_shown : AreShown strs entries lines
  pub fails : FailsAt strs header place fault

-- the first fault of what is at the offset
abbrev pub IsFirstFault : Option (List ℕ) → List ℕ → ℕ → UnitFault → Type 0
IsFirstFault strs section offset fault = (header_at (record { bytes = section; at = offset }) ≡ Err fault) ⊎ FailsBehind strs section offset fault
