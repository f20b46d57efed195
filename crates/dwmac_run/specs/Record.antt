-- What `record` writes of a translation unit and prints, or the first fault.
use Rattle.std.specs.Prelude.{ℕ, List, [], ◌∷◌, ◌++◌, map, length, codes, decimal, Result, Ok, Err}
use Rattle.mac_base.specs.Items.{Item, Define, Undef, Start, End}
use Rattle.mac_base.specs.declared.events.Event.{Event}
use Rattle.mac_base.specs.declared.events.Event.TheVariants.{Define as HeldDefine, Undef as HeldUndef, Start as HeldStart, End as HeldEnd}
use Rattle.pp_unit.specs.declared.request.UnitSpec.{UnitSpec}
use Rattle.pp_unit.specs.Seen.{Seen}
use Rattle.pp_unit.specs.Files.{Stores}
use Rattle.unit_splitter.specs.declared.pieces.Split.{Split}
use Rattle.unit_splitter.specs.Split.{split_of}
use Rattle.object_writer.specs.declared.fault.WriteFault.{WriteFault}
use Rattle.object_writer.specs.declared.object.Forms.{Forms}
use Rattle.object_writer.specs.declared.object.UnitInfo.{UnitInfo}
use Rattle.object_writer.specs.Strings.{strings_of}
use Rattle.object_writer.specs.Object.{made}
use Rattle.dwmac_run.specs.declared.outcome.NewFile.{NewFile}
use Rattle.dwmac_run.specs.declared.refusal.Refusal.TheVariants.{TooLarge}
use Rattle.dwmac_run.specs.Refusals.{refusal_line}
use Rattle.dwmac_run.specs.Answers.{Answer, Prints, Refuses}
use Rattle.dwmac_run.specs.Units.{UnitSays}

-- the event that an entry of a walk is
abbrev pub event_of : Item ℕ → Event
event_of (Define line text) = HeldDefine line text
event_of (Undef line name) = HeldUndef line name
event_of (Start line file) = HeldStart line file
event_of End = HeldEnd

-- what an object says of its compilation unit (DWARF 5, 3.1.1): the source as the words name it, the folder in which the program runs, and the paths of the walk
abbrev pub info_of : List ℕ → List (List ℕ) → UnitInfo
info_of source files = record { name = source; dir = codes "."; files = files }

-- the different strings of the macro units of an object
abbrev pub strings_in : Split → Forms → List (List ℕ)
strings_in split forms = (strings_of forms.strx split).pool

-- the line on a file that was written
abbrev pub closing_line : ℕ → ℕ → ℕ → ℕ → List ℕ
closing_line units pieces strings bytes = codes "units " ++ decimal units ++ codes " pieces " ++ decimal pieces ++ codes " strings " ++ decimal strings ++ codes " bytes " ++ decimal bytes ++ codes "\n"

-- the line on an object of this split
abbrev pub object_line : Split → Forms → List ℕ → List ℕ
object_line split forms object = closing_line 1 (length split.pieces) (length (strings_in split forms)) (length object)

-- an object that goes to a file, or that one of its sections would be too large, which is the one fault that an object has
abbrev pub object_answer : List ℕ → Split → Forms → Result (List ℕ) WriteFault → Answer
object_answer output split forms (Ok object) = Prints (record { name = output; bytes = object } ∷ []) (object_line split forms object)
object_answer output split forms (Err fault) = Refuses (refusal_line TooLarge)

-- the object of these events of a translation unit with this source, whose files have these paths
abbrev pub recorded : List ℕ → List (List ℕ) → List Event → Forms → List ℕ → Answer
recorded source files events forms output = object_answer output (split_of events) forms (made (split_of events) (info_of source files) forms)

-- the same for what a walk has seen
abbrev pub recorded_seen : UnitSpec → Forms → List ℕ → Seen → Answer
recorded_seen unit forms output seen = recorded unit.source seen.files (map event_of seen.items) forms output

-- the answer to a translation unit over the stores of the path that has its object
abbrev pub RecordAnswer : Stores → UnitSpec → Forms → List ℕ → Answer → Type 0
RecordAnswer stores unit forms output = UnitSays (recorded_seen unit forms output) stores unit
