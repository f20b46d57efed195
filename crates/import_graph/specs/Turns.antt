-- What a turn of the walk makes of the unit that is being read.
use Rattle.std.specs.Prelude.{◌≡◌, ℕ, ◌+◌, ◌<◌, min, length, List, [], ◌∷◌, ◌++◌, Some, None, Result, Ok, Err}
use Rattle.mac_base.specs.Input.{◌>>=◌, rest}
use Rattle.mac_base.specs.SectionBytes.{SectionBytes}
use Rattle.unit_header.specs.Header.{header_of}
use Rattle.macro_opcodes.specs.Entry.{Entry}
use Rattle.macro_opcodes.specs.Reading.{entry_at}
use Rattle.import_graph.specs.declared.fault.FileFault.{FileFault}
use Rattle.import_graph.specs.declared.spliced.Spliced.{Spliced}
use Rattle.import_graph.specs.declared.node.Link.TheVariants.{Own}
use Rattle.import_graph.specs.declared.unit.OpenUnit.{OpenUnit}
use Rattle.import_graph.specs.declared.unit.Turn.{Turn as HeldTurn}
use Rattle.import_graph.specs.declared.unit.Turn.TheVariants.{Ends as HeldEnds, Passes as HeldPasses, Enters as HeldEnters}
use Rattle.import_graph.specs.Faults.{IsFaultOf, entry_part}
use Rattle.import_graph.specs.Numbers.{item_of, named_item, paths_of}
use Rattle.import_graph.specs.Nodes.{AreNumbered}
use Rattle.import_graph.specs.Meaning.{Lent, Meaning, Plain, Imports, Nothing, meaning}
use Rattle.import_graph.specs.Units.{Reader}
use Rattle.import_graph.specs.Walk.{Turn, Passes, turn_by, turn_at}

-- a count that stops rising behind the most entries that a root may stand for
abbrev pub together : ℕ → ℕ → ℕ
together count more = min (count + more) 16777217

-- what the entries of an open unit are read with
abbrev pub reader_of : List (List ℕ) → OpenUnit → Reader
reader_of paths unit = record { header = header_of unit.header; paths = paths_of paths unit.files }

-- it is still the same unit
abbrev pub IsSameUnit : OpenUnit → OpenUnit → Type 0
IsSameUnit old new = (new.at ≡ old.at) × (new.header ≡ old.header) × (new.files ≡ old.files)

-- what was read grows by what an entry says itself
abbrev pub Took : List (List ℕ) → Meaning → OpenUnit → OpenUnit → Type 0
Took paths (Plain item) old new = (spliced : Spliced) × (item ≡ named_item paths spliced) × AreNumbered (length paths) (item_of spliced ∷ []) × (new.links.items ≡ old.links.items ++ Own spliced ∷ []) × (new.count ≡ together old.count 1)
Took paths (Imports target) old new = (new.links.items ≡ old.links.items) × (new.count ≡ old.count)
Took paths Nothing old new = (new.links.items ≡ old.links.items) × (new.count ≡ old.count)

-- the turn that an entry makes, behind which the unit's next entry is
abbrev pub entry_turn : SectionBytes → Lent → List (List ℕ) → Entry → OpenUnit → Result Turn FileFault
entry_turn s lent paths e unit = entry_part e.at (meaning s lent (paths_of paths unit.files) e >>= turn_by e.at unit.open_files unit.cursor)

-- what a call answers that takes an entry
abbrev pub EntrySays : SectionBytes → Lent → List (List ℕ) → Entry → OpenUnit → OpenUnit → Result HeldTurn FileFault → Type 0
EntrySays s lent paths e old new (Ok HeldEnds) = ⊥
EntrySays s lent paths e old new (Ok HeldPasses) =
    (m : Meaning) × (meaning s lent (paths_of paths old.files) e ≡ Ok m) × (turn_by e.at old.open_files old.cursor m ≡ Ok (Passes new.open_files old.cursor)) × Took paths m old new
EntrySays s lent paths e old new (Ok (HeldEnters at target)) =
    (at ≡ e.at) × (meaning s lent (paths_of paths old.files) e ≡ Ok (Imports target)) × (new.open_files ≡ old.open_files) × Took paths (Imports target) old new
EntrySays s lent paths e old new (Err fault) = IsFaultOf (entry_turn s lent paths e old) fault

-- what a call answers that reads an entry and takes it, or the closing 0
abbrev pub TurnSays : SectionBytes → Lent → List (List ℕ) → OpenUnit → OpenUnit → Result HeldTurn FileFault → Type 0
TurnSays s lent paths old new (Ok HeldEnds) = (entry_at (header_of old.header) old.cursor ≡ Ok (None, new.cursor)) × (old.open_files ≡ 0) × (new.links.items ≡ old.links.items) × (new.count ≡ old.count)
TurnSays s lent paths old new (Ok HeldPasses) =
    (e : Entry) × (entry_at (header_of old.header) old.cursor ≡ Ok (Some e, new.cursor)) × EntrySays s lent paths e (record old { cursor = new.cursor }) new (Ok HeldPasses)
TurnSays s lent paths old new (Ok (HeldEnters at target)) =
    (e : Entry) × (entry_at (header_of old.header) old.cursor ≡ Ok (Some e, new.cursor)) × EntrySays s lent paths e (record old { cursor = new.cursor }) new (Ok (HeldEnters at target))
TurnSays s lent paths old new (Err fault) = IsFaultOf (turn_at s lent (reader_of paths old) old.open_files old.cursor) fault

-- the cursor moved on, unless there is a fault
abbrev pub MovesOn : OpenUnit → OpenUnit → Type 0
MovesOn old new = length (rest new.cursor) < length (rest old.cursor)

-- an import names a unit inside a section of n bytes
abbrev pub EntersInside : ℕ → HeldTurn → Type 0
EntersInside n HeldEnds = Unit {0}
EntersInside n HeldPasses = Unit {0}
EntersInside n (HeldEnters at target) = target < n
