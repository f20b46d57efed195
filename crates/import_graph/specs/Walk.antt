-- The first fault of a root's macro information, in the order of a walk that enters each unit at its first import (DWARF 5, 6.3.2).
use Rattle.std.specs.Prelude.{◌≡◌, ℕ, ◌+◌, ◌-◌, ◌==◌, IsTrue, IsFalse, Bool, if◌then◌else◌, List, [], ◌∷◌, Option, Some, None, Result, Ok, Err}
use Rattle.std.specs.List.{list_any}
use Rattle.mac_base.specs.Input.{Input, ◌>>=◌}
use Rattle.mac_base.specs.SectionBytes.{SectionBytes}
use Rattle.info_roots.specs.declared.root.Root.{Root}
use Rattle.unit_header.specs.declared.fault.UnitKind.{UnitKind}
use Rattle.unit_header.specs.declared.fault.UnitKind.TheVariants.{ImportCycle, EndWithoutStart, StartWithoutEnd}
use Rattle.macro_opcodes.specs.Entry.{Entry}
use Rattle.macro_opcodes.specs.Reading.{entry_at}
use Rattle.mac_base.specs.Items.{Item, Define, Undef, Start, End}
use Rattle.import_graph.specs.declared.fault.FileFault.{FileFault}
use Rattle.import_graph.specs.Faults.{fault_at, entry_part, unit_part}
use Rattle.import_graph.specs.Meaning.{Lent, Meaning, Plain, Imports, Nothing, meaning}
use Rattle.import_graph.specs.Units.{Reader, begun, root_begun, lent_by}

-- what comes next in a unit: its end, an entry behind which so many of its files are open, or an import that stands at a place
pub data Turn : Type 0 where
  Ends : Turn
  Passes : (open_files : ℕ) (behind : Input) → Turn
  Enters : (at target : ℕ) (behind : Input) → Turn

-- how many files that began in this unit are open behind an item
abbrev pub files_behind : ℕ → Item (List ℕ) → Result ℕ UnitKind
files_behind files (Define line text) = Ok files
files_behind files (Undef line name) = Ok files
files_behind files (Start line path) = Ok (files + 1)
files_behind files End = if files == 0 then Err EndWithoutStart else Ok (files - 1)

-- the turn that an entry at a place makes
abbrev pub turn_by : ℕ → ℕ → Input → Meaning → Result Turn UnitKind
turn_by at files q (Plain item) = files_behind files item >>= λ more. Ok (Passes more q)
turn_by at files q (Imports target) = Ok (Enters at target q)
turn_by at files q Nothing = Ok (Passes files q)

-- what an entry that was read makes of the place p, or the closing 0 there
abbrev pub turn_behind : SectionBytes → Lent → Reader → ℕ → Input → Option Entry × Input → Result Turn FileFault
turn_behind s lent unit files p (None, q) = if files == 0 then Ok Ends else Err (fault_at p.at StartWithoutEnd)
turn_behind s lent unit files p (Some e, q) = entry_part e.at (meaning s lent unit.paths e >>= turn_by e.at files q)

-- what comes at a place of a unit in which so many files are open: an entry is read whole before it is looked up
unfoldable pub turn_at : SectionBytes → Lent → Reader → ℕ → Input → Result Turn FileFault
turn_at s lent unit files p = unit_part (entry_at unit.header p) >>= turn_behind s lent unit files p

-- whether the unit at an offset is among these
abbrev pub is_among : ℕ → List ℕ → Bool
is_among at units = list_any (λ other. other == at) units

-- The rest of a unit, from the place p on, with so many of its files open. `around` are the units that are being walked, this one among them, and `walked` those that were walked whole before. The answer is those that have been walked whole when this unit ends, itself left out, or the first fault.
pub data Walk (s : SectionBytes) (lent : Lent) : Reader → List ℕ → List ℕ → ℕ → Input → Result (List ℕ) FileFault → Type 0 where
  -- the unit ends
  Finishes : (unit : Reader) (around walked : List ℕ) (files : ℕ) (p : Input) →
      turn_at s lent unit files p ≡ Ok Ends → Walk s lent unit around walked files p (Ok walked)
  -- there is a fault here
  Stops : (unit : Reader) (around walked : List ℕ) (files : ℕ) (p : Input) (fault : FileFault) →
      turn_at s lent unit files p ≡ Err fault → Walk s lent unit around walked files p (Err fault)
  -- an entry that is no import is passed over
  Goes : (unit : Reader) (around walked : List ℕ) (files more : ℕ) (p q : Input) (answer : Result (List ℕ) FileFault) →
      turn_at s lent unit files p ≡ Ok (Passes more q) → Walk s lent unit around walked more q answer → Walk s lent unit around walked files p answer
  -- the import of a unit that was walked before shows no new fault
  Again : (unit : Reader) (around walked : List ℕ) (files at target : ℕ) (p q : Input) (answer : Result (List ℕ) FileFault) →
      turn_at s lent unit files p ≡ Ok (Enters at target q) → IsTrue (is_among target walked) →
      Walk s lent unit around walked files q answer → Walk s lent unit around walked files p answer
  -- the import of a unit that is being walked
  Cycle : (unit : Reader) (around walked : List ℕ) (files at target : ℕ) (p q : Input) →
      turn_at s lent unit files p ≡ Ok (Enters at target q) → IsFalse (is_among target walked) → IsTrue (is_among target around) →
      Walk s lent unit around walked files p (Err (fault_at at ImportCycle))
  -- the first import of a unit that can't begin
  Bars : (unit : Reader) (around walked : List ℕ) (files at target : ℕ) (p q : Input) (fault : FileFault) →
      turn_at s lent unit files p ≡ Ok (Enters at target q) → IsFalse (is_among target walked) → IsFalse (is_among target around) →
      begun s lent target ≡ Err fault → Walk s lent unit around walked files p (Err fault)
  -- the first import of a unit that has a fault
  Fails : (unit : Reader) (around walked : List ℕ) (files at target : ℕ) (p q : Input) (other : Reader) (start : Input) (fault : FileFault) →
      turn_at s lent unit files p ≡ Ok (Enters at target q) → IsFalse (is_among target walked) → IsFalse (is_among target around) →
      begun s lent target ≡ Ok (other, start) → Walk s lent other (target ∷ around) walked 0 start (Err fault) →
      Walk s lent unit around walked files p (Err fault)
  -- the first import of a unit that has none, behind which this one goes on
  Returns : (unit : Reader) (around walked : List ℕ) (files at target : ℕ) (p q : Input) (other : Reader) (start : Input) (more : List ℕ) (answer : Result (List ℕ) FileFault) →
      turn_at s lent unit files p ≡ Ok (Enters at target q) → IsFalse (is_among target walked) → IsFalse (is_among target around) →
      begun s lent target ≡ Ok (other, start) → Walk s lent other (target ∷ around) walked 0 start (Ok more) →
      Walk s lent unit around (target ∷ more) files q answer → Walk s lent unit around walked files p answer

-- what the walk of a whole root answers: its own line table is read first, then its unit begins, then its entries are walked
pub data RootWalk (s : SectionBytes) (root : Root) : Result (List ℕ) FileFault → Type 0 where
  NoTable : (fault : FileFault) → lent_by s root ≡ Err fault → RootWalk s root (Err fault)
  NoUnit : (lent : Lent) (fault : FileFault) → lent_by s root ≡ Ok lent → root_begun s lent root.macros ≡ Err fault → RootWalk s root (Err fault)
  Walks : (lent : Lent) (unit : Reader) (start : Input) (answer : Result (List ℕ) FileFault) →
      lent_by s root ≡ Ok lent → root_begun s lent root.macros ≡ Ok (unit, start) → Walk s lent unit (root.macros ∷ []) [] 0 start answer → RootWalk s root answer

-- no fault comes in the walk of the root
abbrev pub HasNoFault : SectionBytes → Root → Type 0
HasNoFault s root = (walked : List ℕ) × RootWalk s root (Ok walked)
