-- The walk of a translation unit: what is predefined, the words of the command, and then the primary file with all that it includes (C17 5.1.1.1, 6.10).
use Rattle.std.specs.Prelude.{◌≡◌, ◌⊎◌, ℕ, [], ◌∷◌, map, Result, Ok, Err}
use Rattle.mac_base.specs.declared.events.Events.{Events}
use Rattle.pp_directives.specs.Following.{Then}
use Rattle.pp_unit.specs.declared.open_file.OpenFile.{OpenFile}
use Rattle.pp_unit.specs.declared.request.UnitSpec.{UnitSpec}
use Rattle.pp_unit.specs.declared.fault.PpFault.{PpFault}
use Rattle.pp_unit.specs.declared.fault.PpKind.TheVariants.{StoreFault}
use Rattle.pp_unit.specs.Kinds.{ran_out}
use Rattle.pp_unit.specs.Seen.{Seen, Marked}
use Rattle.mac_base.specs.ItemLines.{item_of}
use Rattle.pp_unit.specs.Definitions.{all_commanded, predefined}
use Rattle.pp_unit.specs.Files.{Stores, Part, Includes, Walks}

-- the most files that are open at once: the project's own limit (5.2.4.1 p1 asks for 15)
abbrev pub open_limit : ℕ
open_limit = 200

-- before all files
abbrev pub outside : OpenFile
outside = record { frames = []; path = []; id = record { store = 0; name = [] } }

-- Walk stores spec answer: what the translation unit comes to, with the marks that were left on the way
abbrev pub Walk : Stores → UnitSpec → Result Marked PpFault → Type 0
Walk stores spec =
    Then
    (Part outside 0 (λ answer. answer ≡ all_commanded predefined spec.commands) (record { seen = predefined; marks = [] }))
    (Includes stores (Walks stores open_limit) outside 0 spec.source (record { store = 0; name = spec.source } ∷ []))

-- the events and paths that a call answers are those that were seen
pub record AreSeen (events : Events) (seen : Seen) : Type 0 where
  pub items : map item_of events.list ≡ seen.items
  pub files : events.files ≡ seen.files

-- a call answers what the walk comes to, or that memory ran out
abbrev pub IsWalked : Stores → UnitSpec → Result Events PpFault → Type 0
IsWalked stores spec (Ok events) = (m : Marked) × Walk stores spec (Ok m) × AreSeen events m.seen
IsWalked stores spec (Err fault) = (fault ≡ ran_out) ⊎ Walk stores spec (Err fault)

-- a call answers that a store failed
abbrev pub StoreFailed : Result Events PpFault → Type 0
StoreFailed (Ok events) = ⊥
StoreFailed (Err fault) = fault.what ≡ StoreFault
