-- What a graph is to its callers, and what reading one answers.
use Rattle.std.specs.Prelude.{◌≡◌, ◌⊎◌, ℕ, ◌≤◌, ◌<◌, List, [], ◌∷◌, length, map, Option, Some, None, Result, Ok, Err}
use Rattle.mac_base.specs.declared.memory.NoMemory.{NoMemory}
use Rattle.mac_base.specs.SectionBytes.{SectionBytes}
use Rattle.info_roots.specs.declared.root.Root.{Root}
use Rattle.unit_header.specs.declared.fault.UnitKind.TheVariants.{TooManyEntries}
use Rattle.mac_base.specs.Items.{Item, renamed}
use Rattle.import_graph.specs.declared.fault.FileFault.{FileFault}
use Rattle.import_graph.specs.Faults.{fault_at}
use Rattle.import_graph.specs.Splice.{RootSplice}
use Rattle.import_graph.specs.Walk.{RootWalk, HasNoFault}
use Rattle.import_graph.specs.declared.spliced.Spliced.{Spliced}
use Rattle.import_graph.specs.Numbers.{item_of}
use Rattle.mac_base.specs.ItemLines.{path_in}

-- the most items that a root may stand for
abbrev pub most_items : ℕ
most_items = 16777216

-- the items of a root in their order, whose files are the numbers of their paths, and these paths
pub record GraphValue : Type 0 where
  pub items : List (Item ℕ)
  pub paths : List (List ℕ)

-- the items with their paths
abbrev pub named : List (List ℕ) → List (Item ℕ) → List (Item (List ℕ))
named paths items = map (renamed (path_in paths)) items

-- the graph has exactly what the root stands for, which has no fault and is not too much
pub record IsGraphOf (s : SectionBytes) (root : Root) (graph : GraphValue) : Type 0 where
  pub splice : RootSplice s root (named graph.paths graph.items)
  pub no_fault : HasNoFault s root
  pub within : length graph.items ≤ most_items

-- the root stands for more items than it may, and has no other fault
abbrev pub IsTooMuch : SectionBytes → Root → Type 0
IsTooMuch s root = HasNoFault s root × (items : List (Item (List ℕ))) × RootSplice s root items × (most_items < length items)

-- the first fault of a root: that of its walk, or behind that one that it stands for too much
abbrev pub IsFirstFault : SectionBytes → Root → FileFault → Type 0
IsFirstFault s root fault = RootWalk s root (Err fault) ⊎ ((fault ≡ fault_at root.macros TooManyEntries) × IsTooMuch s root)

-- what a call answers that takes the next item off these; where memory runs out, none is left
abbrev pub NextSays : Option (Result Spliced NoMemory) → List (Item ℕ) → List (Item ℕ) → Type 0
NextSays None old new = (old ≡ []) × (new ≡ [])
NextSays (Some (Ok spliced)) old new = old ≡ item_of spliced ∷ new
NextSays (Some (Err ran_out)) old new = new ≡ []
