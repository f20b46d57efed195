-- A root has one answer: exactly one of what it stands for, and a first fault.
use Rattle.std.specs.Prelude.{◌≡◌, ◌⊎◌, ℕ, List, Result}
use Rattle.mac_base.specs.SectionBytes.{SectionBytes}
use Rattle.info_roots.specs.declared.root.Root.{Root}
use Rattle.mac_base.specs.Items.{Item}
use Rattle.import_graph.specs.declared.fault.FileFault.{FileFault}
use Rattle.import_graph.specs.Splice.{RootSplice}
use Rattle.import_graph.specs.Walk.{RootWalk, HasNoFault}
use Rattle.import_graph.specs.Graph.{GraphValue, IsGraphOf, IsFirstFault, named}

-- a root stands for at most one list of items
abbrev pub OneSplice : Type 0
OneSplice = (s : SectionBytes) (root : Root) (items others : List (Item (List ℕ))) → RootSplice s root items → RootSplice s root others → items ≡ others

-- the walk of a root comes to at most one answer
abbrev pub OneWalk : Type 0
OneWalk = (s : SectionBytes) (root : Root) (answer other : Result (List ℕ) FileFault) → RootWalk s root answer → RootWalk s root other → answer ≡ other

-- the walk of each root comes to an answer
abbrev pub SomeWalk : Type 0
SomeWalk = (s : SectionBytes) (root : Root) → (answer : Result (List ℕ) FileFault) × RootWalk s root answer

-- a root whose walk has no fault stands for items
abbrev pub WalkedIsSpliced : Type 0
WalkedIsSpliced = (s : SectionBytes) (root : Root) → HasNoFault s root → (items : List (Item (List ℕ))) × RootSplice s root items

-- each root has a graph, or a first fault
abbrev pub SomeAnswer : Type 0
SomeAnswer = (s : SectionBytes) (root : Root) → ((graph : GraphValue) × IsGraphOf s root graph) ⊎ ((fault : FileFault) × IsFirstFault s root fault)

-- a root has no graph where it has a first fault, and has at most one first fault, and the items of all its graphs are the same
pub record OneAnswer : Type 0 where
  pub graphs : (s : SectionBytes) (root : Root) (one other : GraphValue) → IsGraphOf s root one → IsGraphOf s root other → named one.paths one.items ≡ named other.paths other.items
  pub faults : (s : SectionBytes) (root : Root) (one other : FileFault) → IsFirstFault s root one → IsFirstFault s root other → one ≡ other
  pub apart : (s : SectionBytes) (root : Root) (graph : GraphValue) (fault : FileFault) → IsGraphOf s root graph → IsFirstFault s root fault → ⊥
