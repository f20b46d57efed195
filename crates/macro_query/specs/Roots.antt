-- What the roots of a file say: each what it stands for, or its first fault.
use Rattle.std.specs.Prelude.{◌≡◌, ℕ, ◌+◌, ◌≤◌, List, [], ◌∷◌, ◌++◌, length, codes, decimal, Result, Ok, Err}
use Rattle.std.specs.List.{flat_map}
use Rattle.mac_base.specs.Input.{◌>>=◌}
use Rattle.mac_base.specs.SectionBytes.{SectionBytes}
use Rattle.info_roots.specs.declared.fault.InfoFault.{InfoFault}
use Rattle.info_roots.specs.declared.root.Root.{Root}
use Rattle.info_roots.specs.Roots.{roots_in}
use Rattle.mac_base.specs.Items.{Item, Define, Undef, Start, End}
use Rattle.import_graph.specs.declared.fault.FileFault.{FileFault}
use Rattle.import_graph.specs.declared.fault.FileFault.TheVariants.{Line as InLine, Unit as InUnit, NoMemory as FileRanOut}
use Rattle.import_graph.specs.Splice.{RootSplice}
use Rattle.import_graph.specs.Walk.{HasNoFault}
use Rattle.import_graph.specs.Graph.{most_items, IsFirstFault}
use Rattle.macro_query.specs.declared.fault.QueryFault.{QueryFault}
use Rattle.macro_query.specs.declared.fault.QueryFault.TheVariants.{Info, Line, Unit as BadUnit, NoMemory as RanOut}
use Rattle.mac_base.specs.ItemLines.{item_lines}

-- how the fault of a root is told
abbrev pub file_fault : FileFault → QueryFault
file_fault (InLine fault) = Line fault
file_fault (InUnit fault) = BadUnit fault
file_fault FileRanOut = RanOut

-- what a root stands for, or its first fault
abbrev pub RootSays : SectionBytes → Root → Result (List (Item (List ℕ))) FileFault → Type 0
RootSays s root (Ok items) = RootSplice s root items × HasNoFault s root × (length items ≤ most_items)
RootSays s root (Err fault) = IsFirstFault s root fault

-- what the list of roots says, or the fault of `.debug_info`
abbrev pub ByRoots : {A : Type 0} → Result (List Root) InfoFault → (List Root → Result A QueryFault → Type 0) → Result A QueryFault → Type 0
ByRoots (Ok roots) Says said = Says roots said
ByRoots (Err fault) Says said = said ≡ Err (Info fault)

-- the same of sections
abbrev pub RootsSay : {A : Type 0} → (SectionBytes → List Root → Result A QueryFault → Type 0) → SectionBytes → Result A QueryFault → Type 0
RootsSay Says s said = ByRoots (roots_in s) (Says s) said

-- the line of the root with this number
abbrev pub root_line : ℕ → List ℕ → List ℕ
root_line number name = codes "root" ++ codes " " ++ decimal number ++ codes " " ++ name ++ codes "\n"

-- the lines of a root
abbrev pub root_lines : ℕ → Root → List (Item (List ℕ)) → List ℕ
root_lines number root items = root_line number root.name ++ item_lines items

-- a text, and after it what is said of the rest
abbrev pub joined : List ℕ → Result (List ℕ) QueryFault → Result (List ℕ) QueryFault
joined front rest = rest >>= λ text. Ok (front ++ text)

-- a root's lines and what is said of the roots after it, or its first fault
abbrev pub ThenSays : Result (List (Item (List ℕ))) FileFault → (List (Item (List ℕ)) → List ℕ) → (Result (List ℕ) QueryFault → Type 0) → Result (List ℕ) QueryFault → Type 0
ThenSays (Ok items) lines More said = (rest : Result (List ℕ) QueryFault) × More rest × (said ≡ joined (lines items) rest)
ThenSays (Err fault) lines More said = said ≡ Err (file_fault fault)

-- the lines of these roots, which are numbered from n on, or the first fault of the first that has one
abbrev pub DumpOf : SectionBytes → ℕ → List Root → Result (List ℕ) QueryFault → Type 0
DumpOf s n [] said = said ≡ Ok []
DumpOf s n (root ∷ roots) said = (first : Result (List (Item (List ℕ))) FileFault) × RootSays s root first × ThenSays first (root_lines n root) (DumpOf s (n + 1) roots) said
