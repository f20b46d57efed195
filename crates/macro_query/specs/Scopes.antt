-- What a position in a file leads to: the definitions that hold there, the innermost file and the line; or the first fault.
use Rattle.std.specs.Prelude.{◌≡◌, ℕ, List, [], ◌∷◌, Option, Some, None, slice_get, Result, Ok, Err}
use Rattle.std.specs.Option.{option_map}
use Rattle.std.specs.FinMap as finite
use Rattle.mac_base.specs.SectionBytes.{SectionBytes}
use Rattle.info_roots.specs.declared.root.Root.{Root}
use Rattle.mac_base.specs.Items.{Item}
use Rattle.macro_table.specs.Tables.{TableOf, renamed_value}
use Rattle.import_graph.specs.declared.fault.FileFault.{FileFault}
use Rattle.mac_base.specs.ItemLines.{path_in}
use Rattle.import_graph.specs.Graph.{GraphValue}
use Rattle.position_table.specs.declared.position.Position.{Position}
use Rattle.position_table.specs.declared.position.Position.TheVariants.{Chain, Named}
use Rattle.position_table.specs.declared.fault.PosFault.TheVariants.{NoSuchPosition}
use Rattle.position_table.specs.Scopes.{Scope, chain_scope, path_scope}
use Rattle.macro_query.specs.declared.fault.QueryFault.{QueryFault}
use Rattle.macro_query.specs.declared.fault.QueryFault.TheVariants.{NoSuchUnit, Position as BadPosition}
use Rattle.macro_query.specs.Roots.{file_fault, RootSays}

-- a scope that is there, or a position that names a file that is not
abbrev pub of_chain : Result Scope ℕ → Result Scope QueryFault
of_chain (Ok scope) = Ok scope
of_chain (Err depth) = Err (BadPosition (NoSuchPosition depth))

-- the scope at a chain of lines of a root, which may have a fault
abbrev pub scope_by : List ℕ → ℕ → Result (List (Item (List ℕ))) FileFault → Result Scope QueryFault
scope_by lines line (Ok items) = of_chain (chain_scope items lines line)
scope_by lines line (Err fault) = Err (file_fault fault)

-- a chain of lines in a root that is there or not
abbrev pub ChainLeads : Option Root → List ℕ → ℕ → SectionBytes → Result Scope QueryFault → Type 0
ChainLeads None lines line s found = found ≡ Err NoSuchUnit
ChainLeads (Some root) lines line s found = (first : Result (List (Item (List ℕ))) FileFault) × RootSays s root first × (found ≡ scope_by lines line first)

-- in a root in which a file of this path was looked for: the scope there, or what the roots after it lead to
abbrev pub ByFound : Option Scope → (Result Scope QueryFault → Type 0) → Result Scope QueryFault → Type 0
ByFound (Some scope) More found = found ≡ Ok scope
ByFound None More found = More found

-- the same in a root, which may have a fault
abbrev pub InRoot : List ℕ → ℕ → Result (List (Item (List ℕ))) FileFault → (Result Scope QueryFault → Type 0) → Result Scope QueryFault → Type 0
InRoot path line (Ok items) More found = ByFound (path_scope items path line) More found
InRoot path line (Err fault) More found = found ≡ Err (file_fault fault)

-- a line of the first file of this path in the first of these roots that has one
abbrev pub NamedLeads : List ℕ → ℕ → SectionBytes → List Root → Result Scope QueryFault → Type 0
NamedLeads path line s [] found = found ≡ Err (BadPosition (NoSuchPosition 0))
NamedLeads path line s (root ∷ roots) found = (first : Result (List (Item (List ℕ))) FileFault) × RootSays s root first × InRoot path line first (NamedLeads path line s roots) found

-- a position among these roots
abbrev pub PositionLeads : Position → SectionBytes → List Root → Result Scope QueryFault → Type 0
PositionLeads (Chain unit lines line) s roots found = ChainLeads (slice_get roots unit) lines line s found
PositionLeads (Named path line) s roots found = NamedLeads path line s roots found

-- A table whose files are numbers, and the same with their paths.
abbrev pub IsNamed : List (List ℕ) → TableOf ℕ → TableOf (List ℕ) → Type 0
IsNamed paths numbers table =
    (finite.keys table ≡ finite.keys numbers) × ((name : List ℕ) → finite.get table name ≡ option_map (renamed_value (path_in paths)) (finite.get numbers name))

-- the path of a file by its number, which is empty where there is none
abbrev pub path_of_file : List (List ℕ) → Option ℕ → List ℕ
path_of_file paths None = []
path_of_file paths (Some number) = path_in paths number

-- What was found at this line is this scope, where files are numbers.
pub record IsScope (graph : GraphValue) (file : Option ℕ) (at : ℕ) (numbers : TableOf ℕ) (scope : Scope) : Type 0 where
  pub path : path_of_file graph.paths file ≡ scope.path
  pub line : at ≡ scope.line
  pub table : IsNamed graph.paths numbers scope.table
