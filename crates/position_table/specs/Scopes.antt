-- The table of the macro information at a position of a root: the definitions that hold there, with the innermost file and the line (DWARF 5, 6.3.2 and 6.3.3).
use Rattle.std.specs.Prelude.{◌≡◌, ℕ, List, [], position, Bool, false, Option, Some, None, slice_get, Result, Ok, Err}
use Rattle.std.specs.Option.{option_map}
use Rattle.std.specs.Str.{bytes_eq}
use Rattle.mac_base.specs.SectionBytes.{SectionBytes}
use Rattle.mac_base.specs.Items.{Item, Define, Undef, Start, End}
use Rattle.info_roots.specs.declared.root.Root.{Root}
use Rattle.macro_table.specs.Tables.{TableOf}
use Rattle.macro_table.specs.FileTable.{instance, prefix, table_of}
use Rattle.import_graph.specs.Splice.{RootSplice}

-- The macro scope of a position: the path of its innermost file, its line, and the definitions that hold there.
pub record Scope : Type 0 where
  pub path : List ℕ
  pub line : ℕ
  pub table : TableOf (List ℕ)

-- the file that begins with an item; none where the item begins no file
abbrev pub begun_file : {P : Type 0} → Option (Item P) → Option P
begun_file None = None
begun_file (Some (Define line text)) = None
begun_file (Some (Undef line name)) = None
begun_file (Some (Start line path)) = Some path
begun_file (Some End) = None

-- the path of a file that begins with this item, which is empty where none begins
abbrev pub begun_path : Option (Item (List ℕ)) → List ℕ
begun_path None = []
begun_path (Some (Define line text)) = []
begun_path (Some (Undef line name)) = []
begun_path (Some (Start line path)) = path
begun_path (Some End) = []

-- an item that begins a file of this path
abbrev pub names_path : List ℕ → Item (List ℕ) → Bool
names_path path (Define line text) = false
names_path path (Undef line name) = false
names_path path (Start line other) = bytes_eq other path
names_path path End = false

-- the scope at a line of the file that begins with the item of this number
abbrev pub scope_in : List (Item (List ℕ)) → ℕ → ℕ → Scope
scope_in items line start = record { path = begun_path (slice_get items start); line = line; table = table_of (prefix items start line) }

-- the same of an instance that is there, or of which only so many files are there
abbrev pub scope_from : List (Item (List ℕ)) → ℕ → Result ℕ ℕ → Result Scope ℕ
scope_from items line (Ok start) = Ok (scope_in items line start)
scope_from items line (Err depth) = Err depth

-- the scope at a line of the file that a chain of lines names, or how many files of the chain there are
abbrev pub chain_scope : List (Item (List ℕ)) → List ℕ → ℕ → Result Scope ℕ
chain_scope items lines line = scope_from items line (instance items lines)

-- the scope at a line of the first file of this path, if there is one
abbrev pub path_scope : List (Item (List ℕ)) → List ℕ → ℕ → Option Scope
path_scope items path line = option_map (scope_in items line) (position (names_path path) items)

-- The table of a root at a chain of lines and a line: that of the list of items that the root stands for. Where a level is missing, how many were found.
abbrev pub ChainTable : SectionBytes → Root → List ℕ → ℕ → Result Scope ℕ → Type 0
ChainTable s root lines line found = (items : List (Item (List ℕ))) × RootSplice s root items × (found ≡ chain_scope items lines line)

-- the same at a line of the root's first file of a path
abbrev pub PathTable : SectionBytes → Root → List ℕ → ℕ → Option Scope → Type 0
PathTable s root path line found = (items : List (Item (List ℕ))) × RootSplice s root items × (found ≡ path_scope items path line)
