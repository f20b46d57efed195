-- The first instance of a file, by its path.
use Rattle.std.specs.Prelude.{ℕ, Bool, false, List, Option, position}
use Rattle.std.specs.Str.{bytes_eq}
use Rattle.mac_base.specs.Items.{Item, Define, Undef, Start, End}
use Rattle.mac_base.specs.ItemLines.{path_in}
use Rattle.import_graph.specs.Graph.{GraphValue}

-- an entry that begins a file of this path, where files are named by their numbers among these paths
abbrev pub begins_path : List (List ℕ) → List ℕ → Item ℕ → Bool
begins_path paths path (Define line text) = false
begins_path paths path (Undef line name) = false
begins_path paths path (Start line file) = bytes_eq (path_in paths file) path
begins_path paths path End = false

-- the number of the first entry that begins a file of this path
abbrev pub first_of_path : List ℕ → GraphValue → Option ℕ
first_of_path path graph = position (begins_path graph.paths path) graph.items
