-- The line tables that were read, each with the numbers of its paths among all paths.
use Rattle.std.specs.Prelude.{◌≡◌, ℕ, List, Option, Some, Ok}
use Rattle.std.specs.Ordering.{nat_cmp}
use Rattle.std.specs.BTreeMap.{BTreeMap, get}
use Rattle.mac_base.specs.SectionBytes.{SectionBytes}
use Rattle.line_names.specs.Entries.{Tables, tables_in}
use Rattle.line_names.specs.Files.{files_of}
use Rattle.import_graph.specs.declared.meaning.FileRange.{FileRange}
use Rattle.import_graph.specs.Numbers.{range_of, paths_of, Fits}
use Rattle.import_graph.specs.Meaning.{Lent}

-- the sections in which line tables stand, and the paths of those that were read, one table behind another
pub record FilesRead : Type 0 where
  pub tables : Tables
  pub paths : List (List ℕ)

-- the paths in this range are those of the line table at this offset
abbrev pub IsRange : Tables → List (List ℕ) → ℕ → FileRange → Type 0
IsRange tables paths off range = (files_of tables off ≡ Ok (range_of paths range)) × Fits paths (Some range)

-- the ranges that are kept are those of their tables
abbrev pub AreRanges : Tables → List (List ℕ) → BTreeMap ℕ FileRange → Type 0
AreRanges tables paths known = (off : ℕ) (range : FileRange) → get nat_cmp known off ≡ Some range → IsRange tables paths off range

-- the tables are those of these sections, and the root lends the paths in this range, if it has a line table
abbrev pub IsLent : FilesRead → Option FileRange → SectionBytes → Lent → Type 0
IsLent f root s lent = (f.tables ≡ tables_in s) × (paths_of f.paths root ≡ lent.paths) × Fits f.paths root
