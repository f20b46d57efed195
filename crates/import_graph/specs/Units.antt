-- Where the walk of a root and the walk of a unit begin, and which line table a unit has (DWARF 5, 6.3.1.2 and 6.3.2).
use Rattle.std.specs.Prelude.{ℕ, ◌+◌, nat_lt, if◌then◌else◌, List, length, Option, Some, None, Result, Ok, Err}
use Rattle.mac_base.specs.Input.{Input, ◌>>=◌}
use Rattle.mac_base.specs.SectionBytes.{SectionBytes}
use Rattle.line_names.specs.Entries.{tables_in}
use Rattle.line_names.specs.Files.{files_of}
use Rattle.info_roots.specs.declared.root.Root.{Root}
use Rattle.unit_header.specs.declared.fault.UnitKind.TheVariants.{LineRange, ImportRange}
use Rattle.unit_header.specs.Header.{Header}
use Rattle.unit_header.specs.Reading.{header_at}
use Rattle.import_graph.specs.declared.fault.FileFault.{FileFault}
use Rattle.import_graph.specs.Faults.{fault_at, unit_part, line_part}
use Rattle.import_graph.specs.Meaning.{Lent}

-- the paths of the line table at an offset of .debug_line
abbrev pub paths_at : SectionBytes → ℕ → Result (Option (List (List ℕ))) FileFault
paths_at s off = line_part (files_of (tables_in s) off) >>= λ paths. Ok (Some paths)

-- the paths of the root's line table, if it names one
abbrev pub root_paths : SectionBytes → Option ℕ → Result (Option (List (List ℕ))) FileFault
root_paths s None = Ok None
root_paths s (Some off) = paths_at s off

-- what a root lends
abbrev pub lent_by : SectionBytes → Root → Result Lent FileFault
lent_by s root = root_paths s root.line >>= λ paths. Ok (record { paths = paths; str_base = root.str_base; wide = root.wide })

-- The paths that the files of the unit at this offset are indexes into: those of the line table that its header names, whose offset stands behind the version and the flags, or else the root's.
abbrev pub unit_paths : SectionBytes → Lent → ℕ → Option ℕ → Result (Option (List (List ℕ))) FileFault
unit_paths s lent at None = Ok lent.paths
unit_paths s lent at (Some off) = if nat_lt off (length s.lines) then paths_at s off else Err (fault_at (at + 3) LineRange)

-- what the entries of a unit are read with: its header, and the paths that its files are indexes into
pub record Reader : Type 0 where
  pub header : Header
  pub paths : Option (List (List ℕ))

-- the unit at an offset, with the place of its first entry: the header comes first, and then the line table
abbrev pub begun : SectionBytes → Lent → ℕ → Result (Reader × Input) FileFault
begun s lent at =
    unit_part (header_at (record { bytes = s.macros; at = at })) >>= λ header.
    unit_paths s lent at header.0.line >>= λ paths.
    Ok (record { header = header.0; paths = paths }, header.1)

-- the root's unit, which is inside the section
abbrev pub root_begun : SectionBytes → Lent → ℕ → Result (Reader × Input) FileFault
root_begun s lent at = if nat_lt at (length s.macros) then begun s lent at else Err (fault_at at ImportRange)
