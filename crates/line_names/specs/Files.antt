-- The files of a line table, as paths (DWARF 5, 6.2.4, items 14 to 21), and the first fault of one.
use Rattle.std.specs.Prelude.{ℕ, zero, suc, ◌==◌, ◌||◌, Bool, false, if◌then◌else◌, List, [], ◌∷◌, ◌++◌, length, take, slice_get, Some, None, unwrap_or, Result, Ok, Err}
use Rattle.mac_base.specs.Input.{Input, ◌>>=◌}
use Rattle.mac_base.specs.Fields.{uleb_at}
use Rattle.mac_base.specs.declared.extent.Extent.{Extent}
use Rattle.mac_base.specs.declared.value.Sizes.{Sizes}
use Rattle.mac_base.specs.Extents.{extent_of}
use Rattle.line_names.specs.declared.fault.LineFault.{LineFault}
use Rattle.line_names.specs.declared.fault.LineKind.TheVariants.{NoPath}
use Rattle.line_names.specs.declared.format.Role.TheVariants.{Path}
use Rattle.line_names.specs.declared.format.Content.{Content}
use Rattle.line_names.specs.declared.entry.Measures.{Measures}
use Rattle.line_names.specs.Faults.{field, extent_field, fault_at}
use Rattle.line_names.specs.Format.{has_role, format_at}
use Rattle.line_names.specs.Header.{header_at}
use Rattle.line_names.specs.Entries.{Tables, Entry, entry_at, no_entry}

-- so many of one kind, one after another
abbrev pub repeat_at : {A : Type 0} → (Input → Result (A × Input) LineFault) → ℕ → Input → Result (List A × Input) LineFault
repeat_at read zero p = Ok ([], p)
repeat_at read (suc n) p = read p >>= λ x. repeat_at read n x.1 >>= λ xs. Ok (x.0 ∷ xs.0, xs.1)

-- the number of entries, whose format has a path where there are any
abbrev pub count_at : List Content → Input → Result (ℕ × Input) LineFault
count_at format p = do
  count ← field (uleb_at p)
  if count.0 == 0 || has_role Path format then Ok count else Err (fault_at p.at NoPath)

-- the directory of a directory is not used
abbrev pub for_directories : Sizes → Measures
for_directories sizes = record { sizes = sizes; directories = None }

-- a directory, as its path
abbrev pub directory_at : Tables → Measures → List Content → Input → Result (List ℕ × Input) LineFault
directory_at t m format p = entry_at t m format no_entry p >>= λ entry. Ok (entry.0.path, entry.1)

-- the directories
unfoldable pub directories_at : Tables → Sizes → Input → Result (List (List ℕ) × Input) LineFault
directories_at t sizes p = do
  format ← format_at p
  count ← count_at format.0 format.1
  repeat_at (directory_at t (for_directories sizes) format.0) count.0 count.1

-- a name that begins with '/'
abbrev pub is_absolute : List ℕ → Bool
is_absolute [] = false
is_absolute (b ∷ bs) = b == 47

-- the path of a directory
abbrev pub directory_in : List (List ℕ) → ℕ → List ℕ
directory_in directories index = unwrap_or (slice_get directories index) []

-- the path of a file: its name, or its directory, '/' and its name
abbrev pub path_in : List (List ℕ) → Entry → List ℕ
path_in directories e = if e.directory == 0 || is_absolute e.path then e.path else directory_in directories e.directory ++ 47 ∷ e.path

-- a file, as its path. Its directory is one of those.
abbrev pub file_at : Tables → Sizes → List (List ℕ) → List Content → Input → Result (List ℕ × Input) LineFault
file_at t sizes directories format p =
    entry_at t (record { sizes = sizes; directories = Some (length directories) }) format no_entry p >>= λ entry. Ok (path_in directories entry.0, entry.1)

-- the files, as paths
unfoldable pub paths_at : Tables → Sizes → List (List ℕ) → Input → Result (List (List ℕ) × Input) LineFault
paths_at t sizes directories p = do
  format ← format_at p
  count ← count_at format.0 format.1
  repeat_at (file_at t sizes directories format.0) count.0 count.1

-- the files of the unit in these bytes, which end with it
unfoldable pub unit_at : Tables → Bool → Input → Result (List (List ℕ) × Input) LineFault
unit_at t wide p = do
  address ← header_at wide p
  directories ← directories_at t (record { wide = wide; address = address.0 }) address.1
  paths_at t (record { wide = wide; address = address.0 }) directories.0 directories.1

-- the fields of a unit, cut off at its end
abbrev pub fields_of : List ℕ → Extent → Input
fields_of section e = record { bytes = take e.end section; at = e.start }

-- the paths of the line table at an offset of .debug_line, or its first fault
abbrev pub files_of : Tables → ℕ → Result (List (List ℕ)) LineFault
files_of t off = do
  extent ← extent_field (extent_of t.lines off)
  paths ← unit_at t extent.wide (fields_of t.lines extent)
  Ok paths.0
