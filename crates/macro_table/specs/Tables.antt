-- A table of macro definitions, as a finite map from names to entries.
use Rattle.std.specs.Prelude.{ℕ, List, map}
use Rattle.std.specs.Ordering.{nat_cmp}
use Rattle.std.specs.Cmp.Lexicographic.{slice_cmp}
use Rattle.std.specs.FinMap as finite
use Rattle.mac_base.specs.declared.frames.Frame.{Frame}
use Rattle.macro_table.specs.declared.entry.Entry.{Entry}

-- A definition and where it is: its text, the files that are open there, the outermost first, each with the line of its inclusion, and its own line. P names a file: by its path, or by the number of its path.
pub record EntryValue (P : Type 0) : Type 0 where
  pub text : List ℕ
  pub files : List (P × ℕ)
  pub line : ℕ

-- from names to definitions; the names are in the order of their bytes
abbrev pub TableOf : Type 0 → Type 0
TableOf P = finite.FinMap (slice_cmp nat_cmp) (EntryValue P)

-- an entry of the code, whose files are named by the numbers of their paths
abbrev pub entry_value : Entry → EntryValue ℕ
entry_value entry = record { text = entry.text; files = map (λ (frame : Frame). (frame.path, frame.line)) entry.place.frames; line = entry.place.line }

-- the same definition, where files are named otherwise
abbrev pub renamed_value : {P Q : Type 0} → (P → Q) → EntryValue P → EntryValue Q
renamed_value name_of_file value = record { text = value.text; files = map (λ file. (name_of_file file.0, file.1)) value.files; line = value.line }
