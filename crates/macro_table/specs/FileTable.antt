-- The macro definitions that hold at a position of a source file (DWARF 5, 6.3.2 and 6.3.3).
use Rattle.std.specs.Prelude.{ℕ, ◌+◌, ◌-◌, List, [], ◌∷◌, ◌++◌, length, take, drop, position, if◌then◌else◌, Option, None, Some, Result, Ok, Err, unwrap_or}
use Rattle.std.specs.Option.{option_map, option_or}
use Rattle.std.specs.Str.{bytes_eq}
use Rattle.std.specs.FinMap as finite
use Rattle.mac_base.specs.Input.{◌>>=◌}
use Rattle.mac_base.specs.Names.{name_of}
use Rattle.macro_table.specs.Tables.{EntryValue, TableOf}
use Rattle.mac_base.specs.Items.{Item, Define, Undef, Start, End, is_start, starts_at, ends_or_reaches, first_inside}

-- the entries after the one that begins a file
abbrev pub behind : {P : Type 0} → List (Item P) → ℕ → List (Item P)
behind items start = drop (start + 1) items

-- from the entry that begins the file of this level on, one level for each line; none was found where the levels end
abbrev pub levels : {P : Type 0} → List (Item P) → List ℕ → ℕ → Option ℕ → Result ℕ ℕ
levels items [] depth None = Err depth
levels items [] depth (Some start) = Ok start
levels items (line ∷ lines) depth None = Err depth
levels items (line ∷ lines) depth (Some start) =
    levels items lines (depth + 1) (option_map (λ n. start + 1 + n) (first_inside (starts_at line) (behind items start) 0))

-- The instance of a chain of lines: the number of the entry that begins its innermost file. The outermost file is the first that begins at all; in each file a line names the first one that begins directly in it and is included in that line. Where one is missing, how many files were found.
abbrev pub instance : {P : Type 0} → List (Item P) → List ℕ → Result ℕ ℕ
instance items lines = levels items lines 0 (position is_start items)

-- of the file that begins at this entry: all entries before the first one directly in it that is in this line or a later one, or before its end
abbrev pub prefix : {P : Type 0} → List (Item P) → ℕ → ℕ → List (Item P)
prefix items start line = take (start + 1 + unwrap_or (first_inside (ends_or_reaches line) (behind items start) 0) (length items)) items

-- the files that are open after an entry, the outermost first, each with the line of its inclusion
abbrev pub open_behind : {P : Type 0} → List (P × ℕ) → Item P → List (P × ℕ)
open_behind files (Define line text) = files
open_behind files (Undef line name) = files
open_behind files (Start line path) = files ++ (path, line) ∷ []
open_behind files End = take (length files - 1) files

-- what an entry says of a name: its definition, that it has none, or nothing
abbrev pub says : {P : Type 0} → List ℕ → List (P × ℕ) → Item P → Option (Option (EntryValue P))
says name files (Define line text) = if bytes_eq name (name_of text) then Some (Some (record { text = text; files = files; line = line })) else None
says name files (Undef line other) = if bytes_eq name other then Some None else None
says name files (Start line path) = None
says name files End = None

-- what the last of the entries says that says something of the name
abbrev pub last_said : {P : Type 0} → List ℕ → List (P × ℕ) → List (Item P) → Option (Option (EntryValue P))
last_said name files [] = None
last_said name files (item ∷ items) = option_or (last_said name (open_behind files item) items) (says name files item)

-- the definition of a name after these entries
abbrev pub definition : {P : Type 0} → List (Item P) → List ℕ → Option (EntryValue P)
definition items name = unwrap_or (last_said name [] items) None

-- a table after one entry more
abbrev pub changed : {P : Type 0} → List (P × ℕ) → TableOf P → Item P → TableOf P
changed files table (Define line text) = finite.insert table (name_of text) (record { text = text; files = files; line = line })
changed files table (Undef line name) = finite.remove table name
changed files table (Start line path) = table
changed files table End = table

-- a table after some entries more
abbrev pub table_behind : {P : Type 0} → List (P × ℕ) → TableOf P → List (Item P) → TableOf P
table_behind files table [] = table
table_behind files table (item ∷ items) = table_behind (open_behind files item) (changed files table item) items

-- the definitions of all names after these entries
abbrev pub table_of : {P : Type 0} → List (Item P) → TableOf P
table_of items = table_behind [] finite.empty items

-- the table at a line of the file that a chain of lines names, or how many files of the chain there are
abbrev pub file_table : {P : Type 0} → List (Item P) → List ℕ → ℕ → Result (TableOf P) ℕ
file_table items lines line = do
  start ← instance items lines
  Ok (table_of (prefix items start line))
