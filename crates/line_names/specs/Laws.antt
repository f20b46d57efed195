-- Reading a line table, spelling it and writing it agree.
use Rattle.std.specs.Prelude.{◌≡◌, ℕ, ◌≤◌, Bool, List, length, Ok}
use Rattle.line_names.specs.Entries.{Tables}
use Rattle.line_names.specs.Files.{files_of}
use Rattle.line_names.specs.Spelling.{StringSections, IsTable, IsAt}
use Rattle.line_names.specs.Written.{table_bytes, HaveNoNul}

-- the sections of strings of a file
abbrev pub strings_in : Tables → StringSections
strings_in t = record { strs = t.strs; line_strs = t.line_strs }

-- what is read at an offset is spelled by a table there
abbrev pub ReadIsSpelled : Type 0
ReadIsSpelled = (t : Tables) (off : ℕ) (paths : List (List ℕ)) → files_of t off ≡ Ok paths → (bytes : List ℕ) × IsAt t.lines off bytes × IsTable (strings_in t) bytes paths

-- what a table spells is read, whatever is before and after it
abbrev pub SpelledIsRead : Type 0
SpelledIsRead = (t : Tables) (off : ℕ) (bytes : List ℕ) (paths : List (List ℕ)) → IsAt t.lines off bytes → IsTable (strings_in t) bytes paths → files_of t off ≡ Ok paths

-- at an offset is at most one table, which names one list of paths
abbrev pub OneTable : Type 0
OneTable = (s : StringSections) (lines : List ℕ) (off : ℕ) (bytes other : List ℕ) (paths found : List (List ℕ)) → IsAt lines off bytes → IsTable s bytes paths → IsAt lines off other → IsTable s other found → (bytes ≡ other) × (paths ≡ found)

-- what is written of paths is a table that names them, whatever the sections of strings hold
abbrev pub WrittenIsSpelled : Type 0
WrittenIsSpelled = (s : StringSections) (wide : Bool) (paths : List (List ℕ)) → HaveNoNul paths → length (table_bytes wide paths) ≤ 1_073_741_824 → IsTable s (table_bytes wide paths) paths

-- so it is read again, whatever is before and after it
abbrev pub WrittenIsRead : Type 0
WrittenIsRead = (t : Tables) (off : ℕ) (wide : Bool) (paths : List (List ℕ)) → HaveNoNul paths → length (table_bytes wide paths) ≤ 1_073_741_824 → IsAt t.lines off (table_bytes wide paths) → files_of t off ≡ Ok paths
