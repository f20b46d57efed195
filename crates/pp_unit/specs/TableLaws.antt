-- A reader of the macro information sees at each line what the preprocessor saw there (DWARF 5, 6.3.2). Each law is of a translation unit that is walked without a fault.
use Rattle.std.specs.Prelude.{◌≡◌, ◌<◌, ℕ, true, List, [], ◌∷◌, map, Option, None, Some, Ok, is_ok}
use Rattle.std.specs.List.{list_any, filter}
use Rattle.macro_table.specs.FileTable.{file_table}
use Rattle.pp_unit.specs.declared.request.UnitSpec.{UnitSpec}
use Rattle.pp_unit.specs.Seen.{Mark, Marked}
use Rattle.pp_unit.specs.Files.{Stores}
use Rattle.pp_unit.specs.Walk.{Walk}
use Rattle.pp_unit.specs.PreTables.{is_of, pre_table}

-- For each chain of lines and each line, a later one than the file has and 0 too: the table that the events alone give is the preprocessor's own in that file, before that line or of the next one that there is. Where no such file was walked the events have none, and as many files of the chain.
abbrev pub TablesAgree : Type 0
TablesAgree = (stores : Stores) (spec : UnitSpec) (m : Marked) → Walk stores spec (Ok m) → (chain : List ℕ) (l : ℕ) → file_table m.seen.items chain l ≡ pre_table m chain l

-- The events have a table at all lines of the files that were walked, and at no line of another.
abbrev pub TablesAreThere : Type 0
TablesAreThere = (stores : Stores) (spec : UnitSpec) (m : Marked) → Walk stores spec (Ok m) → (chain : List ℕ) (l : ℕ) → is_ok (file_table m.seen.items chain l) ≡ list_any (is_of chain) m.marks

-- the numbers rise strictly, from above this one on, and the end comes last
abbrev pub RiseToEnd : ℕ → List (Option ℕ) → Type 0
RiseToEnd low [] = ⊥
RiseToEnd low (None ∷ lines) = lines ≡ []
RiseToEnd low (Some line ∷ lines) = (low < line) × RiseToEnd line lines

-- A chain of lines names one file at most: the marks that have it are those of each line once, in order, and of one end.
abbrev pub ChainsNameOneFile : Type 0
ChainsNameOneFile = (stores : Stores) (spec : UnitSpec) (m : Marked) → Walk stores spec (Ok m) → (chain : List ℕ) → list_any (is_of chain) m.marks ≡ true → RiseToEnd 0 (map (λ (mark : Mark). mark.line) (filter (is_of chain) m.marks))
