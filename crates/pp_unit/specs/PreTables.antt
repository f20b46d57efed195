-- The macro definitions that the preprocessor had at a position of a source file, by the marks that its walk left.
use Rattle.std.specs.Prelude.{ℕ, ◌+◌, nat_le, Bool, true, ◌&&◌, if◌then◌else◌, List, [], ◌∷◌, ◌++◌, take, Option, None, Some, Result}
use Rattle.std.specs.Option.{option_map, ok_or}
use Rattle.std.specs.List.{list_any, find}
use Rattle.pp_tokens.specs.Kinds.{same}
use Rattle.macro_table.specs.Tables.{TableOf}
use Rattle.macro_table.specs.FileTable.{table_of}
use Rattle.pp_unit.specs.Seen.{Mark, Marked}

-- a mark of the file that this chain of lines names
abbrev pub is_of : List ℕ → Mark → Bool
is_of chain mark = same mark.chain chain

-- whether what comes after a mark has this line's number or a later one; the end of a file comes after all lines
abbrev pub is_reached : ℕ → Option ℕ → Bool
is_reached l None = true
is_reached l (Some line) = nat_le l line

-- a mark of the file that this chain names, at this line of it or after it
abbrev pub is_at : List ℕ → ℕ → Mark → Bool
is_at chain l mark = is_of chain mark && is_reached l mark.line

-- the table before the first line of that file that has this number or a later one, or before the file's end
abbrev pub table_at : Marked → List ℕ → ℕ → Option (TableOf ℕ)
table_at m chain l = option_map (λ (mark : Mark). table_of (take mark.events m.seen.items)) (find (is_at chain l) m.marks)

-- how many of the files that a chain names were walked, from the one on that a prefix of the chain names, by what is left of it: those with a mark, up to the first without one
abbrev pub files_walked : List Mark → List ℕ → List ℕ → ℕ
files_walked marks front [] = if list_any (is_of front) marks then 1 else 0
files_walked marks front (line ∷ lines) = if list_any (is_of front) marks then 1 + files_walked marks (front ++ line ∷ []) lines else 0

-- the table at a line of the file that a chain of lines names, or how many files of the chain were walked
abbrev pub pre_table : Marked → List ℕ → ℕ → Result (TableOf ℕ) ℕ
pre_table m chain l = ok_or (table_at m chain l) (files_walked m.marks [] chain)
