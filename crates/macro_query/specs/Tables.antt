-- What is told of the macro definitions that hold at a position.
use Rattle.std.specs.Prelude.{ℕ, List, [], ◌∷◌, ◌++◌, codes, decimal, map, Option, Some, None}
use Rattle.std.specs.List.{flat_map}
use Rattle.std.specs.FinMap as finite
use Rattle.mac_base.specs.declared.frames.Frame.{Frame}
use Rattle.macro_table.specs.declared.entry.Entry.{Entry}
use Rattle.macro_table.specs.Tables.{EntryValue, TableOf}
use Rattle.mac_base.specs.ItemLines.{path_in}

-- the path of the innermost of these files, the outermost first
abbrev pub innermost : List (List ℕ × ℕ) → List ℕ
innermost [] = codes "<start>"
innermost (file ∷ []) = file.0
innermost (file ∷ inner ∷ files) = innermost (inner ∷ files)

-- where the second of two files is included
abbrev pub included_at : List ℕ × ℕ → List ℕ × ℕ → List ℕ
included_at outer file = codes "  included at " ++ outer.0 ++ codes ":" ++ decimal file.1 ++ codes "\n"

-- where each of these files but the outermost, which is first, is included, the innermost first
abbrev pub inclusions : List (List ℕ × ℕ) → List ℕ
inclusions [] = []
inclusions (file ∷ []) = []
inclusions (outer ∷ file ∷ files) = inclusions (file ∷ files) ++ included_at outer file

-- the line of a definition
abbrev pub define_line : List ℕ → List ℕ
define_line text = codes "#define " ++ text ++ codes "\n"

-- where a definition is
abbrev pub defined_at : List (List ℕ × ℕ) → ℕ → List ℕ
defined_at files line = codes "Defined at " ++ innermost files ++ codes ":" ++ decimal line ++ codes "\n"

-- what `info` tells of a name by its definition
abbrev pub info_by : List ℕ → Option (EntryValue (List ℕ)) → List ℕ
info_by name None = name ++ codes " is not defined\n"
info_by name (Some value) = defined_at value.files value.line ++ inclusions value.files ++ define_line value.text

-- what `info` tells of a name
abbrev pub info_text : List ℕ → TableOf (List ℕ) → List ℕ
info_text name table = info_by name (finite.get table name)

-- the line of a definition, if there is one
abbrev pub list_line : {P : Type 0} → Option (EntryValue P) → List ℕ
list_line None = []
list_line (Some value) = define_line value.text

-- what `list` tells: the definitions of all names, in the order of the names' bytes
abbrev pub list_text : {P : Type 0} → TableOf P → List ℕ
list_text table = flat_map (λ name. list_line (finite.get table name)) (finite.keys table)

-- a frame with the path of its file
abbrev pub named_frame : List (List ℕ) → Frame → List ℕ × ℕ
named_frame paths frame = (path_in paths frame.path, frame.line)

-- what is told of an entry
abbrev pub found_text : List (List ℕ) → Entry → List ℕ
found_text paths entry =
    defined_at (map (named_frame paths) entry.place.frames) entry.place.line ++ inclusions (map (named_frame paths) entry.place.frames) ++ define_line entry.text
