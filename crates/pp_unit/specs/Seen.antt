-- What a walk of a translation unit has recorded so far: its events, the paths that they number, and the files that contribute once.
use Rattle.std.specs.Prelude.{ℕ, ◌+◌, ◌==◌, nat_le, nat_lt, Bool, ◌&&◌, if◌then◌else◌, List, [], ◌∷◌, ◌++◌, length, map, drop, sum_by, Option, None, Some, position, Result, Ok, Err}
use Rattle.std.specs.Option.{option_map}
use Rattle.std.specs.List.{list_any}
use Rattle.std.specs.FinMap as finite
use Rattle.mac_base.specs.declared.frames.Frame.{Frame}
use Rattle.mac_io.specs.declared.headers.FileId.{FileId}
use Rattle.pp_tokens.specs.Kinds.{same}
use Rattle.mac_base.specs.Items.{Item, Define, Undef, Start, End}
use Rattle.macro_table.specs.Tables.{EntryValue, TableOf}
use Rattle.macro_table.specs.FileTable.{table_of}
use Rattle.macro_expand.specs.Macros.{Macros, macros_of}
use Rattle.pp_unit.specs.declared.fault.PpKind.{PpKind}
use Rattle.pp_unit.specs.declared.fault.PpKind.TheVariants.{TooManyEvents, TooMuchText}

-- the most events of a translation unit: the project's own limit
abbrev pub event_limit : ℕ
event_limit = 4194304

-- the most bytes that all texts of definitions and names of `#undef` have together: the project's own limit
abbrev pub text_limit : ℕ
text_limit = 268435456

-- The events, in which files are named by the numbers of their paths; the paths, each once, in the order in which they came first; and the files that hold a `#pragma once` that was reached.
pub record Seen : Type 0 where
  pub items : List (Item ℕ)
  pub files : List (List ℕ)
  pub once : List FileId

-- the table after all events so far
abbrev pub table : Seen → TableOf ℕ
table seen = table_of seen.items

-- the text of a name in a table, where it has one
abbrev pub text_in : TableOf ℕ → List ℕ → Option (List ℕ)
text_in entries name = option_map (λ (entry : EntryValue ℕ). entry.text) (finite.get entries name)

-- what each name stands for there
abbrev pub macros : Seen → Macros
macros seen = macros_of (table seen)

-- the bytes of an event's text or name
abbrev pub text_length : Item ℕ → ℕ
text_length (Define line text) = length text
text_length (Undef line name) = length name
text_length (Start line path) = 0
text_length End = 0

-- those of all events
abbrev pub texts_length : List (Item ℕ) → ℕ
texts_length items = sum_by text_length items

-- one event more, within the limits
abbrev pub added : Seen → Item ℕ → Result Seen PpKind
added seen item =
    if nat_le event_limit (length seen.items) then Err TooManyEvents
    else (if nat_lt text_limit (texts_length seen.items + text_length item) then Err TooMuchText
    else Ok (record seen { items = seen.items ++ item ∷ [] }))

-- the paths with this one, which may be there already
abbrev pub with_path : List (List ℕ) → List ℕ → Option ℕ → List (List ℕ)
with_path files path None = files ++ path ∷ []
with_path files path (Some number) = files

-- the number of a path that is the next, if it is not there
abbrev pub number_or : ℕ → Option ℕ → ℕ
number_or next None = next
number_or next (Some number) = number

-- where a path is among the paths
abbrev pub place_of : Seen → List ℕ → Option ℕ
place_of seen path = position (same path) seen.files

-- the number of a path
abbrev pub number_of : Seen → List ℕ → ℕ
number_of seen path = number_or (length seen.files) (place_of seen path)

-- a file of this path begins, which is included in this line
abbrev pub started : Seen → ℕ → List ℕ → Result Seen PpKind
started seen line path = added (record seen { files = with_path seen.files path (place_of seen path) }) (Start line (number_of seen path))

-- the same file: that of one name in one store
abbrev pub same_file : FileId → FileId → Bool
same_file a b = (a.store == b.store) && same a.name b.name

-- whether a file contributes nothing any more
abbrev pub is_once : Seen → FileId → Bool
is_once seen id = list_any (same_file id) seen.once

-- the file contributes nothing from now on
abbrev pub with_once : Seen → FileId → Seen
with_once seen id = record seen { once = seen.once ++ id ∷ [] }

-- Before a line, or of the end of a file: the chain of the lines in which the file and those around it are included, the primary file left out; the number of the line, none at the end; and how many events there are. The table there is that of these first events.
pub record Mark : Type 0 where
  pub chain : List ℕ
  pub line : Option ℕ
  pub events : ℕ

-- what was recorded, and all marks so far
pub record Marked : Type 0 where
  pub seen : Seen
  pub marks : List Mark

-- the lines of inclusion of the open files but the outermost
abbrev pub chain_of : List Frame → List ℕ
chain_of frames = map (λ (frame : Frame). frame.line) (drop 1 frames)

-- one mark more, in this file
abbrev pub marked : List Frame → Option ℕ → Marked → Marked
marked frames line m = record m { marks = m.marks ++ record { chain = chain_of frames; line = line; events = length m.seen.items } ∷ [] }

-- the marks stay
abbrev pub with_seen : Marked → Seen → Marked
with_seen m seen = record m { seen = seen }
