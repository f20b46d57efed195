-- How the events of a translation unit are split into a root and the pieces that it imports (DWARF 5, 6.3.2.3). Which entries become pieces is left to whoever writes a macro unit: this project's own rule is that runs of definitions in
-- included files do, each different run once.
use Rattle.std.specs.Prelude.{ℕ, ◌+◌, ◌-◌, ◌==◌, nat_le, Bool, true, false, ◌&&◌, if◌then◌else◌, List, [], ◌∷◌, ◌++◌, length, map, take, nat_eq, Option, None, Some, position}
use Rattle.std.specs.List.{filter, flat_map, fold, list_any}
use Rattle.std.specs.Cmp.Lexicographic.{pointwise}
use Rattle.mac_base.specs.declared.events.Event.{Event}
use Rattle.mac_base.specs.declared.events.Event.TheVariants.{Define, Undef, Start, End}
use Rattle.unit_splitter.specs.declared.root.RootEntry.{RootEntry}
use Rattle.unit_splitter.specs.declared.root.RootEntry.TheVariants.{Own, Import}
use Rattle.unit_splitter.specs.declared.pieces.Piece.{Piece}
use Rattle.unit_splitter.specs.declared.pieces.Split.{Split}

-- the most pieces of a translation unit: the project's own limit
abbrev pub piece_limit : ℕ
piece_limit = 16384

-- a definition or an undefinition
abbrev pub is_change : Event → Bool
is_change (Define line text) = true
is_change (Undef line name) = true
is_change (Start line file) = false
is_change End = false

-- How many files are open after an event, where so many were before it. An end with none open closes nothing.
abbrev pub depth_after : ℕ → Event → ℕ
depth_after depth (Define line text) = depth
depth_after depth (Undef line name) = depth
depth_after depth (Start line file) = depth + 1
depth_after depth End = depth - 1

-- how many files are open after these events, of which none is before them
abbrev pub depth_after_all : List Event → ℕ
depth_after_all events = fold depth_after 0 events

-- so many open files are the primary file and at least one that is included
abbrev pub is_included : ℕ → Bool
is_included depth = nat_le 2 depth

-- An event before parts: in the first of them where that begins with a change and the event is to be joined to it, else a part of its own.
abbrev pub before_parts : Bool → Event → List (List Event) → List (List Event)
before_parts joins event [] = (event ∷ []) ∷ []
before_parts joins event ([] ∷ parts) = (event ∷ []) ∷ [] ∷ parts
before_parts joins event ((first ∷ more) ∷ parts) = if joins && is_change first then (event ∷ first ∷ more) ∷ parts else (event ∷ []) ∷ (first ∷ more) ∷ parts

-- the parts of events, where so many files are open before them
unfoldable pub parts_from : ℕ → List Event → List (List Event)
parts_from depth [] = []
parts_from depth (event ∷ events) = before_parts (is_included depth && is_change event) event (parts_from (depth_after depth event) events)

-- The events cut into parts, between any two neighbours but changes inside one included file.
abbrev pub parts_of : List Event → List (List Event)
parts_of events = parts_from 0 events

-- a part of two or more
abbrev pub is_run : List Event → Bool
is_run part = nat_le 2 (length part)

-- whether two events are equal
abbrev pub same_event : Event → Event → Bool
same_event (Define line text) (Define other words) = line == other && pointwise nat_eq text words
same_event (Undef line name) (Undef other words) = line == other && pointwise nat_eq name words
same_event (Start line file) (Start other number) = line == other && file == number
same_event End End = true
same_event one other = false

-- whether two parts are equal
abbrev pub same_part : List Event → List Event → Bool
same_part = pointwise same_event

-- the runs that are not among those before them, each where it comes first
abbrev pub different_runs : List (List Event) → List (List Event) → List (List Event)
different_runs before [] = []
different_runs before (run ∷ runs) = if list_any (same_part run) before then different_runs before runs else run ∷ different_runs (before ++ run ∷ []) runs

-- the first pieces: the different runs in order of first use, up to the limit
abbrev pub pieces_of : List Event → List Piece
pieces_of events = take piece_limit (map (λ run. record { entries = run }) (different_runs [] (filter is_run (parts_of events))))

-- the number of the piece that a part is, where it is a run and one of the pieces
abbrev pub number_in : List Piece → List Event → Option ℕ
number_in pieces part = if is_run part then position (λ piece. same_part part piece.entries) pieces else None

-- what stands for a part in the root: the import of a piece, or its events as they are
abbrev pub entries_as : Option ℕ → List Event → List RootEntry
entries_as (Some number) part = Import number ∷ []
entries_as None part = map (λ event. Own event) part

-- The events as a root and pieces.
unfoldable pub split_of : List Event → Split
split_of events = record { root = flat_map (λ part. entries_as (number_in (pieces_of events) part) part) (parts_of events); pieces = pieces_of events }
