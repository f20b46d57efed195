-- What holds of every split: it gives the events back, its pieces are different runs, which are as long as can be, and imports name them.
use Rattle.std.specs.Prelude.{◌≡◌, ℕ, ◌<◌, ◌≤◌, Bool, true, ◌&&◌, List, [], ◌∷◌, ◌++◌, length, slice_get, Option, None, Some}
use Rattle.std.specs.Bool.{MatchBool}
use Rattle.std.specs.List.{flat_map, AllByRecursion, IsDistinct}
use Rattle.mac_base.specs.declared.events.Event.{Event}
use Rattle.unit_splitter.specs.declared.root.RootEntry.{RootEntry}
use Rattle.unit_splitter.specs.declared.root.RootEntry.TheVariants.{Own, Import}
use Rattle.unit_splitter.specs.declared.pieces.Piece.{Piece}
use Rattle.unit_splitter.specs.Split.{split_of, is_change, is_included, depth_after_all, parts_of, same_part, piece_limit}

-- the entries of a piece, which are none where there is no such piece
abbrev pub entries_of : Option Piece → List Event
entries_of None = []
entries_of (Some piece) = piece.entries

-- the events that an entry of the root stands for: itself, or those of the piece that it imports
abbrev pub events_of : List Piece → RootEntry → List Event
events_of pieces (Own event) = event ∷ []
events_of pieces (Import number) = entries_of (slice_get pieces number)

-- with each import replaced by its piece the root is the list of events
abbrev pub GivesEventsBack : Type 0
GivesEventsBack = (events : List Event) → flat_map (events_of (split_of events).pieces) (split_of events).root ≡ events

-- a run: two or more definitions and undefinitions
pub record IsRunOfChanges (piece : Piece) : Type 0 where
  pub long : 2 ≤ length piece.entries
  pub changes : AllByRecursion (λ event. is_change event ≡ true) piece.entries

-- what is imported is there
abbrev pub IsThere : ℕ → RootEntry → Type 0
IsThere count (Own event) = Unit {0}
IsThere count (Import number) = number < count

-- Pieces are runs, not too many, and no two are equal; imports name them.
pub record IsWellMade (events : List Event) : Type 0 where
  pub few : length (split_of events).pieces ≤ piece_limit
  pub runs : AllByRecursion IsRunOfChanges (split_of events).pieces
  pub different : IsDistinct (λ one other. same_part other.entries one.entries) (split_of events).pieces
  pub imports : AllByRecursion (IsThere (length (split_of events).pieces)) (split_of events).root

-- so is every split
abbrev pub SplitsAreWellMade : Type 0
SplitsAreWellMade = (events : List Event) → IsWellMade events

-- parts, one after another
abbrev pub together : List (List Event) → List Event
together parts = flat_map (λ (part : List Event). part) parts

-- the stated events before and after two neighbours, by the part of the first: the parts before that, what it has before the neighbour, and the parts after that of the second, with what that has after it
pub record HasRound (front back : List Event) (before : List (List Event)) (left right : List Event) (after : List (List Event)) : Type 0 where
  pub front_is : front ≡ together before ++ left
  pub back_is : back ≡ right ++ together after

-- two neighbours are in one part
pub record AreInOnePart (front : List Event) (one other : Event) (back : List Event) (parts : List (List Event)) : Type 0 where
  pub before : List (List Event)
  pub left : List Event
  pub right : List Event
  pub after : List (List Event)
  pub round : HasRound front back before left right after
  pub parts_are : parts ≡ before ++ (left ++ one ∷ other ∷ right) ∷ after

-- a part ends between two neighbours
pub record ArePartedBetween (front : List Event) (one other : Event) (back : List Event) (parts : List (List Event)) : Type 0 where
  pub before : List (List Event)
  pub left : List Event
  pub right : List Event
  pub after : List (List Event)
  pub round : HasRound front back before left right after
  pub parts_are : parts ≡ before ++ (left ++ one ∷ []) ∷ (other ∷ right) ∷ after

-- whether two neighbours after these events are to be in one part: both are changes, inside an included file
abbrev pub belong : List Event → Event → Event → Bool
belong front one other = (is_included (depth_after_all front) && is_change one) && is_change other

-- Parts, and so runs, are as long as can be: two neighbours are in one part exactly where both are changes inside an included file.
abbrev pub PartsAreLongest : Type 0
PartsAreLongest = (front back : List Event) (one other : Event) → MatchBool (belong front one other) (AreInOnePart front one other back (parts_of (front ++ one ∷ other ∷ back))) (ArePartedBetween front one other back (parts_of (front ++ one ∷ other ∷ back)))
