-- The same split from part to part: what is known of the pieces after each. Only private functions cite these.
use Rattle.std.specs.Prelude.{◌≡◌, ◌≤◌, ℕ, ◌+◌, nat_lt, nat_eq, slice_get, Bool, false, ◌&&◌, not, if◌then◌else◌, List, [], ◌∷◌, ◌++◌, length, Option, None, Some, is_some, position}
use Rattle.std.specs.List.{prefix_len}
use Rattle.std.specs.Ordering.{nat_cmp}
use Rattle.std.specs.Cmp.Lexicographic.{slice_cmp, pointwise}
use Rattle.std.specs.BTreeMap.{BTreeMap, get}
use Rattle.mac_base.specs.declared.events.Event.{Event}
use Rattle.sha2.specs.Sha256.{sha256}
use Rattle.unit_splitter.specs.declared.root.RootEntry.{RootEntry}
use Rattle.unit_splitter.specs.declared.pieces.Piece.{Piece}
use Rattle.unit_splitter.specs.Names.{spelled_plainly}
use Rattle.unit_splitter.specs.Split.{is_change, is_included, is_run, same_part, number_in, entries_as, piece_limit}

-- how many events the first part has of some events, where so many files are open before them
abbrev pub first_length : ℕ → List Event → ℕ
first_length depth [] = 0
first_length depth (event ∷ events) = if is_included depth && is_change event then 1 + prefix_len is_change events else 1

-- a run that is none of the pieces becomes one while there is room
abbrev pub grown : List Piece → List Event → List Piece
grown pieces part = if is_run part && (not (is_some (number_in pieces part)) && nat_lt (length pieces) piece_limit) then pieces ++ record { entries = part } ∷ [] else pieces

-- the pieces after parts
unfoldable pub pieces_after : List Piece → List (List Event) → List Piece
pieces_after pieces [] = pieces
pieces_after pieces (part ∷ parts) = pieces_after (grown pieces part) parts

-- the root's entries for parts
unfoldable pub entries_after : List Piece → List (List Event) → List RootEntry
entries_after pieces [] = []
entries_after pieces (part ∷ parts) = entries_as (number_in (grown pieces part) part) part ++ entries_after (grown pieces part) parts

-- the digest of a part
abbrev pub digest_of : List Event → List ℕ
digest_of part = sha256 (spelled_plainly part)

-- whether there is an element, which passes the test
abbrev pub passes : {X : Type 0} → (X → Bool) → Option X → Bool
passes test None = false
passes test (Some x) = test x

-- whether the piece of this number has these entries
abbrev pub is_same_at : List Event → List Piece → ℕ → Bool
is_same_at part pieces number = passes (λ piece. same_part part piece.entries) (slice_get pieces number)

-- the first place, or another
abbrev pub place_or : Option ℕ → Option ℕ → Option ℕ
place_or None other = other
place_or (Some place) other = Some place

-- the number of a digest that is added to a map where the map has none
abbrev pub number_noted : Option ℕ → List ℕ → ℕ → List ℕ → Option ℕ
number_noted before added number digest = place_or before (if pointwise nat_eq added digest then Some number else None)

-- there are no more pieces than may be, and the number that a map has for a digest says where the digest comes first
pub record AreKnown (numbers : BTreeMap (List ℕ) ℕ) (pieces : List Piece) : Type 0 where
  pub few : length pieces ≤ piece_limit
  pub first : (digest : List ℕ) → get (slice_cmp nat_cmp) numbers digest ≡ position (λ piece. pointwise nat_eq (digest_of piece.entries) digest) pieces
