-- Cited only by contracts of private functions. What the code keeps beside what it has recorded, and how its calls answer.
use Rattle.std.specs.Prelude.{◌≡◌, ◌⊎◌, ℕ, ◌<◌, ◌≤◌, ◌==◌, Bool, ◌&&◌, List, [], ◌∷◌, ◌++◌, length, position, Some, Result, Ok, Err}
use Rattle.std.specs.declared.cmp.Ordering.{Ordering}
use Rattle.std.specs.Ordering.{nat_cmp, ordering_then}
use Rattle.std.specs.Cmp.Lexicographic.{slice_cmp}
use Rattle.std.specs.List.{AllByRecursion, list_any, slice_index_or}
use Rattle.std.specs.FinMap as finite
use Rattle.std.specs.BTreeSet.{BTreeSet, contains}
use Rattle.mac_io.specs.declared.headers.FileId.{FileId}
use Rattle.pp_tokens.specs.Kinds.{same}
use Rattle.macro_table.specs.Tables.{TableOf}
use Rattle.mac_base.specs.Items.{Item}
use Rattle.macro_table.specs.FileTable.{table_of}
use Rattle.pp_unit.specs.declared.fault.PpKind.{PpKind}
use Rattle.pp_unit.specs.declared.fault.PpKind.TheVariants.{NoMemory}
use Rattle.pp_unit.specs.Seen.{Seen, added, text_in, texts_length, event_limit, text_limit}

-- two tables with the same texts
abbrev pub SameTexts : TableOf ℕ → TableOf ℕ → Type 0
SameTexts one other = (name : List ℕ) → text_in one name ≡ text_in other name

-- the count of bytes and the table are those of the events, which are within the limits; no path is there without an event
pub record IsSound (items : List (Item ℕ)) (files : List (List ℕ)) (text : ℕ) (kept : TableOf ℕ) : Type 0 where
  pub few : length items ≤ event_limit
  pub count : text ≡ texts_length items
  pub short : text ≤ text_limit
  pub paths : length files ≤ length items
  pub texts : SameTexts kept (table_of items)

-- the number that a map has for a path says where it comes first
abbrev pub AreNumbered : finite.FinMap (slice_cmp nat_cmp) ℕ → List (List ℕ) → Type 0
AreNumbered numbers paths = (path : List ℕ) → finite.get numbers path ≡ position (same path) paths

-- the file of a store, by the number of its name
abbrev pub file_of : List (List ℕ) → ℕ × ℕ → FileId
file_of names file = record { store = file.0; name = slice_index_or names file.1 [] }

-- the order of such pairs
abbrev pub pair_cmp : ℕ × ℕ → ℕ × ℕ → Ordering
pair_cmp a b = ordering_then (nat_cmp a.0 b.0) (nat_cmp a.1 b.1)

-- whether they are the same
abbrev pub same_pair : ℕ × ℕ → ℕ × ℕ → Bool
same_pair a b = (a.0 == b.0) && (a.1 == b.1)

-- no name is there twice, each file has one of them, and a set has the same files
pub record AreKnown (names : List (List ℕ)) (files : List (ℕ × ℕ)) (known : BTreeSet (ℕ × ℕ)) : Type 0 where
  pub different : (number : ℕ) → number < length names → position (same (slice_index_or names number [])) names ≡ Some number
  pub named : AllByRecursion (λ (file : ℕ × ℕ). file.1 < length names) files
  pub found : (file : ℕ × ℕ) → contains pair_cmp known file ≡ list_any (same_pair file) files

-- whether an event with so much text is within the limits
abbrev pub Admits : Seen → Item ℕ → Result (Unit {0}) PpKind → Type 0
Admits seen item (Ok x) = added seen item ≡ Ok (record seen { items = seen.items ++ item ∷ [] })
Admits seen item (Err kind) = added seen item ≡ Err kind

-- a call answers what the rules say, or that memory ran out
abbrev pub ComesTo : {A : Type 0} → (Result A PpKind → Type 0) → Result A PpKind → Type 0
ComesTo Rules (Ok x) = Rules (Ok x)
ComesTo Rules (Err kind) = (kind ≡ NoMemory) ⊎ Rules (Err kind)
