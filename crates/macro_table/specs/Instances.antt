-- Which entries are directly in an instance of a file, by the files that are open (DWARF 5, 6.3.2.3): `first_inside`, which counts depths, finds the first of them.
use Rattle.std.specs.Prelude.{◌≡◌, ◌<◌, ◌↔◌, ℕ, Bool, true, false, List, [], ◌∷◌, ◌++◌, length, take, Some}
use Rattle.mac_base.specs.Items.{Item, Start, first_inside}
use Rattle.macro_table.specs.FileTable.{open_behind}

-- the files that are open after more entries
abbrev pub open_after : {P : Type 0} → List (P × ℕ) → List (Item P) → List (P × ℕ)
open_after files [] = files
open_after files (item ∷ items) = open_after (open_behind files item) items

-- the files that are open after these entries of a unit
abbrev pub open_files : {P : Type 0} → List (Item P) → List (P × ℕ)
open_files items = open_after [] items

-- The entries `begun` end with the one that begins an instance, and entries `before` follow: the entry after these is directly in the instance. The files that are open at it are those right after the start, and each of these was open all the time since.
pub record IsDirectlyIn {P : Type 0} (begun before : List (Item P)) : Type 0 where
  pub same : open_files (begun ++ before) ≡ open_files begun
  pub kept : (n : ℕ) → take (length (open_files begun)) (open_files (begun ++ take n before)) ≡ open_files begun

-- Of the entries after the one that begins an instance, `first_inside` gives the first one directly in the instance that passes the test, if there is one.
pub record FirstInsideIsFirst (P : Type 0) : Type 0 where
  pub exactly : (front : List (Item P)) (line : ℕ) (path : P) (test : Item P → Bool) (before : List (Item P)) (item : Item P) (after : List (Item P)) →
      (first_inside test (before ++ item ∷ after) 0 ≡ Some (length before))
      ↔ (IsDirectlyIn (front ++ Start line path ∷ []) before × (test item ≡ true)
      × ((earlier : List (Item P)) (other : Item P) (later : List (Item P)) → before ≡ earlier ++ other ∷ later → IsDirectlyIn (front ++ Start line path ∷ []) earlier → test other ≡ false))
  pub within : (test : Item P → Bool) (items : List (Item P)) (n : ℕ) → first_inside test items 0 ≡ Some n → n < length items
