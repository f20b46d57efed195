-- A unit's splice grows at its end, entry by entry.
use Rattle.std.proofs.Common.{◌≡◌, ℕ, List, [], ◌∷◌, ◌++◌, Option, Ok, refl, sym, subst, append_assoc, append-nil}
use Rattle.mac_base.specs.SectionBytes.{SectionBytes}
use Rattle.macro_opcodes.specs.Entry.{Entry}
use Rattle.mac_base.specs.Items.{Item}
use Rattle.import_graph.specs.Meaning.{Lent, Plain, Imports, Nothing, meaning}
use Rattle.import_graph.specs.Progress.{Begins}
use Rattle.import_graph.specs.Splice.{Splice, Spliced, None, Own, Silent, Import}

moved : (s : SectionBytes) (lent : Lent) (paths : Option (List (List ℕ))) (es fs : List Entry) (items others : List (Item (List ℕ))) → es ≡ fs → items ≡ others → Spliced s lent paths es items → Spliced s lent paths fs others
moved s lent paths es fs items others same alike is =
    subst (λ (xs : List Entry). Spliced s lent paths xs others) same (subst (λ (xs : List (Item (List ℕ))). Spliced s lent paths es xs) alike is)

pub begins_none : (s : SectionBytes) (lent : Lent) (paths : Option (List (List ℕ))) → Begins s lent paths [] []
begins_none s lent paths es back is = is

pub begins_own : (s : SectionBytes) (lent : Lent) (paths : Option (List (List ℕ))) (entries : List Entry) (items : List (Item (List ℕ))) (e : Entry) (item : Item (List ℕ)) →
    Begins s lent paths entries items → meaning s lent paths e ≡ Ok (Plain item) → Begins s lent paths (entries ++ e ∷ []) (items ++ item ∷ [])
begins_own s lent paths entries items e item begins says es back is =
    moved s lent paths (entries ++ e ∷ es) ((entries ++ e ∷ []) ++ es) (items ++ item ∷ back) ((items ++ item ∷ []) ++ back) (sym (append_assoc entries (e ∷ []) es)) (sym (append_assoc items (item ∷ []) back))
    (begins (e ∷ es) (item ∷ back) (Own paths e es item back says is))

pub begins_silent : (s : SectionBytes) (lent : Lent) (paths : Option (List (List ℕ))) (entries : List Entry) (items : List (Item (List ℕ))) (e : Entry) →
    Begins s lent paths entries items → meaning s lent paths e ≡ Ok Nothing → Begins s lent paths (entries ++ e ∷ []) items
begins_silent s lent paths entries items e begins says es back is =
    moved s lent paths (entries ++ e ∷ es) ((entries ++ e ∷ []) ++ es) (items ++ back) (items ++ back) (sym (append_assoc entries (e ∷ []) es)) refl
    (begins (e ∷ es) back (Silent paths e es back says is))

pub begins_import : (s : SectionBytes) (lent : Lent) (paths : Option (List (List ℕ))) (entries : List Entry) (items : List (Item (List ℕ))) (e : Entry) (target : ℕ) (front : List (Item (List ℕ))) →
    Begins s lent paths entries items → meaning s lent paths e ≡ Ok (Imports target) → Splice s lent target front → Begins s lent paths (entries ++ e ∷ []) (items ++ front)
begins_import s lent paths entries items e target front begins says splice es back is =
    moved s lent paths (entries ++ e ∷ es) ((entries ++ e ∷ []) ++ es) (items ++ (front ++ back)) ((items ++ front) ++ back) (sym (append_assoc entries (e ∷ []) es)) (sym (append_assoc items front back))
    (begins (e ∷ es) (front ++ back) (Import paths e es target front back says splice is))

-- all entries of a unit
pub begins_all : (s : SectionBytes) (lent : Lent) (paths : Option (List (List ℕ))) (entries : List Entry) (items : List (Item (List ℕ))) → Begins s lent paths entries items → Spliced s lent paths entries items
begins_all s lent paths entries items begins =
    moved s lent paths (entries ++ []) entries (items ++ []) items (append-nil entries) (append-nil items) (begins [] [] (None paths))
