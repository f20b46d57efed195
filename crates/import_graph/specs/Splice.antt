-- The macro information of a root as one plain list: an import stands for the entries of the unit at its offset, without the byte 0 that closes it (DWARF 5, 6.3.2).
use Rattle.std.specs.Prelude.{◌≡◌, ℕ, List, [], ◌∷◌, ◌++◌, Option, Ok}
use Rattle.mac_base.specs.SectionBytes.{SectionBytes}
use Rattle.info_roots.specs.declared.root.Root.{Root}
use Rattle.unit_header.specs.Header.{Header}
use Rattle.macro_opcodes.specs.Entry.{Entry}
use Rattle.macro_opcodes.specs.Spells.{Spells}
use Rattle.mac_base.specs.Items.{Item}
use Rattle.import_graph.specs.Meaning.{Lent, Plain, Imports, Nothing, meaning}
use Rattle.import_graph.specs.Units.{unit_paths, lent_by}

-- A derivation of either is finite, so a unit that imports itself, or is imported by one that it imports, has no splice.
mutual
  -- the unit that the bytes from this offset on spell stands for these items
  pub data Splice (s : SectionBytes) (lent : Lent) : ℕ → List (Item (List ℕ)) → Type 0 where
    Unit : (at : ℕ) (h : Header) (entries : List Entry) (end : ℕ) (paths : Option (List (List ℕ))) (items : List (Item (List ℕ))) →
        Spells s.macros at h entries end → unit_paths s lent at h.line ≡ Ok paths → Spliced s lent paths entries items → Splice s lent at items

  -- these entries, in a unit whose files are indexes into these paths, stand for these items
  pub data Spliced (s : SectionBytes) (lent : Lent) : Option (List (List ℕ)) → List Entry → List (Item (List ℕ)) → Type 0 where
    -- there are none
    None : (paths : Option (List (List ℕ))) → Spliced s lent paths [] []
    -- the first says an item itself
    Own : (paths : Option (List (List ℕ))) (e : Entry) (es : List Entry) (item : Item (List ℕ)) (items : List (Item (List ℕ))) →
        meaning s lent paths e ≡ Ok (Plain item) → Spliced s lent paths es items → Spliced s lent paths (e ∷ es) (item ∷ items)
    -- the first says nothing
    Silent : (paths : Option (List (List ℕ))) (e : Entry) (es : List Entry) (items : List (Item (List ℕ))) →
        meaning s lent paths e ≡ Ok Nothing → Spliced s lent paths es items → Spliced s lent paths (e ∷ es) items
    -- the first is an import, in whose place all items of the other unit stand
    Import : (paths : Option (List (List ℕ))) (e : Entry) (es : List Entry) (target : ℕ) (front back : List (Item (List ℕ))) →
        meaning s lent paths e ≡ Ok (Imports target) → Splice s lent target front → Spliced s lent paths es back → Spliced s lent paths (e ∷ es) (front ++ back)

-- the root's unit stands for these items
abbrev pub RootSplice : SectionBytes → Root → List (Item (List ℕ)) → Type 0
RootSplice s root items = (lent : Lent) × (lent_by s root ≡ Ok lent) × Splice s lent root.macros items
