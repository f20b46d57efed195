-- A unit stands for at most one list of items.
use Rattle.std.proofs.Common.{◌≡◌, ℕ, List, [], ◌∷◌, ◌++◌, Option, Result, Ok, refl, ap, subst, sym, ◌∙◌}
use Rattle.mac_base.specs.SectionBytes.{SectionBytes}
use Rattle.info_roots.specs.declared.root.Root.{Root}
use Rattle.unit_header.specs.Header.{Header}
use Rattle.macro_opcodes.specs.Entry.{Entry}
use Rattle.macro_opcodes.specs.Spells.{Spells}
use Rattle.macro_opcodes.proofs.UnitLemmas.{one_unit}
use Rattle.mac_base.specs.Items.{Item}
use Rattle.import_graph.specs.Meaning.{Lent, Meaning, Plain, Imports, Nothing, meaning}
use Rattle.import_graph.specs.Units.{unit_paths, lent_by}
use Rattle.import_graph.specs.Splice.{Splice, Spliced, Unit as Whole, None, Own, Silent, Import, RootSplice}

-- two values that one call gives are the same
pub same_ok_by : {A E : Type 0} (r : Result A E) (x y : A) → r ≡ Ok x → r ≡ Ok y → x ≡ y
same_ok_by r x y one other = cc

-- what the parts of a unit's splice are
pub record Parts (s : SectionBytes) (lent : Lent) (at : ℕ) (items : List (Item (List ℕ))) : Type 0 where
  pub h : Header
  pub entries : List Entry
  pub end : ℕ
  pub paths : Option (List (List ℕ))
  pub spells : Spells s.macros at h entries end
  pub has_paths : unit_paths s lent at h.line ≡ Ok paths
  pub spliced : Spliced s lent paths entries items

parts_of : (s : SectionBytes) (lent : Lent) (at : ℕ) (items : List (Item (List ℕ))) → Splice s lent at items → Parts s lent at items
parts_of s lent _ _ (Whole at h entries end paths items spells has spliced) = record { h = h; entries = entries; end = end; paths = paths; spells = spells; has_paths = has; spliced = spliced }

-- what the first entry of a list makes of its items
abbrev pub FirstSays : SectionBytes → Lent → Option (List (List ℕ)) → Entry → List Entry → List (Item (List ℕ)) → Meaning → Type 0
FirstSays s lent paths e es items (Plain item) = (back : List (Item (List ℕ))) × (items ≡ item ∷ back) × Spliced s lent paths es back
FirstSays s lent paths e es items Nothing = Spliced s lent paths es items
FirstSays s lent paths e es items (Imports target) = (front back : List (Item (List ℕ))) × (items ≡ front ++ back) × Splice s lent target front × Spliced s lent paths es back

-- the items of no entries are none
none_spliced : (s : SectionBytes) (lent : Lent) (paths : Option (List (List ℕ))) (items : List (Item (List ℕ))) → Spliced s lent paths [] items → items ≡ []
none_spliced s lent _ _ (None paths) = refl

first_spliced : (s : SectionBytes) (lent : Lent) (paths : Option (List (List ℕ))) (e : Entry) (es : List Entry) (items : List (Item (List ℕ))) → Spliced s lent paths (e ∷ es) items → (m : Meaning) × (meaning s lent paths e ≡ Ok m) × FirstSays s lent paths e es items m
first_spliced s lent _ _ _ _ (Own paths e es item back says rest) = (Plain item, says, (back, refl, rest))
first_spliced s lent _ _ _ _ (Silent paths e es items says rest) = (Nothing, says, rest)
first_spliced s lent _ _ _ _ (Import paths e es target front back says splice rest) = (Imports target, says, (front, back, refl, splice, rest))

first_by : (s : SectionBytes) (lent : Lent) (paths : Option (List (List ℕ))) (e : Entry) (es : List Entry) (items : List (Item (List ℕ))) (m : Meaning) → meaning s lent paths e ≡ Ok m → Spliced s lent paths (e ∷ es) items → FirstSays s lent paths e es items m
first_by s lent paths e es items m says is =
    let found = first_spliced s lent paths e es items is in
    subst (λ (n : Meaning). FirstSays s lent paths e es items n) (same_ok_by (meaning s lent paths e) found.0 m found.1 says) found.2

-- the other unit at the same offset has the same entries and the same paths
other_entries : (s : SectionBytes) (lent : Lent) (at : ℕ) (items : List (Item (List ℕ))) (h : Header) (entries : List Entry) (end : ℕ) (paths : Option (List (List ℕ))) → Spells s.macros at h entries end → unit_paths s lent at h.line ≡ Ok paths →
    Parts s lent at items → Spliced s lent paths entries items
other_entries s lent at items h entries end paths spells has other =
    let one = one_unit s.macros at h other.h entries other.entries end other.end spells other.spells in
    let same : paths ≡ other.paths = same_ok_by (unit_paths s lent at other.h.line) paths other.paths (subst (λ (k : Header). unit_paths s lent at k.line ≡ Ok paths) one.0 has) other.has_paths in
    subst (λ (ps : Option (List (List ℕ))). Spliced s lent ps entries items) (sym same) (subst (λ (es : List Entry). Spliced s lent other.paths es items) (sym one.1) other.spliced)

mutual
  pub one_splice : (s : SectionBytes) (lent : Lent) (at : ℕ) (items others : List (Item (List ℕ))) → Splice s lent at items → Splice s lent at others → items ≡ others
  one_splice s lent _ _ others (Whole at h entries end paths items spells has spliced) other =
      one_spliced s lent paths entries items others spliced (other_entries s lent at others h entries end paths spells has (parts_of s lent at others other))

  one_spliced : (s : SectionBytes) (lent : Lent) (paths : Option (List (List ℕ))) (entries : List Entry) (items others : List (Item (List ℕ))) → Spliced s lent paths entries items → Spliced s lent paths entries others → items ≡ others
  one_spliced s lent _ _ _ others (None paths) other = sym (none_spliced s lent paths others other)
  one_spliced s lent _ _ _ others (Own paths e es item back says rest) other =
      let found = first_by s lent paths e es others (Plain item) says other in
      ap (λ (xs : List (Item (List ℕ))). item ∷ xs) (one_spliced s lent paths es back found.0 rest found.2) ∙ sym found.1
  one_spliced s lent _ _ _ others (Silent paths e es items says rest) other =
      one_spliced s lent paths es items others rest (first_by s lent paths e es others Nothing says other)
  one_spliced s lent _ _ _ others (Import paths e es target front back says splice rest) other =
      let found = first_by s lent paths e es others (Imports target) says other in
      ap (λ (xs : List (Item (List ℕ))). xs ++ back) (one_splice s lent target front found.0 splice found.3)
      ∙ ap (λ (xs : List (Item (List ℕ))). found.0 ++ xs) (one_spliced s lent paths es back found.1 rest found.4) ∙ sym found.2

pub one_root_splice : (s : SectionBytes) (root : Root) (items others : List (Item (List ℕ))) → RootSplice s root items → RootSplice s root others → items ≡ others
one_root_splice s root items others one other =
    let same : other.0 ≡ one.0 = same_ok_by (lent_by s root) other.0 one.0 other.1 one.1 in
    one_splice s one.0 root.macros items others one.2 (subst (λ (l : Lent). Splice s l root.macros others) same other.2)
