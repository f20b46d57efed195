-- A table whose files are named by their paths has the same names, each with the same definition but for the names of its files.
use Rattle.std.proofs.Common.{Ordering, ◌≡◌, ℕ, Bool, true, false, cond, T, ◌&&◌, List, [], ◌∷◌, map, Option, Some, refl, ap, subst, ◌∙◌, sym}
use Rattle.std.specs.Option.{option_map}
use Rattle.std.specs.Ordering.{nat_cmp, is_lt, eq_by_cmp}
use Rattle.std.specs.Cmp.Lexicographic.{slice_cmp, nat_list_cmp_total}
use Rattle.std.specs.FinMap as finite
use Rattle.std.specs.FinMap.Entries.{below_all}
use Rattle.mac_base.specs.Items.{Item}
use Rattle.macro_table.specs.Tables.{renamed_value}
use Rattle.macro_table.specs.FileTable.{prefix, table_of}
use Rattle.macro_table.proofs.FileTableLemmas.{table_has_last_word}
use Rattle.macro_table.proofs.RenamedLemmas.{same_prefix, same_definition}
use Rattle.mac_base.specs.ItemLines.{path_in}
use Rattle.import_graph.specs.Graph.{named}
use Rattle.macro_query.specs.Scopes.{IsNamed}

abbrev order : List ℕ → List ℕ → Ordering
order = slice_cmp nat_cmp

module _ {X Y : Type 0} (f : X → Y) where
  abbrev entry : List ℕ × X → List ℕ × Y
  entry e = (e.0, f e.1)

  below_same : (x : List ℕ) (es : List (List ℕ × X)) → below_all order x (map entry es) ≡ below_all order x es
  below_same x [] = refl
  below_same x (e ∷ es) = ap (λ b. is_lt (order x e.0) && b) (below_same x es)

  sorted_same : (es : List (List ℕ × X)) → finite.is_sorted order (map entry es) ≡ finite.is_sorted order es
  sorted_same [] = refl
  sorted_same (e ∷ es) = λ i. below_same e.0 es i && sorted_same es i

  find_same : (q : List ℕ) (es : List (List ℕ × X)) → finite.find order q (map entry es) ≡ option_map f (finite.find order q es)
  find_same q [] = refl
  find_same q (e ∷ es) = ap (cond (eq_by_cmp order q e.0) (Some (f e.1))) (find_same q es) ∙ if_map (eq_by_cmp order q e.0) e.1 (finite.find order q es)
    where
      if_map : (t : Bool) (x : X) (o : Option X) → cond t (Some (f x)) (option_map f o) ≡ option_map f (cond t (Some x) o)
      if_map true x o = refl
      if_map false x o = refl

  keys_of_entries : (es : List (List ℕ × X)) → map (λ (e : List ℕ × Y). e.0) (map entry es) ≡ map (λ (e : List ℕ × X). e.0) es
  keys_of_entries [] = refl
  keys_of_entries (e ∷ es) = ap (λ ks. e.0 ∷ ks) (keys_of_entries es)

  -- two maps that answer alike, seen by f, have the same keys
  pub same_keys : (m : finite.FinMap order X) (n : finite.FinMap order Y) → ((q : List ℕ) → finite.get n q ≡ option_map f (finite.get m q)) → finite.keys n ≡ finite.keys m
  same_keys m n alike =
      let es = finite.entries m in
      let sorted : T (finite.is_sorted order (map entry es)) = subst T (sym (sorted_same es)) (finite.entries_sorted m) in
      let same : n ≡ finite.from_sorted (map entry es) = finite.same_map nat_list_cmp_total (finite.slice_cmp-IsAntisymmetric finite.nat_cmp-IsAntisymmetric) n (finite.from_sorted (map entry es)) (λ q.
      alike q ∙ ap (option_map f) (finite.get-entries m q) ∙ sym (find_same q es) ∙ sym (finite.get-from_sorted order (map entry es) q sorted)) in
      ap (λ (k : finite.FinMap order Y). map (λ (e : List ℕ × Y). e.0) (finite.entries k)) same ∙ ap (map (λ (e : List ℕ × Y). e.0)) (finite.entries-from_sorted order (map entry es) sorted) ∙ keys_of_entries es

pub is_named : (paths : List (List ℕ)) (items : List (Item ℕ)) → IsNamed paths (table_of items) (table_of (named paths items))
is_named paths items =
    let f = renamed_value (path_in paths) in
    let alike : (q : List ℕ) → finite.get (table_of (named paths items)) q ≡ option_map f (finite.get (table_of items) q) =
    λ q. table_has_last_word (named paths items) q ∙ same_definition (path_in paths) items q ∙ ap (option_map f) (sym (table_has_last_word items q)) in
    (same_keys f (table_of items) (table_of (named paths items)) alike, alike)

-- the same of the table at a line
pub is_named_at : (paths : List (List ℕ)) (items : List (Item ℕ)) (start line : ℕ) → IsNamed paths (table_of (prefix items start line)) (table_of (prefix (named paths items) start line))
is_named_at paths items start line =
    subst (λ (front : List (Item (List ℕ))). IsNamed paths (table_of (prefix items start line)) (table_of front)) (sym (same_prefix (path_in paths) items start line)) (is_named paths (prefix items start line))
