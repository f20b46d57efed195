-- A table that is made entry by entry has the last word on each name.
use Rattle.std.proofs.Common.{◌≡◌, ℕ, Bool, true, false, cond, List, [], ◌∷◌, Option, Some, None, refl, ap, ◌∙◌}
use Rattle.std.specs.Prelude.{unwrap_or}
use Rattle.std.specs.Option.{option_or}
use Rattle.std.proofs.lemmas.Map.Text.{is_eq-slice_cmp}
use Rattle.std.specs.Str.{bytes_eq}
use Rattle.std.specs.Ordering.{nat_cmp}
use Rattle.std.specs.Cmp.Lexicographic.{slice_cmp, nat_list_cmp_total}
use Rattle.std.specs.FinMap as finite
use Rattle.mac_base.specs.Names.{name_of}
use Rattle.macro_table.specs.Tables.{EntryValue, TableOf}
use Rattle.mac_base.specs.Items.{Item, Define, Undef, Start, End}
use Rattle.macro_table.specs.FileTable.{open_behind, says, last_said, definition, changed, table_behind, table_of}

module _ {P : Type 0} where
  -- what is said later counts, and else what was before
  later_word : (a b : Option (Option (EntryValue P))) (before : Option (EntryValue P)) → unwrap_or a (unwrap_or b before) ≡ unwrap_or (option_or a b) before
  later_word None b before = refl
  later_word (Some a) b before = refl

  said_if : (t : Bool) (word before : Option (EntryValue P)) → cond t word before ≡ unwrap_or (cond t (Some word) None) before
  said_if true word before = refl
  said_if false word before = refl

  one_word : (files : List (P × ℕ)) (table : TableOf P) (item : Item P) (name : List ℕ) → finite.get (changed files table item) name ≡ unwrap_or (says name files item) (finite.get table name)
  one_word files table (Define line text) name =
      finite.get-insert nat_list_cmp_total table (name_of text) (record { text = text; files = files; line = line }) name
      ∙ ap (λ t. cond t (Some (record { text = text; files = files; line = line })) (finite.get table name)) (is_eq-slice_cmp name (name_of text))
      ∙ said_if (bytes_eq name (name_of text)) (Some (record { text = text; files = files; line = line })) (finite.get table name)
  one_word files table (Undef line other) name =
      finite.get-remove nat_list_cmp_total table other name
      ∙ ap (λ t. cond t None (finite.get table name)) (is_eq-slice_cmp name other)
      ∙ said_if (bytes_eq name other) None (finite.get table name)
  one_word files table (Start line path) name = refl
  one_word files table End name = refl

  last_word : (items : List (Item P)) (files : List (P × ℕ)) (table : TableOf P) (name : List ℕ) → finite.get (table_behind files table items) name ≡ unwrap_or (last_said name files items) (finite.get table name)
  last_word [] files table name = refl
  last_word (item ∷ items) files table name =
      last_word items (open_behind files item) (changed files table item) name
      ∙ ap (unwrap_or (last_said name (open_behind files item) items)) (one_word files table item name)
      ∙ later_word (last_said name (open_behind files item) items) (says name files item) (finite.get table name)

pub table_has_last_word : {P : Type 0} → (items : List (Item P)) (name : List ℕ) → finite.get (table_of items) name ≡ definition items name
table_has_last_word items name = last_word items [] finite.empty name ∙ ap (unwrap_or (last_said name [] items)) (finite.get-empty (slice_cmp nat_cmp) name)
