-- A unit whose files are named otherwise.
use Rattle.std.proofs.Common.{◌≡◌, ℕ, ◌+◌, ◌-◌, Bool, true, false, cond, not, eqb, ltb, ◌&&◌, List, [], ◌∷◌, map, length, take, Option, Some, None, refl, ap, ◌∙◌, sym}
use Rattle.std.proofs.lemmas.List.{drop-map, take-map, length-map, map-append}
use Rattle.std.specs.Prelude.{unwrap_or, position}
use Rattle.std.specs.Option.{option_map, option_or, option_and_then}
use Rattle.std.specs.List.{prefix_len}
use Rattle.std.specs.Str.{bytes_eq}
use Rattle.mac_base.specs.Names.{name_of}
use Rattle.macro_table.specs.Tables.{EntryValue, renamed_value}
use Rattle.mac_base.specs.Items.{Item, Define, Undef, Start, End, renamed, is_start, starts_at, ends_or_reaches, depth_behind, first_inside}
use Rattle.macro_table.specs.FileTable.{behind, levels, instance, prefix, open_behind, says, last_said, definition}

or_map : {A B : Type 0} (f : A → B) (o p : Option A) → option_or (option_map f o) (option_map f p) ≡ option_map f (option_or o p)
or_map f None p = refl
or_map f (Some x) p = refl

none_map : {A B : Type 0} (f : A → B) (o : Option (Option A)) → unwrap_or (option_map (option_map f) o) None ≡ option_map f (unwrap_or o None)
none_map f None = refl
none_map f (Some o) = refl

if_map : {A B : Type 0} (f : A → B) (t : Bool) (x : A) → cond t (Some (f x)) None ≡ option_map f (cond t (Some x) None)
if_map f true x = refl
if_map f false x = refl

module _ {P Q : Type 0} (f : P → Q) where
  start_renamed : (item : Item P) → is_start (renamed f item) ≡ is_start item
  start_renamed (Define line text) = refl
  start_renamed (Undef line name) = refl
  start_renamed (Start line path) = refl
  start_renamed End = refl

  starts_renamed : (l : ℕ) (item : Item P) → starts_at l (renamed f item) ≡ starts_at l item
  starts_renamed l (Define line text) = refl
  starts_renamed l (Undef line name) = refl
  starts_renamed l (Start line path) = refl
  starts_renamed l End = refl

  reaches_renamed : (l : ℕ) (item : Item P) → ends_or_reaches l (renamed f item) ≡ ends_or_reaches l item
  reaches_renamed l (Define line text) = refl
  reaches_renamed l (Undef line name) = refl
  reaches_renamed l (Start line path) = refl
  reaches_renamed l End = refl

  depth_renamed : (item : Item P) (depth : ℕ) → depth_behind (renamed f item) depth ≡ depth_behind item depth
  depth_renamed (Define line text) depth = refl
  depth_renamed (Undef line name) depth = refl
  depth_renamed (Start line path) depth = refl
  depth_renamed End depth = refl

  inside_renamed : (test : Item P → Bool) (other : Item Q → Bool) → ((item : Item P) → other (renamed f item) ≡ test item) → (items : List (Item P)) (depth : ℕ) → first_inside other (map (renamed f) items) depth ≡ first_inside test items depth
  inside_renamed test other same [] depth = refl
  inside_renamed test other same (item ∷ items) depth =
      λ i. cond (eqb depth 0 && same item i) (Some 0) (option_and_then (λ inner. option_map (λ n. n + 1) (inside_renamed test other same items inner i)) (depth_renamed item depth i))

  first_renamed : (items : List (Item P)) → prefix_len (λ item. not (is_start item)) (map (renamed f) items) ≡ prefix_len (λ item. not (is_start item)) items
  first_renamed [] = refl
  first_renamed (item ∷ items) = λ i. cond (not (start_renamed item i)) (1 + first_renamed items i) 0

  position_renamed : (items : List (Item P)) → position is_start (map (renamed f) items) ≡ position is_start items
  position_renamed items = λ i. cond (ltb (first_renamed items i) (length-map items (renamed f) i)) (Some (first_renamed items i)) None

  levels_renamed : (items : List (Item P)) (lines : List ℕ) (depth : ℕ) (found : Option ℕ) → levels (map (renamed f) items) lines depth found ≡ levels items lines depth found
  levels_renamed items [] depth None = refl
  levels_renamed items [] depth (Some start) = refl
  levels_renamed items (line ∷ lines) depth None = refl
  levels_renamed items (line ∷ lines) depth (Some start) =
      levels_renamed items lines (depth + 1) _
      ∙ ap (λ (found : Option ℕ). levels items lines (depth + 1) (option_map (λ n. start + 1 + n) found))
      (ap (λ (inner : List (Item Q)). first_inside (starts_at line) inner 0) (drop-map (renamed f) (start + 1) items) ∙ inside_renamed (starts_at line) (starts_at line) (starts_renamed line) (behind items start) 0)

  pub same_instance : (items : List (Item P)) (lines : List ℕ) → instance (map (renamed f) items) lines ≡ instance items lines
  same_instance items lines = levels_renamed items lines 0 _ ∙ ap (levels items lines 0) (position_renamed items)

  pub same_prefix : (items : List (Item P)) (start line : ℕ) → prefix (map (renamed f) items) start line ≡ map (renamed f) (prefix items start line)
  same_prefix items start line =
      let inner : first_inside (ends_or_reaches line) (behind (map (renamed f) items) start) 0 ≡ first_inside (ends_or_reaches line) (behind items start) 0 =
      ap (λ (inner : List (Item Q)). first_inside (ends_or_reaches line) inner 0) (drop-map (renamed f) (start + 1) items) ∙ inside_renamed (ends_or_reaches line) (ends_or_reaches line) (reaches_renamed line) (behind items start) 0 in
      let long : start + 1 + unwrap_or (first_inside (ends_or_reaches line) (behind (map (renamed f) items) start) 0) (length (map (renamed f) items)) ≡ start + 1 + unwrap_or (first_inside (ends_or_reaches line) (behind items start) 0) (length items) =
      λ i. start + 1 + unwrap_or (inner i) (length-map items (renamed f) i) in
      ap (λ n. take n (map (renamed f) items)) long ∙ take-map (renamed f) _ items

  abbrev file : P × ℕ → Q × ℕ
  file opened = (f opened.0, opened.1)

  open_renamed : (files : List (P × ℕ)) (item : Item P) → open_behind (map file files) (renamed f item) ≡ map file (open_behind files item)
  open_renamed files (Define line text) = refl
  open_renamed files (Undef line name) = refl
  open_renamed files (Start line path) = sym (map-append file files ((path, line) ∷ []))
  open_renamed files End = ap (λ n. take (n - 1) (map file files)) (length-map files file) ∙ take-map file (length files - 1) files

  says_renamed : (name : List ℕ) (files : List (P × ℕ)) (item : Item P) → says name (map file files) (renamed f item) ≡ option_map (option_map (renamed_value f)) (says name files item)
  says_renamed name files (Define line text) = if_map (option_map (renamed_value f)) (bytes_eq name (name_of text)) (Some (record { text = text; files = files; line = line }))
  says_renamed name files (Undef line other) = if_map (option_map (renamed_value f)) (bytes_eq name other) None
  says_renamed name files (Start line path) = refl
  says_renamed name files End = refl

  last_renamed : (name : List ℕ) (files : List (P × ℕ)) (items : List (Item P)) → last_said name (map file files) (map (renamed f) items) ≡ option_map (option_map (renamed_value f)) (last_said name files items)
  last_renamed name files [] = refl
  last_renamed name files (item ∷ items) =
      let later : last_said name (open_behind (map file files) (renamed f item)) (map (renamed f) items) ≡ option_map (option_map (renamed_value f)) (last_said name (open_behind files item) items) =
      ap (λ (opened : List (Q × ℕ)). last_said name opened (map (renamed f) items)) (open_renamed files item) ∙ last_renamed name (open_behind files item) items in
      (λ i. option_or (later i) (says_renamed name files item i)) ∙ or_map (option_map (renamed_value f)) (last_said name (open_behind files item) items) (says name files item)

  pub same_definition : (items : List (Item P)) (name : List ℕ) → definition (map (renamed f) items) name ≡ option_map (renamed_value f) (definition items name)
  same_definition items name = ap (λ (o : Option (Option (EntryValue Q))). unwrap_or o None) (last_renamed name [] items) ∙ none_map (renamed_value f) (last_said name [] items)
