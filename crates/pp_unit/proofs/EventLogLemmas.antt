-- What is kept beside the events stays right when one is added.
use Rattle.std.proofs.Common.{◌≡◌, ℕ, ◌+◌, ◌≤◌, List, [], ◌∷◌, ◌++◌, length, map, Option, Some, None, cond, Bool, true, false, refl, ap, sym, ◌∙◌, subst, arith, ◌<◌, add-zero, is_some, ◌||◌}
use Rattle.std.specs.Option.{option_map}
use Rattle.std.proofs.lemmas.List.{map-append, length-append}
use Rattle.std.proofs.lemmas.List.Sums.{sum_by-append}
use Rattle.std.specs.Ordering.{nat_cmp, eq_by_cmp}
use Rattle.std.specs.Cmp.Lexicographic.{slice_cmp, nat_list_cmp_total}
use Rattle.std.specs.FinMap as finite
use Rattle.mac_base.specs.Names.{name_of}
use Rattle.macro_table.specs.Tables.{EntryValue, TableOf}
use Rattle.mac_base.specs.Items.{Item, Define, Undef, Start, End}
use Rattle.macro_table.specs.FileTable.{table_of, table_behind, changed, open_behind}
use Rattle.mac_base.specs.declared.events.Event.{Event}
use Rattle.mac_base.specs.declared.events.Event.TheVariants.{Define as HeldDefine, Undef as HeldUndef, Start as HeldStart, End as HeldEnd}
use Rattle.mac_io.specs.declared.headers.FileId.{FileId}
use Rattle.pp_unit.specs.Seen.{Seen, with_path, text_in, text_length, texts_length, event_limit, text_limit}
use Rattle.mac_base.specs.ItemLines.{item_of}
use Rattle.pp_unit.specs.TableChanges.{files_open}
use Rattle.pp_unit.specs.Recorded.{SameTexts, IsSound}
use Rattle.macro_table.specs.Definitions.{DefValue}
use Rattle.macro_table.specs.Texts.{def_of_text}
use Rattle.macro_expand.specs.Macros.{macros_of, sound_def}
use Rattle.pp_directives.specs.Defined.{is_defined, is_built_in}

text_of : EntryValue ℕ → List ℕ
text_of entry = entry.text

-- the table after one item more, from any table
more_behind : (files : List (ℕ × ℕ)) (table : TableOf ℕ) (items : List (Item ℕ)) (item : Item ℕ)
    → table_behind files table (items ++ item ∷ []) ≡ changed (files_open files items) (table_behind files table items) item
more_behind files table [] item = refl
more_behind files table (first ∷ items) item = more_behind (open_behind files first) (changed files table first) items item

-- the table of one item more
pub table_more : (items : List (Item ℕ)) (item : Item ℕ) → table_of (items ++ item ∷ []) ≡ changed (files_open [] items) (table_of items) item
table_more items item = more_behind [] finite.empty items item

map_cond : {A B : Type 0} (f : A → B) (t : Bool) (x y : Option A) → option_map f (cond t x y) ≡ cond t (option_map f x) (option_map f y)
map_cond f true x y = refl
map_cond f false x y = refl

-- the text of a name in a table with one entry more
text_in-insert : (table : TableOf ℕ) (k : List ℕ) (v : EntryValue ℕ) (name : List ℕ)
    → text_in (finite.insert table k v) name ≡ cond (eq_by_cmp (slice_cmp nat_cmp) name k) (Some v.text) (text_in table name)
text_in-insert table k v name =
    ap (option_map (λ (entry : EntryValue ℕ). entry.text)) (finite.get-insert nat_list_cmp_total table k v name)
    ∙ map_cond (λ (entry : EntryValue ℕ). entry.text) (eq_by_cmp (slice_cmp nat_cmp) name k) (Some v) (finite.get table name)

-- the same with one entry less
text_in-remove : (table : TableOf ℕ) (k name : List ℕ)
    → text_in (finite.remove table k) name ≡ cond (eq_by_cmp (slice_cmp nat_cmp) name k) None (text_in table name)
text_in-remove table k name =
    ap (option_map (λ (entry : EntryValue ℕ). entry.text)) (finite.get-remove nat_list_cmp_total table k name)
    ∙ map_cond (λ (entry : EntryValue ℕ). entry.text) (eq_by_cmp (slice_cmp nat_cmp) name k) None (finite.get table name)

both_insert : (one other : TableOf ℕ) (k text : List ℕ) (v w : EntryValue ℕ) → v.text ≡ w.text → SameTexts one other → SameTexts (finite.insert one k v) (finite.insert other k w)
both_insert one other k text v w is are name =
    text_in-insert one k v name
    ∙ ap (λ t. cond (eq_by_cmp (slice_cmp nat_cmp) name k) (Some t) (text_in one name)) is
    ∙ ap (cond (eq_by_cmp (slice_cmp nat_cmp) name k) (Some w.text)) (are name)
    ∙ sym (text_in-insert other k w name)

both_remove : (one other : TableOf ℕ) (k : List ℕ) → SameTexts one other → SameTexts (finite.remove one k) (finite.remove other k)
both_remove one other k are name =
    text_in-remove one k name ∙ ap (cond (eq_by_cmp (slice_cmp nat_cmp) name k) None) (are name) ∙ sym (text_in-remove other k name)

-- a definition more
pub texts_defined : (kept : TableOf ℕ) (items : List (Item ℕ)) (line : ℕ) (text : List ℕ) (files : List (ℕ × ℕ)) (at : ℕ) → SameTexts kept (table_of items)
    → SameTexts (finite.insert kept (name_of text) (record { text = text; files = files; line = at })) (table_of (items ++ Define line text ∷ []))
texts_defined kept items line text files at are =
    subst (SameTexts (finite.insert kept (name_of text) (record { text = text; files = files; line = at }))) (sym (table_more items (Define line text)))
    (both_insert kept (table_of items) (name_of text) text _ _ refl are)

-- an `#undef` more
pub texts_undefined : (kept : TableOf ℕ) (items : List (Item ℕ)) (line : ℕ) (name : List ℕ) → SameTexts kept (table_of items)
    → SameTexts (finite.remove kept name) (table_of (items ++ Undef line name ∷ []))
texts_undefined kept items line name are =
    subst (SameTexts (finite.remove kept name)) (sym (table_more items (Undef line name))) (both_remove kept (table_of items) name are)

-- the start of a file more
pub texts_started : (kept : TableOf ℕ) (items : List (Item ℕ)) (line path : ℕ) → SameTexts kept (table_of items) → SameTexts kept (table_of (items ++ Start line path ∷ []))
texts_started kept items line path are = subst (SameTexts kept) (sym (table_more items (Start line path))) are

-- the end of a file more
pub texts_ended : (kept : TableOf ℕ) (items : List (Item ℕ)) → SameTexts kept (table_of items) → SameTexts kept (table_of (items ++ End ∷ []))
texts_ended kept items are = subst (SameTexts kept) (sym (table_more items End)) are

-- all that is kept, after an event more
pub sound_more : (list new : List Event) (event : Event) (files more : List (List ℕ)) (text bytes : ℕ) (kept next : TableOf ℕ) →
    new ≡ list ++ event ∷ [] → IsSound (map item_of list) files text kept → length (map item_of list) < event_limit →
    bytes ≡ text_length (item_of event) → texts_length (map item_of list) + bytes ≤ text_limit → length more ≤ length files + 1 →
    SameTexts next (table_of (map item_of list ++ item_of event ∷ [])) → IsSound (map item_of new) more (text + bytes) next
sound_more list new event files more text bytes kept next is sound few long fits paths texts =
    let whole : map item_of new ≡ map item_of list ++ item_of event ∷ [] = ap (map item_of) is ∙ map-append item_of list (event ∷ []) in
    let one_more : length (map item_of new) ≡ length (map item_of list) + 1 = ap length whole ∙ length-append (map item_of list) (item_of event ∷ []) in
    let sum : texts_length (map item_of new) ≡ texts_length (map item_of list) + (0 + text_length (item_of event)) = ap texts_length whole ∙ sum_by-append text_length (map item_of list) (item_of event ∷ []) in
    record {
      few = omega (arith, sound.few);
      count = omega (arith, sound.count);
      short = omega (arith, sound.count);
      paths = omega (arith, sound.paths);
      texts = subst (λ (items : List (Item ℕ)). SameTexts next (table_of items)) (sym whole) texts;
    }

-- what was recorded, seen from its parts
abbrev seen_by : List Event → List (List ℕ) → List FileId → Seen
seen_by list files once = record { items = map item_of list; files = files; once = once }

few_are : (list : List Event) (files : List (List ℕ)) (once : List FileId) (before : Seen) → seen_by list files once ≡ before → length before.items < event_limit → length (map item_of list) < event_limit
few_are list files once before is few = subst (λ (s : Seen). length s.items < event_limit) (sym is) few

fit_are : (list : List Event) (files : List (List ℕ)) (once : List FileId) (before : Seen) (long : ℕ) → seen_by list files once ≡ before → texts_length before.items + long ≤ text_limit → texts_length (map item_of list) + long ≤ text_limit
fit_are list files once before long is fits = subst (λ (s : Seen). texts_length s.items + long ≤ text_limit) (sym is) fits

pub sound_defined : (list new : List Event) (files : List (List ℕ)) (once : List FileId) (before : Seen) (line : ℕ) (text shown : List ℕ) (places : List (ℕ × ℕ)) (at long total : ℕ) (kept next : TableOf ℕ) →
    seen_by list files once ≡ before → length before.items < event_limit → texts_length before.items + long ≤ text_limit → IsSound (map item_of list) files total kept →
    new ≡ list ++ HeldDefine line text ∷ [] → long ≡ length text → next ≡ finite.insert kept (name_of shown) (record { text = shown; files = places; line = at }) → shown ≡ text →
    IsSound (map item_of new) files (total + long) next
sound_defined list new files once before line text shown places at long total kept next is few fits sound more size set same =
    sound_more list new (HeldDefine line text) files files total long kept next more sound (few_are list files once before is few) size (fit_are list files once before long is fits) (omega arith)
    (subst (λ (t : TableOf ℕ). SameTexts t (table_of (map item_of list ++ Define line text ∷ []))) (sym set)
    (subst (λ (s : List ℕ). SameTexts (finite.insert kept (name_of s) (record { text = s; files = places; line = at })) (table_of (map item_of list ++ Define line text ∷ []))) (sym same)
    (texts_defined kept (map item_of list) line text places at sound.texts)))

pub sound_undefined : (list new : List Event) (files : List (List ℕ)) (once : List FileId) (before : Seen) (line : ℕ) (name shown : List ℕ) (long total : ℕ) (kept next : TableOf ℕ) →
    seen_by list files once ≡ before → length before.items < event_limit → texts_length before.items + long ≤ text_limit → IsSound (map item_of list) files total kept →
    new ≡ list ++ HeldUndef line name ∷ [] → long ≡ length name → next ≡ finite.remove kept shown → shown ≡ name →
    IsSound (map item_of new) files (total + long) next
sound_undefined list new files once before line name shown long total kept next is few fits sound more size set same =
    sound_more list new (HeldUndef line name) files files total long kept next more sound (few_are list files once before is few) size (fit_are list files once before long is fits) (omega arith)
    (subst (λ (t : TableOf ℕ). SameTexts t (table_of (map item_of list ++ Undef line name ∷ []))) (sym set)
    (subst (λ (s : List ℕ). SameTexts (finite.remove kept s) (table_of (map item_of list ++ Undef line name ∷ []))) (sym same)
    (texts_undefined kept (map item_of list) line name sound.texts)))

pub sound_ended : (list new : List Event) (files : List (List ℕ)) (once : List FileId) (before : Seen) (total : ℕ) (kept : TableOf ℕ) →
    seen_by list files once ≡ before → length before.items < event_limit → texts_length before.items + 0 ≤ text_limit → IsSound (map item_of list) files total kept →
    new ≡ list ++ HeldEnd ∷ [] → IsSound (map item_of new) files total kept
sound_ended list new files once before total kept is few fits sound more =
    subst (λ (n : ℕ). IsSound (map item_of new) files n kept) (add-zero total)
    (sound_more list new HeldEnd files files total 0 kept kept more sound (few_are list files once before is few) refl (fit_are list files once before 0 is fits) (omega arith)
    (texts_ended kept (map item_of list) sound.texts))

pub sound_started : (list new : List Event) (files paths : List (List ℕ)) (once : List FileId) (before : Seen) (line number total : ℕ) (kept : TableOf ℕ) →
    seen_by list files once ≡ before → length before.items < event_limit → texts_length before.items + 0 ≤ text_limit → IsSound (map item_of list) files total kept →
    new ≡ list ++ HeldStart line number ∷ [] → length paths ≤ length files + 1 → IsSound (map item_of new) paths total kept
sound_started list new files paths once before line number total kept is few fits sound more long =
    subst (λ (n : ℕ). IsSound (map item_of new) paths n kept) (add-zero total)
    (sound_more list new (HeldStart line number) files paths total 0 kept kept more sound (few_are list files once before is few) refl (fit_are list files once before 0 is fits) long
    (texts_started kept (map item_of list) line number sound.texts))

-- at most one path more
pub with_path-long : (files : List (List ℕ)) (path : List ℕ) (place : Option ℕ) → length (with_path files path place) ≤ length files + 1
with_path-long files path None = omega (arith, length-append files (path ∷ []))
with_path-long files path (Some number) = omega arith

meaning : List ℕ → Option DefValue
meaning text = sound_def (def_of_text text)

by_text : (o : Option (EntryValue ℕ)) → option_map (λ (entry : EntryValue ℕ). sound_def (def_of_text entry.text)) o ≡ option_map (λ text. sound_def (def_of_text text)) (option_map (λ (entry : EntryValue ℕ). entry.text) o)
by_text None = refl
by_text (Some entry) = refl

defined_by_text : (o : Option (EntryValue ℕ)) → is_some o ≡ is_some (option_map (λ (entry : EntryValue ℕ). entry.text) o)
defined_by_text None = refl
defined_by_text (Some entry) = refl

same_macro : (one other : TableOf ℕ) → SameTexts one other → (name : List ℕ) → macros_of one name ≡ macros_of other name
same_macro one other are name =
    by_text (finite.get one name) ∙ ap (option_map (λ text. sound_def (def_of_text text))) (are name) ∙ sym (by_text (finite.get other name))

-- tables with the same texts mean the same
pub same_macros : (one other : TableOf ℕ) → SameTexts one other → macros_of one ≡ macros_of other
same_macros one other are = λ i name. same_macro one other are name i

same_defined_name : (one other : TableOf ℕ) → SameTexts one other → (name : List ℕ) → is_defined one name ≡ is_defined other name
same_defined_name one other are name =
    ap (λ b. is_built_in name || b) (defined_by_text (finite.get one name) ∙ ap (λ (o : Option (List ℕ)). is_some o) (are name) ∙ sym (defined_by_text (finite.get other name)))

-- the same names are defined
pub same_defined : (one other : TableOf ℕ) → SameTexts one other → is_defined one ≡ is_defined other
same_defined one other are = λ i name. same_defined_name one other are name i
