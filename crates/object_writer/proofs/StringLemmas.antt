-- Strings that were noted keep their places, whatever is noted after them.
use Rattle.std.proofs.Common.{◌≡◌, ℕ, ◌+◌, ◌≤◌, Bool, true, false, cond, not, ◌||◌, List, [], ◌∷◌, ◌++◌, length, Option, Some, None, refl, ap, subst, ◌∙◌, sym, arith, length-append, nat_eq}
use Rattle.std.specs.List.{fold, list_any}
use Rattle.std.proofs.lemmas.List.Folds.{list_any-append}
use Rattle.std.proofs.lemmas.List.Sums.{fold-append}
use Rattle.std.proofs.lemmas.List.Concat.{flat_map-append}
use Rattle.std.proofs.lemmas.Bool.Decides.{Decides-eqb}
use Rattle.std.specs.Option.{option_map}
use Rattle.mac_base.specs.declared.events.Event.{Event}
use Rattle.mac_base.specs.declared.events.Event.TheVariants.{Define, Undef, Start, End}
use Rattle.string_sections.specs.Pool.{has_string, add_string, pool_bytes, offset_in}
use Rattle.string_sections.proofs.PoolLawLemmas.{others_kept, itself_added}
use Rattle.unit_splitter.specs.declared.root.RootEntry.{RootEntry}
use Rattle.unit_splitter.specs.declared.root.RootEntry.TheVariants.{Own, Import}
use Rattle.object_writer.specs.declared.layout.Layout.{Layout}
use Rattle.object_writer.specs.declared.strings.Strings.{Strings}
use Rattle.object_writer.specs.declared.strings.StringPlace.{StringPlace}
use Rattle.object_writer.specs.declared.strings.StringPlace.TheVariants.{Index}
use Rattle.object_writer.specs.Layouts.{str_number}
use Rattle.object_writer.specs.Strings.{texts_in, own_texts, add_offset, index_in, note, note_all}
use Rattle.object_writer.specs.Units.{place_by, string_place, define_item, undef_item, event_item, root_item}

-- an offset is among those that are kept, where any are
abbrev has_offset : Option (List ℕ) → ℕ → Type 0
has_offset None at = Unit {0}
has_offset (Some offsets) at = list_any (nat_eq at) offsets ≡ true

-- offsets that are kept, with one more
abbrev added_to : Option (List ℕ) → ℕ → Option (List ℕ)
added_to None at = None
added_to (Some offsets) at = Some (add_offset offsets at)

-- what is put at the end leaves the index of an offset
index_kept : (at x : ℕ) (offsets : List ℕ) → list_any (nat_eq at) offsets ≡ true → index_in (offsets ++ x ∷ []) at ≡ index_in offsets at
index_kept at x [] has = cc
index_kept at x (first ∷ offsets) has = kept_by (nat_eq at first) (index_in (offsets ++ x ∷ []) at) (index_in offsets at) (list_any (nat_eq at) offsets) has (index_kept at x offsets)
  where
    kept_by : (t : Bool) (n m : ℕ) (u : Bool) → (t || u) ≡ true → (u ≡ true → n ≡ m) → cond (not t) (1 + n) 0 ≡ cond (not t) (1 + m) 0
    kept_by true n m u has later = refl
    kept_by false n m u has later = ap (λ k. 1 + k) (later has)

itself : (at : ℕ) → nat_eq at at ≡ true
itself at = (Decides-eqb at at).1 refl

-- an offset that is put at the end has the index that it was to have
index_put : (at : ℕ) (offsets : List ℕ) → index_in (offsets ++ at ∷ []) at ≡ index_in offsets at
index_put at [] = ap (λ t. cond (not t) (1 + 0) 0) (itself at)
index_put at (first ∷ offsets) = ap (λ n. cond (not (nat_eq at first)) (1 + n) 0) (index_put at offsets)

has_either : (at x : ℕ) (offsets : List ℕ) → list_any (nat_eq at) (offsets ++ x ∷ []) ≡ (list_any (nat_eq at) offsets || (nat_eq at x || false))
has_either at x offsets = list_any-append (nat_eq at) offsets (x ∷ [])

-- adding an offset
kept_by : (b : Bool) (at x : ℕ) (offsets : List ℕ) → list_any (nat_eq at) offsets ≡ true → (list_any (nat_eq at) (cond b offsets (offsets ++ x ∷ [])) ≡ true) × (index_in (cond b offsets (offsets ++ x ∷ [])) at ≡ index_in offsets at)
kept_by true at x offsets has = (has, refl)
kept_by false at x offsets has = (has_either at x offsets ∙ ap (λ b. b || (nat_eq at x || false)) has, index_kept at x offsets has)

new_by : (b : Bool) (at : ℕ) (offsets : List ℕ) → list_any (nat_eq at) offsets ≡ b → (list_any (nat_eq at) (cond b offsets (offsets ++ at ∷ [])) ≡ true) × (index_in (cond b offsets (offsets ++ at ∷ [])) at ≡ index_in offsets at)
new_by true at offsets has = (has, refl)
new_by false at offsets has = (has_either at at offsets ∙ ap (λ b. b || (nat_eq at at || false)) has ∙ ap (λ t. t || false) (itself at), index_put at offsets)

-- what stays of an offset while others are added
added_stays : (kept : Option (List ℕ)) (at x : ℕ) → has_offset kept at → has_offset (added_to kept x) at × (place_by (added_to kept x) at ≡ place_by kept at)
added_stays None at x has = (tt, refl)
added_stays (Some offsets) at x has =
    let both = kept_by (list_any (nat_eq x) offsets) at x offsets has in
    (both.0, ap (λ n. Index n) both.1)

added_new : (kept : Option (List ℕ)) (at : ℕ) → has_offset (added_to kept at) at × (place_by (added_to kept at) at ≡ place_by kept at)
added_new None at = (tt, refl)
added_new (Some offsets) at =
    let both = new_by (list_any (nat_eq at) offsets) at offsets refl in
    (both.0, ap (λ n. Index n) both.1)

-- the offsets after a string was noted
noted_offsets : (strings : Strings) (text : List ℕ) → (note strings text).offsets ≡ added_to strings.offsets (offset_in strings.pool text)
noted_offsets strings text = by_case strings.offsets (offset_in strings.pool text)
  where
    by_case : (kept : Option (List ℕ)) (at : ℕ) → option_map (λ offsets. add_offset offsets at) kept ≡ added_to kept at
    by_case None at = refl
    by_case (Some offsets) at = refl

-- a string is there, at this offset
record IsNoted (strings : Strings) (text : List ℕ) (at : ℕ) (place : StringPlace) : Type 0 where
  has : has_string strings.pool text ≡ true
  offset : offset_in strings.pool text ≡ at
  kept : has_offset strings.offsets at
  named : place_by strings.offsets at ≡ place

noted_first : (strings : Strings) (text : List ℕ) → IsNoted (note strings text) text (offset_in strings.pool text) (string_place strings text)
noted_first strings text =
    let at = offset_in strings.pool text in
    let pool = itself_added strings.pool text in
    let offsets = added_new strings.offsets at in
    let is = noted_offsets strings text in
    record {
      has = pool.0;
      offset = pool.1;
      kept = subst (λ kept. has_offset kept at) (sym is) offsets.0;
      named = ap (λ kept. place_by kept at) is ∙ offsets.1;
    }

noted_again : (strings : Strings) (text more : List ℕ) (at : ℕ) (place : StringPlace) → IsNoted strings text at place → IsNoted (note strings more) text at place
noted_again strings text more at place noted =
    let pool = others_kept strings.pool text more noted.has in
    let offsets = added_stays strings.offsets at (offset_in strings.pool more) noted.kept in
    let is = noted_offsets strings more in
    record {
      has = pool.0;
      offset = pool.1 ∙ noted.offset;
      kept = subst (λ kept. has_offset kept at) (sym is) offsets.0;
      named = ap (λ kept. place_by kept at) is ∙ offsets.1 ∙ noted.named;
    }

noted_later : (strings : Strings) (text : List ℕ) (later : List (List ℕ)) (at : ℕ) (place : StringPlace) → IsNoted strings text at place → IsNoted (note_all strings later) text at place
noted_later strings text [] at place noted = noted
noted_later strings text (more ∷ later) at place noted = noted_later (note strings more) text later at place (noted_again strings text more at place noted)

-- a string that was noted is named as it was then
pub place_stays : (strings : Strings) (text : List ℕ) (later : List (List ℕ)) → string_place (note_all (note strings text) later) text ≡ string_place strings text
place_stays strings text later =
    let at = offset_in strings.pool text in
    let noted = noted_later (note strings text) text later at (string_place strings text) (noted_first strings text) in
    ap (λ n. place_by (note_all (note strings text) later).offsets n) noted.offset ∙ noted.named

-- so is the string of an event
pub event_stays : (symbol : ℕ) (strings : Strings) (event : Event) (later : List (List ℕ)) → event_item symbol (note_all (note_all strings (texts_in event)) later) event ≡ event_item symbol strings event
event_stays symbol strings (Define line text) later = ap (λ place. define_item symbol place line) (place_stays strings text later)
event_stays symbol strings (Undef line name) later = ap (λ place. undef_item symbol place line) (place_stays strings name later)
event_stays symbol strings (Start line file) later = refl
event_stays symbol strings End later = refl

-- and that of an entry of the root
pub root_stays : (layout : Layout) (strings : Strings) (entry : RootEntry) (later : List (List ℕ)) → root_item layout (note_all (note_all strings (own_texts entry)) later) entry ≡ root_item layout strings entry
root_stays layout strings (Own event) later = event_stays (str_number layout) strings event later
root_stays layout strings (Import number) later = refl

-- notes one after another
pub noted_both : (strings : Strings) (texts more : List (List ℕ)) → note_all strings (texts ++ more) ≡ note_all (note_all strings texts) more
noted_both strings texts more = fold-append note strings texts more

-- the pool is that of the strings alone
pub pool_noted : (strings : Strings) (texts : List (List ℕ)) → (note_all strings texts).pool ≡ fold add_string strings.pool texts
pool_noted strings [] = refl
pool_noted strings (text ∷ texts) = pool_noted (note strings text) texts

-- a pool never shrinks
add_grows : (pool : List (List ℕ)) (text : List ℕ) → length (pool_bytes pool) ≤ length (pool_bytes (add_string pool text))
add_grows pool text = by_case (has_string pool text) pool text
  where
    by_case : (b : Bool) (pool : List (List ℕ)) (text : List ℕ) → length (pool_bytes pool) ≤ length (pool_bytes (cond b pool (pool ++ text ∷ [])))
    by_case true pool text = omega arith
    by_case false pool text = omega (arith, ap length (flat_map-append (λ (s : List ℕ). s ++ 0 ∷ []) pool (text ∷ [])), length-append (pool_bytes pool) (pool_bytes (text ∷ [])))

pub pool_grows : (strings : Strings) (texts : List (List ℕ)) → length (pool_bytes strings.pool) ≤ length (pool_bytes (note_all strings texts).pool)
pool_grows strings [] = omega arith
pool_grows strings (text ∷ texts) = omega (arith, add_grows strings.pool text, pool_grows (note strings text) texts)
