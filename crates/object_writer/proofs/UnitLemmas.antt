-- How a macro unit and its relocations grow by entries.
use Rattle.std.proofs.Common.{◌≡◌, ℕ, ◌+◌, ◌-◌, ◌<◌, ◌≤◌, Bool, List, [], ◌∷◌, ◌++◌, length, map, get_or, take, drop, Option, refl, ap, subst, ◌∙◌, sym, arith, length-append, append_assoc, append-nil, add-zero}
use Rattle.std.specs.List.{flat_map}
use Rattle.std.proofs.lemmas.List.{map_more, take_all, take_more, take-append-drop}
use Rattle.std.proofs.lemmas.List.Concat.{flat_map-append}
use Rattle.mac_base.specs.Values.{offset_width}
use Rattle.macro_opcodes.specs.Writing.{entry_bytes}
use Rattle.string_sections.specs.Pool.{pool_bytes}
use Rattle.object_writer.specs.declared.relocation.Target.{Target}
use Rattle.object_writer.specs.declared.relocation.Relocation.{Relocation}
use Rattle.object_writer.specs.declared.strings.Strings.{Strings}
use Rattle.object_writer.specs.declared.unit.Relocated.{Relocated}
use Rattle.object_writer.specs.Elf.{section_limit}
use Rattle.object_writer.specs.Relocations.{relocation_bytes, table_of, field_relocations}
use Rattle.object_writer.specs.Strings.{note_all}
use Rattle.object_writer.specs.Units.{Item, items_bytes, relocations_from, start_bytes, unit_bytes, unit_relocations}
use Rattle.object_writer.specs.Growing.{Appends, IsStarted}
use Rattle.object_writer.proofs.StringLemmas.{noted_both, pool_grows}

bytes_both : (wide : Bool) (xs ys : List Item) → items_bytes wide (xs ++ ys) ≡ items_bytes wide xs ++ items_bytes wide ys
bytes_both wide xs ys = flat_map-append (λ (item : Item). entry_bytes wide item.entry) xs ys

relocations_both : (wide : Bool) (at : ℕ) (xs ys : List Item) → relocations_from wide at (xs ++ ys) ≡ relocations_from wide at xs ++ relocations_from wide (at + length (items_bytes wide xs)) ys
relocations_both wide at [] ys = ap (λ n. relocations_from wide n ys) (sym (add-zero at))
relocations_both wide at (x ∷ xs) ys =
    let long = length (entry_bytes wide x.entry) in
    let here = field_relocations (at + long - offset_width wide) x.target in
    let far : at + long + length (items_bytes wide xs) ≡ at + length (items_bytes wide (x ∷ xs)) = omega (arith, length-append (entry_bytes wide x.entry) (items_bytes wide xs)) in
    ap (λ rs. here ++ rs) (relocations_both wide (at + long) xs ys ∙ ap (λ n. relocations_from wide (at + long) xs ++ relocations_from wide n ys) far)
    ∙ sym (append_assoc here (relocations_from wide (at + long) xs) (relocations_from wide (at + length (items_bytes wide (x ∷ xs))) ys))

table_both : (wide : Bool) (xs ys : List Relocation) → table_of wide (xs ++ ys) ≡ table_of wide xs ++ table_of wide ys
table_both wide xs ys = flat_map-append (relocation_bytes wide) xs ys

-- nothing is appended
pub appends_none : (wide : Bool) (a : Relocated) → Appends wide a a []
appends_none wide a = record { contents = sym (append-nil a.contents.items); relocations = sym (append-nil a.relocations.items) }

-- entries are appended, and then more of them
pub appends_both : (wide : Bool) (a b c : Relocated) (xs ys : List Item) → Appends wide a b xs → Appends wide b c ys → Appends wide a c (xs ++ ys)
appends_both wide a b c xs ys first then =
    let start = length a.contents.items in
    let next : length b.contents.items ≡ start + length (items_bytes wide xs) = ap length first.contents ∙ length-append a.contents.items (items_bytes wide xs) in
    let relocations : List Relocation → List ℕ = λ rs. table_of wide rs in
    record {
      contents = then.contents ∙ ap (λ bs. bs ++ items_bytes wide ys) first.contents ∙ append_assoc a.contents.items (items_bytes wide xs) (items_bytes wide ys) ∙ ap (λ bs. a.contents.items ++ bs) (sym (bytes_both wide xs ys));
      relocations =
          then.relocations
          ∙ ap (λ bs. bs ++ table_of wide (relocations_from wide (length b.contents.items) ys)) first.relocations
          ∙ ap (λ n. a.relocations.items ++ table_of wide (relocations_from wide start xs) ++ table_of wide (relocations_from wide n ys)) next
          ∙ append_assoc a.relocations.items (table_of wide (relocations_from wide start xs)) (table_of wide (relocations_from wide (start + length (items_bytes wide xs)) ys))
          ∙ ap (λ bs. a.relocations.items ++ bs) (sym (table_both wide (relocations_from wide start xs) (relocations_from wide (start + length (items_bytes wide xs)) ys)))
          ∙ ap (λ rs. a.relocations.items ++ table_of wide rs) (sym (relocations_both wide start xs ys));
    }

-- a unit that was started, got entries and was ended
pub ended : (wide : Bool) (line : Option Target) (a b : Relocated) (items : List Item) (contents relocations : List ℕ) → IsStarted wide line a → Appends wide a b items
    → contents ≡ b.contents.items ++ 0 ∷ [] → relocations ≡ b.relocations.items → (contents ≡ unit_bytes wide line items) × (relocations ≡ table_of wide (unit_relocations wide line items))
unfolding unit_bytes unit_relocations
ended wide line a b items contents relocations started more is keeps =
    let start = start_bytes wide line in
    let field = field_relocations (length start - offset_width wide) line in (
      is ∙ ap (λ bs. bs ++ 0 ∷ []) (more.contents ∙ ap (λ bs. bs ++ items_bytes wide items) started.contents) ∙ append_assoc start (items_bytes wide items) (0 ∷ []),
      keeps
          ∙ more.relocations
          ∙ ap (λ bs. bs ++ table_of wide (relocations_from wide (length a.contents.items) items)) started.relocations
          ∙ ap (λ bs. table_of wide field ++ table_of wide (relocations_from wide (length bs) items)) started.contents
          ∙ sym (table_both wide field (relocations_from wide (length start) items)),
    )

-- what is known of a loop over what has strings
module _ {X : Type 0} (texts : X → List (List ℕ)) where
  texts_more : (xs : List X) (i : ℕ) (x : X) → i < length xs → x ≡ get_or xs i x → flat_map texts (take (i + 1) xs) ≡ flat_map texts (take i xs) ++ texts x
  texts_more xs i x within is =
      ap (λ ys. flat_map texts ys) (take_more xs i x within ∙ ap (λ y. take i xs ++ y ∷ []) (sym is)) ∙ flat_map-append texts (take i xs) (x ∷ []) ∙ ap (λ ts. flat_map texts (take i xs) ++ ts) (append-nil (texts x))

  pub noted_more : (start strings new : Strings) (xs : List X) (i : ℕ) (x : X) → i < length xs → x ≡ get_or xs i x → strings ≡ note_all start (flat_map texts (take i xs)) → new ≡ note_all strings (texts x)
      → new ≡ note_all start (flat_map texts (take (i + 1) xs))
  noted_more start strings new xs i x within is before noted =
      noted ∙ ap (λ s. note_all s (texts x)) before ∙ sym (noted_both start (flat_map texts (take i xs)) (texts x)) ∙ ap (λ ts. note_all start ts) (sym (texts_more xs i x within is))

  texts_split : (xs : List X) (n : ℕ) → flat_map texts (take n xs) ++ flat_map texts (drop n xs) ≡ flat_map texts xs
  texts_split xs n = sym (flat_map-append texts (take n xs) (drop n xs)) ∙ ap (λ ys. flat_map texts ys) (take-append-drop n xs)

  -- strings that are too many at an entry are too many at the end
  pub large_more : (start strings : Strings) (xs : List X) (i : ℕ) (x : X) → i < length xs → x ≡ get_or xs i x → strings ≡ note_all start (flat_map texts (take i xs)) → section_limit < length (pool_bytes (note_all strings (texts x)).pool)
      → section_limit < length (pool_bytes (note_all start (flat_map texts xs)).pool)
  large_more start strings xs i x within is before large =
      let known = noted_more start strings (note_all strings (texts x)) xs i x within is before refl in
      let most : length (pool_bytes (note_all strings (texts x)).pool) ≤ length (pool_bytes (note_all (note_all strings (texts x)) (flat_map texts (drop (i + 1) xs))).pool) = pool_grows (note_all strings (texts x)) (flat_map texts (drop (i + 1) xs)) in
      let whole : note_all (note_all strings (texts x)) (flat_map texts (drop (i + 1) xs)) ≡ note_all start (flat_map texts xs) =
      ap (λ s. note_all s (flat_map texts (drop (i + 1) xs))) known ∙ sym (noted_both start (flat_map texts (take (i + 1) xs)) (flat_map texts (drop (i + 1) xs))) ∙ ap (λ ts. note_all start ts) (texts_split xs (i + 1)) in
      let same : length (pool_bytes (note_all (note_all strings (texts x)) (flat_map texts (drop (i + 1) xs))).pool) ≡ length (pool_bytes (note_all start (flat_map texts xs)).pool) = ap (λ s. length (pool_bytes s.pool)) whole in
      omega (arith, large, most, same)

  pub noted_end : (start strings : Strings) (xs : List X) (n : ℕ) → length xs ≤ n → strings ≡ note_all start (flat_map texts (take n xs)) → strings ≡ note_all start (flat_map texts xs)
  noted_end start strings xs n past before = before ∙ ap (λ ys. note_all start (flat_map texts ys)) (take_all n xs past)

-- and of one over events or entries, each of which has its item
module _ {X : Type 0} (texts : X → List (List ℕ)) (item : Strings → X → Item) (stays : (strings : Strings) (x : X) (later : List (List ℕ)) → item (note_all (note_all strings (texts x)) later) x ≡ item strings x) where
  pub items_more : (wide : Bool) (start unit next : Relocated) (strings new : Strings) (xs : List X) (i : ℕ) (x : X) → i < length xs → x ≡ get_or xs i x
      → new ≡ note_all strings (texts x) → Appends wide unit next (item strings x ∷ [])
      → ((later : List (List ℕ)) → Appends wide start unit (map (item (note_all strings later)) (take i xs)))
      → (later : List (List ℕ)) → Appends wide start next (map (item (note_all new later)) (take (i + 1) xs))
  items_more wide start unit next strings new xs i x within is noted added before later =
      let known : note_all strings (texts x ++ later) ≡ note_all new later = noted_both strings (texts x) later ∙ ap (λ s. note_all s later) (sym noted) in
      let first : Appends wide start unit (map (item (note_all new later)) (take i xs)) = subst (λ s. Appends wide start unit (map (item s) (take i xs))) known (before (texts x ++ later)) in
      let same : item strings x ≡ item (note_all new later) (get_or xs i x) = sym (stays strings x later) ∙ ap (λ s. item (note_all s later) x) (sym noted) ∙ ap (λ y. item (note_all new later) y) is in
      let then : Appends wide unit next (item (note_all new later) (get_or xs i x) ∷ []) = subst (λ y. Appends wide unit next (y ∷ [])) same added in
      subst (λ ys. Appends wide start next ys) (sym (map_more (item (note_all new later)) xs i x within)) (appends_both wide start unit next (map (item (note_all new later)) (take i xs)) (item (note_all new later) (get_or xs i x) ∷ []) first then)

  -- at the end of the loop
  pub items_end : (wide : Bool) (start unit : Relocated) (strings : Strings) (xs : List X) (n : ℕ) → length xs ≤ n
      → ((later : List (List ℕ)) → Appends wide start unit (map (item (note_all strings later)) (take n xs)))
      → (later : List (List ℕ)) → Appends wide start unit (map (item (note_all strings later)) xs)
  items_end wide start unit strings xs n past before later = subst (λ ys. Appends wide start unit (map (item (note_all strings later)) ys)) (take_all n xs past) (before later)
