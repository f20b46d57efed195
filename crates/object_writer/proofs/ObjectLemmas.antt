-- The sections of an object, one after another.
use Rattle.std.proofs.Common.{◌≡◌, ℕ, ◌+◌, ◌*◌, ◌<◌, ◌≤◌, inl, inr, Bool, true, false, cond, ◌||◌, List, [], ◌∷◌, ◌++◌, length, map, get_or, take, Option, Some, None, Ok, Err, refl, ap, subst, ◌∙◌, sym, arith, length-append, append_assoc, append-nil, add-zero}
use Rattle.std.specs.List.{fold, list_any}
use Rattle.std.proofs.lemmas.Bool.{lt-ltb}
use Rattle.std.proofs.lemmas.List.{take_more, take_all, length-take-le}
use Rattle.std.proofs.lemmas.List.Folds.{list_any-append}
use Rattle.std.specs.Prelude.{Result}
use Rattle.std.specs.Result.{IsErrAnd}
use Rattle.mac_base.specs.Answers.{IsFaultOf, AnswersAs}
use Rattle.mac_base.specs.declared.events.Event.{Event}
use Rattle.string_sections.specs.Pool.{add_string, pool_bytes}
use Rattle.unit_splitter.specs.declared.pieces.Piece.{Piece}
use Rattle.unit_splitter.specs.declared.pieces.Split.{Split}
use Rattle.unit_splitter.specs.declared.root.RootEntry.{RootEntry}
use Rattle.object_writer.specs.declared.elf.FileType.{FileType}
use Rattle.object_writer.specs.declared.fault.WriteFault.{WriteFault}
use Rattle.object_writer.specs.declared.fault.WriteFault.TheVariants.{TooLarge, NoMemory}
use Rattle.object_writer.specs.declared.layout.Layout.{Layout}
use Rattle.object_writer.specs.declared.object.UnitInfo.{UnitInfo}
use Rattle.object_writer.specs.declared.section.Section.{Section}
use Rattle.object_writer.specs.declared.section.SectionName.TheVariants.{Macro, RelaMacro}
use Rattle.object_writer.specs.declared.strings.Strings.{Strings}
use Rattle.object_writer.specs.declared.unit.Relocated.{Relocated}
use Rattle.object_writer.specs.Gabi.{SHF_INFO_LINK, SHF_GROUP}
use Rattle.object_writer.specs.Layouts.{piece_macro_number, str_number}
use Rattle.object_writer.specs.Relocations.{table_of}
use Rattle.object_writer.specs.Units.{event_item, unit_bytes, unit_relocations}
use Rattle.object_writer.specs.Growing.{IsUnit}
use Rattle.object_writer.specs.Elf.{section_limit, is_too_large, elf_file, with_names, names_section, written, ran_out}
use Rattle.object_writer.specs.Strings.{no_strings, texts_of, piece_texts, root_texts, note_all, keeping, strings_of}
use Rattle.object_writer.specs.Object.{contents_section, relocation_section, group_section, piece_items, piece_sections, pieces_sections, root_sections, string_sections, line_sections, info_sections, symbol_sections, piece_names, direct, offsets_sections, sections_with}
use Rattle.object_writer.proofs.StringLemmas.{noted_both, pool_noted, pool_grows}

pub any_left : (xs ys : List Section) → list_any is_too_large xs ≡ true → list_any is_too_large (xs ++ ys) ≡ true
any_left xs ys has = list_any-append is_too_large xs ys ∙ ap (λ b. b || list_any is_too_large ys) has

pub any_right : (xs ys : List Section) → list_any is_too_large ys ≡ true → list_any is_too_large (xs ++ ys) ≡ true
any_right xs ys has = list_any-append is_too_large xs ys ∙ ap (λ b. list_any is_too_large xs || b) has ∙ or_true (list_any is_too_large xs)
  where
    or_true : (b : Bool) → (b || true) ≡ true
    or_true true = refl
    or_true false = refl

-- a fault of sections is that of their file
pub fault_of : (kind : FileType) (sections : List Section) (fault : WriteFault) → (fault ≡ TooLarge → list_any is_too_large sections ≡ true) → IsFaultOf ran_out (written kind sections) fault
fault_of kind sections TooLarge large = inr (ap (λ b. cond b (Err TooLarge) (Ok (elf_file kind (with_names sections)))) (any_left sections (names_section sections ∷ []) (large refl)))
fault_of kind sections NoMemory large = inl refl

-- without offsets the strings are a pool
direct_noted : (pool texts : List (List ℕ)) → note_all (record { pool = pool; offsets = None }) texts ≡ record { pool = fold add_string pool texts; offsets = None }
direct_noted pool [] = refl
direct_noted pool (text ∷ texts) = direct_noted (add_string pool text) texts

-- what the pieces see of all strings
pub pieces_see : (kept : Bool) (texts more : List (List ℕ)) → note_all (note_all no_strings texts) more ≡ direct (note_all (keeping kept (note_all no_strings texts)) more)
pieces_see kept texts more =
    let alone : List (List ℕ) → Strings = λ pool. record { pool = pool; offsets = None } in
    ap (λ s. note_all s more) (direct_noted [] texts)
    ∙ direct_noted (fold add_string [] texts) more
    ∙ ap alone (ap (λ pool. fold add_string pool more) (sym (pool_noted no_strings texts)) ∙ sym (pool_noted (keeping kept (note_all no_strings texts)) more))

-- the sections of one more piece
sections_both : (layout : Layout) (wide : Bool) (strings : Strings) (k : ℕ) (xs : List Piece) (x : Piece) → pieces_sections layout wide strings k (xs ++ x ∷ []) ≡ pieces_sections layout wide strings k xs ++ piece_sections layout wide strings (k + length xs) x
sections_both layout wide strings k [] x = append-nil (piece_sections layout wide strings k x) ∙ ap (λ n. piece_sections layout wide strings n x) (sym (add-zero k))
sections_both layout wide strings k (y ∷ xs) x =
    let first = piece_sections layout wide strings k y in
    let far : k + 1 + length xs ≡ k + length (y ∷ xs) = omega arith in
    ap (λ ss. first ++ ss) (sections_both layout wide strings (k + 1) xs x ∙ ap (λ n. pieces_sections layout wide strings (k + 1) xs ++ piece_sections layout wide strings n x) far)
    ∙ sym (append_assoc first (pieces_sections layout wide strings (k + 1) xs) (piece_sections layout wide strings (k + length (y ∷ xs)) x))

pub pieces_more : (layout : Layout) (wide : Bool) (start sections next : List Section) (strings new : Strings) (xs : List Piece) (i k : ℕ) (x : Piece) → i < length xs → x ≡ get_or xs i x → k ≡ i
    → new ≡ note_all strings (texts_of x)
    → ((later : List (List ℕ)) → next ≡ sections ++ piece_sections layout wide (note_all new later) k x)
    → ((later : List (List ℕ)) → sections ≡ start ++ pieces_sections layout wide (note_all strings later) 0 (take i xs))
    → (later : List (List ℕ)) → next ≡ start ++ pieces_sections layout wide (note_all new later) 0 (take (i + 1) xs)
pieces_more layout wide start sections next strings new xs i k x within is at noted added before later =
    let known : note_all strings (texts_of x ++ later) ≡ note_all new later = noted_both strings (texts_of x) later ∙ ap (λ s. note_all s later) (sym noted) in
    let all = note_all new later in
    let place : k ≡ 0 + length (take i xs) = omega (arith, at, length-take-le i xs (omega (arith, within))) in
    let longer : take (i + 1) xs ≡ take i xs ++ x ∷ [] = take_more xs i x within ∙ ap (λ y. take i xs ++ y ∷ []) (sym is) in
    added later
    ∙ ap (λ ss. ss ++ piece_sections layout wide all k x) (before (texts_of x ++ later) ∙ ap (λ s. start ++ pieces_sections layout wide s 0 (take i xs)) known)
    ∙ append_assoc start (pieces_sections layout wide all 0 (take i xs)) (piece_sections layout wide all k x)
    ∙ ap (λ n. start ++ (pieces_sections layout wide all 0 (take i xs) ++ piece_sections layout wide all n x)) place
    ∙ ap (λ ss. start ++ ss) (sym (sections_both layout wide all 0 (take i xs) x))
    ∙ ap (λ ys. start ++ pieces_sections layout wide all 0 ys) (sym longer)

pub pieces_end : (layout : Layout) (wide : Bool) (start sections : List Section) (strings : Strings) (xs : List Piece) (n : ℕ) → length xs ≤ n
    → ((later : List (List ℕ)) → sections ≡ start ++ pieces_sections layout wide (note_all strings later) 0 (take n xs))
    → (later : List (List ℕ)) → sections ≡ start ++ pieces_sections layout wide (note_all strings later) 0 xs
pieces_end layout wide start sections strings xs n past before later = before later ∙ ap (λ ys. start ++ pieces_sections layout wide (note_all strings later) 0 ys) (take_all n xs past)

-- six lists of sections, appended in turn
pub six : (a b c d e f r1 r2 r3 r4 r5 r6 : List Section) → r1 ≡ [] ++ a → r2 ≡ r1 ++ b → r3 ≡ r2 ++ c → r4 ≡ r3 ++ d → r5 ≡ r4 ++ e → r6 ≡ r5 ++ f → r6 ≡ a ++ (b ++ (c ++ (d ++ (e ++ f))))
six a b c d e f r1 r2 r3 r4 r5 r6 h1 h2 h3 h4 h5 h6 =
    h6
    ∙ ap (λ xs. xs ++ f) (h5 ∙ ap (λ xs. xs ++ e) (h4 ∙ ap (λ xs. xs ++ d) (h3 ∙ ap (λ xs. xs ++ c) (h2 ∙ ap (λ xs. xs ++ b) h1))))
    ∙ append_assoc (a ++ b ++ c ++ d) e f
    ∙ append_assoc (a ++ b ++ c) d (e ++ f)
    ∙ append_assoc (a ++ b) c (d ++ (e ++ f))
    ∙ append_assoc a b (c ++ (d ++ (e ++ f)))

-- where a section is too large among others
module _ (layout : Layout) (wide : Bool) (strings : Strings) (split : Split) (unit : UnitInfo) where
  abbrev pieces : List Section
  pieces = pieces_sections layout wide (direct strings) 0 split.pieces

  abbrev root : List Section
  root = root_sections layout wide strings split.root

  abbrev after_lines : List Section
  after_lines = info_sections layout wide unit ++ symbol_sections layout (piece_names wide split.pieces)

  abbrev after_strings : List Section
  after_strings = line_sections wide unit.files ++ after_lines

  pub large_strings : list_any is_too_large (string_sections layout wide strings) ≡ true → list_any is_too_large (sections_with layout wide strings split unit) ≡ true
  large_strings has = any_right pieces (root ++ (string_sections layout wide strings ++ after_strings)) (any_right root (string_sections layout wide strings ++ after_strings) (any_left (string_sections layout wide strings) after_strings has))

  pub large_pool : section_limit < length (pool_bytes strings.pool) → list_any is_too_large (sections_with layout wide strings split unit) ≡ true
  large_pool large = large_strings (ap (λ b. b || list_any is_too_large (offsets_sections layout wide strings.offsets)) (lt-ltb section_limit (length (pool_bytes strings.pool)) large))

  pub large_symbols : list_any is_too_large (symbol_sections layout (piece_names wide split.pieces)) ≡ true → list_any is_too_large (sections_with layout wide strings split unit) ≡ true
  large_symbols has = any_right pieces (root ++ (string_sections layout wide strings ++ after_strings)) (any_right root (string_sections layout wide strings ++ after_strings) (any_right (string_sections layout wide strings) after_strings (any_right (line_sections wide unit.files) after_lines (any_right (info_sections layout wide unit) (symbol_sections layout (piece_names wide split.pieces)) has))))

-- the strings after the pieces and the root
pub all_noted : (kept : Bool) (split : Split) (slice : List Piece) (entries : List RootEntry) (s0 s1 s2 s3 : Strings) → slice ≡ split.pieces → entries ≡ split.root → s0 ≡ no_strings
    → s1 ≡ note_all s0 (piece_texts slice) → s2 ≡ keeping kept s1 → s3 ≡ note_all s2 (root_texts entries) → s3 ≡ strings_of kept split
all_noted kept split slice entries s0 s1 s2 s3 same_pieces same_entries none noted keeps last =
    let first : s1 ≡ note_all no_strings (piece_texts split.pieces) = noted ∙ ap (λ s. note_all s (piece_texts slice)) none ∙ ap (λ ps. note_all no_strings (piece_texts ps)) same_pieces in
    last ∙ ap (λ s. note_all s (root_texts entries)) (keeps ∙ ap (keeping kept) first) ∙ ap (λ es. note_all (keeping kept (note_all no_strings (piece_texts split.pieces))) (root_texts es)) same_entries

-- the sections after all of them
pub whole : (layout : Layout) (wide : Bool) (split : Split) (unit : UnitInfo) (slice again : List Piece) (entries : List RootEntry) (s0 s1 s2 s3 : Strings) (r0 r1 r2 r3 r4 r5 r6 : List Section)
    → slice ≡ split.pieces → again ≡ split.pieces → entries ≡ split.root → s0 ≡ no_strings
    → s1 ≡ note_all s0 (piece_texts slice) → s2 ≡ keeping layout.indexed s1 → s3 ≡ note_all s2 (root_texts entries)
    → r0 ≡ [] → ((later : List (List ℕ)) → r1 ≡ r0 ++ pieces_sections layout wide (note_all s1 later) 0 slice)
    → r2 ≡ r1 ++ root_sections layout wide s3 entries → r3 ≡ r2 ++ string_sections layout wide s3 → r4 ≡ r3 ++ line_sections wide unit.files → r5 ≡ r4 ++ info_sections layout wide unit
    → r6 ≡ r5 ++ symbol_sections layout (piece_names wide again)
    → r6 ≡ sections_with layout wide (strings_of layout.indexed split) split unit
whole layout wide split unit slice again entries s0 s1 s2 s3 r0 r1 r2 r3 r4 r5 r6 same_pieces same_again same_entries none noted keeps last empty h1 h2 h3 h4 h5 h6 =
    let all = strings_of layout.indexed split in
    let texts = root_texts split.root in
    let first : s1 ≡ note_all no_strings (piece_texts split.pieces) = noted ∙ ap (λ s. note_all s (piece_texts slice)) none ∙ ap (λ ps. note_all no_strings (piece_texts ps)) same_pieces in
    let third : s3 ≡ all = all_noted layout.indexed split slice entries s0 s1 s2 s3 same_pieces same_entries none noted keeps last in
    let seen : note_all s1 texts ≡ direct all = ap (λ s. note_all s texts) first ∙ pieces_see layout.indexed (piece_texts split.pieces) texts in
    let p1 : r1 ≡ [] ++ pieces_sections layout wide (direct all) 0 split.pieces =
    h1 texts ∙ ap (λ r. r ++ pieces_sections layout wide (note_all s1 texts) 0 slice) empty ∙ ap (λ s. [] ++ pieces_sections layout wide s 0 slice) seen ∙ ap (λ ps. [] ++ pieces_sections layout wide (direct all) 0 ps) same_pieces in
    let p2 : r2 ≡ r1 ++ root_sections layout wide all split.root = h2 ∙ ap (λ s. r1 ++ root_sections layout wide s entries) third ∙ ap (λ es. r1 ++ root_sections layout wide all es) same_entries in
    let p3 : r3 ≡ r2 ++ string_sections layout wide all = h3 ∙ ap (λ s. r2 ++ string_sections layout wide s) third in
    let p6 : r6 ≡ r5 ++ symbol_sections layout (piece_names wide split.pieces) = h6 ∙ ap (λ ps. r5 ++ symbol_sections layout (piece_names wide ps)) same_again in
    six (pieces_sections layout wide (direct all) 0 split.pieces) (root_sections layout wide all split.root) (string_sections layout wide all) (line_sections wide unit.files) (info_sections layout wide unit) (symbol_sections layout (piece_names wide split.pieces)) r1 r2 r3 r4 r5 r6 p1 p2 p3 h4 h5 p6

-- too many strings of the pieces, and of the root
pub large_pieces : (layout : Layout) (wide : Bool) (split : Split) (unit : UnitInfo) (slice : List Piece) (s0 : Strings) → slice ≡ split.pieces → s0 ≡ no_strings
    → section_limit < length (pool_bytes (note_all s0 (piece_texts slice)).pool) → list_any is_too_large (sections_with layout wide (strings_of layout.indexed split) split unit) ≡ true
large_pieces layout wide split unit slice s0 same none large =
    let first = note_all no_strings (piece_texts split.pieces) in
    let e : length (pool_bytes (note_all s0 (piece_texts slice)).pool) ≡ length (pool_bytes first.pool) = ap (λ s. length (pool_bytes (note_all s (piece_texts slice)).pool)) none ∙ ap (λ ps. length (pool_bytes (note_all no_strings (piece_texts ps)).pool)) same in
    large_pool layout wide (strings_of layout.indexed split) split unit (omega (arith, large, e, pool_grows (keeping layout.indexed first) (root_texts split.root)))

-- the sections of a piece, appended in turn
pub piece_whole : (layout : Layout) (wide : Bool) (strings : Strings) (k : ℕ) (piece : Piece) (slice : List Event) (s0 s1 s2 : List Section) (group : Section) (unit : Relocated) (symbol number : ℕ)
    → group ≡ group_section layout k → s1 ≡ s0 ++ group ∷ [] → number ≡ piece_macro_number k → symbol ≡ str_number layout → slice ≡ piece.entries
    → s2 ≡ s1 ++ contents_section Macro SHF_GROUP unit.contents.items ∷ relocation_section layout RelaMacro (SHF_INFO_LINK + SHF_GROUP) number unit.relocations.items ∷ []
    → IsUnit wide None unit (map (event_item symbol strings) slice)
    → s2 ≡ s0 ++ piece_sections layout wide strings k piece
piece_whole layout wide strings k piece slice s0 s1 s2 group unit symbol number is_group first at known same second is_unit =
    let items = piece_items layout strings piece in
    let same_items : map (event_item symbol strings) slice ≡ items = ap (λ n. map (event_item n strings) slice) known ∙ ap (λ es. map (event_item (str_number layout) strings) es) same in
    let relocations : List ℕ → Section = λ bytes. relocation_section layout RelaMacro (SHF_INFO_LINK + SHF_GROUP) (piece_macro_number k) bytes in
    let contents : List ℕ → Section = λ bytes. contents_section Macro SHF_GROUP bytes in
    let bytes : unit.contents.items ≡ unit_bytes wide None items = is_unit.contents ∙ ap (unit_bytes wide None) same_items in
    let table : unit.relocations.items ≡ table_of wide (unit_relocations wide None items) = is_unit.relocations ∙ ap (λ is. table_of wide (unit_relocations wide None is)) same_items in
    second
    ∙ ap (λ n. s1 ++ contents unit.contents.items ∷ relocation_section layout RelaMacro (SHF_INFO_LINK + SHF_GROUP) n unit.relocations.items ∷ []) at
    ∙ ap (λ bs. s1 ++ contents bs ∷ relocations unit.relocations.items ∷ []) bytes
    ∙ ap (λ bs. s1 ++ contents (unit_bytes wide None items) ∷ relocations bs ∷ []) table
    ∙ ap (λ ss. ss ++ contents (unit_bytes wide None items) ∷ relocations (table_of wide (unit_relocations wide None items)) ∷ []) (first ∙ ap (λ g. s0 ++ g ∷ []) is_group)
    ∙ append_assoc s0 (group_section layout k ∷ []) (contents (unit_bytes wide None items) ∷ relocations (table_of wide (unit_relocations wide None items)) ∷ [])

-- how many sections there are
pieces_long : (layout : Layout) (wide : Bool) (strings : Strings) (k : ℕ) (pieces : List Piece) → length (pieces_sections layout wide strings k pieces) ≡ 3 * length pieces
pieces_long layout wide strings k [] = refl
pieces_long layout wide strings k (piece ∷ pieces) = omega (arith, length-append (piece_sections layout wide strings k piece) (pieces_sections layout wide strings (k + 1) pieces), pieces_long layout wide strings (k + 1) pieces)

offsets_few : (layout : Layout) (wide : Bool) (offsets : Option (List ℕ)) → length (offsets_sections layout wide offsets) ≤ 2
offsets_few layout wide None = omega arith
offsets_few layout wide (Some offsets) = omega arith

pub sections_few : (layout : Layout) (wide : Bool) (strings : Strings) (split : Split) (unit : UnitInfo) → length (sections_with layout wide strings split unit) ≤ 3 * length split.pieces + 14
sections_few layout wide strings split unit =
    let pieces = pieces_sections layout wide (direct strings) 0 split.pieces in
    let rest = line_sections wide unit.files ++ (info_sections layout wide unit ++ symbol_sections layout (piece_names wide split.pieces)) in
    let whole = length-append pieces (root_sections layout wide strings split.root ++ (string_sections layout wide strings ++ rest)) in
    let strings_long = length-append (string_sections layout wide strings) rest in
    omega (arith, whole, strings_long, pieces_long layout wide (direct strings) 0 split.pieces, offsets_few layout wide strings.offsets)

-- a fault that is handed on is an answer
pub answers_fault : {X : Type 0} (view : X → List ℕ) (result : Result X WriteFault) (fault : WriteFault) (reading : Result (List ℕ) WriteFault) → IsErrAnd result (λ found. found ≡ fault) → IsFaultOf ran_out reading fault → AnswersAs ran_out view result reading
answers_fault view (Ok x) fault reading gives is = absurd gives
answers_fault view (Err found) fault reading gives is = subst (λ f. IsFaultOf ran_out reading f) (sym gives) is
