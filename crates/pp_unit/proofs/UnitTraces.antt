-- What the walk of a translation unit leaves, and that its entries and its marks give the same tables.
use Rattle.std.proofs.Common.{◌≡◌, ℕ, suc, ◌+◌, Bool, true, false, cond, not, ◌||◌, ltb, List, [], ◌∷◌, ◌++◌, length, take, Option, Some, None, Result, Ok, Err, refl, sym, ap, ◌∙◌, subst, append_assoc, length-append, arith}
use Rattle.std.proofs.lemmas.Bool.{or_parts, lt-ltb}
use Rattle.std.proofs.lemmas.List.{append-nil}
use Rattle.std.specs.Prelude.{position}
use Rattle.std.specs.Option.{is_some, option_map, ok_or}
use Rattle.std.specs.Result.{is_ok}
use Rattle.std.specs.List.{list_any, find, prefix_len}
use Rattle.mac_base.proofs.Choices.{same_ok, bind_ok}
use Rattle.mac_base.specs.Input.{◌>>=◌}
use Rattle.mac_io.specs.declared.headers.FileId.{FileId}
use Rattle.mac_io.specs.declared.headers.Located.{Located}
use Rattle.mac_io.specs.declared.headers.Located.TheVariants.{Found, Absent, TooLong, Failed}
use Rattle.mac_io.specs.declared.headers.Located.TheVariants.{NoMemory as SearchRanOut}
use Rattle.pp_tokens.specs.Kinds.{is_identifier}
use Rattle.macro_table.specs.declared.fault.TextFault.{TextFault}
use Rattle.macro_table.specs.declared.fault.TextFault.TheVariants.{Lex as TextLex, Def as TextDef}
use Rattle.macro_table.specs.declared.fault.TextFault.TheVariants.{NoMemory as TextRanOut}
use Rattle.macro_table.specs.declared.fault.DefFault.TheVariants.{NoName}
use Rattle.macro_table.specs.Definitions.{DefValue}
use Rattle.macro_table.specs.Texts.{text_of, def_of_text}
use Rattle.macro_table.specs.Tables.{TableOf}
use Rattle.mac_base.specs.Items.{Item, Define, Undef, Start, End, is_start}
use Rattle.macro_table.specs.FileTable.{prefix, table_of, file_table}
use Rattle.pp_directives.specs.Following.{Goes, Chosen}
use Rattle.pp_unit.specs.declared.request.Command.{Command}
use Rattle.pp_unit.specs.declared.request.UnitSpec.{UnitSpec}
use Rattle.pp_unit.specs.declared.request.Command.TheVariants.{Define as DefineWord, Undef as UndefWord}
use Rattle.pp_unit.specs.declared.fault.PpFault.{PpFault}
use Rattle.pp_unit.specs.declared.fault.PpKind.{PpKind}
use Rattle.pp_unit.specs.declared.fault.PpKind.TheVariants.{Def}
use Rattle.pp_unit.specs.Seen.{Mark, Seen, Marked, is_once}
use Rattle.pp_unit.specs.Definitions.{defined_by_text, define_text, undefined, commanded, all_commanded, predefined}
use Rattle.pp_unit.specs.Files.{Stores, Enters, IncludesFound, Walks}
use Rattle.pp_unit.specs.Walk.{open_limit, outside, Walk}
use Rattle.pp_unit.specs.PreTables.{is_of, is_at, files_walked, table_at, pre_table}
use Rattle.pp_unit.specs.TableLaws.{TablesAgree, TablesAreThere, ChainsNameOneFile}
use Rattle.pp_unit.proofs.OrderLemmas.{InOrder, none_in_order, whole_order, after_order, some_found, none_found}
use Rattle.pp_unit.proofs.Traces.{Trace, items_onto, size, mark, marks_onto, Rises}
use Rattle.pp_unit.proofs.MarkLemmas.{below, alike_self, by_marks}
use Rattle.pp_unit.proofs.AgreeLemmas.{by_items, first, no_level, none_walked, whole, after_all}
use Rattle.pp_unit.proofs.LineTraces.{part_ends, defined_one, undefined_one, enters}
use Rattle.pp_unit.proofs.FileTraces.{all_good}

-- no file begins among these entries
abbrev pub NoStart : List (Item ℕ) → Type 0
NoStart items = list_any is_start items ≡ false

no_start_more : (items : List (Item ℕ)) (item : Item ℕ) → NoStart items → is_start item ≡ false → NoStart (items ++ item ∷ [])
no_start_more [] item none plain = ap (λ b. b || false) plain
no_start_more (other ∷ items) item none plain =
    let parts = or_parts (is_start other) (list_any is_start items) none in
    (λ i. parts.0 i || no_start_more items item parts.1 plain i)

no_start_next : (items more : List (Item ℕ)) (item : Item ℕ) → NoStart items → is_start item ≡ false → more ≡ items ++ item ∷ [] → NoStart more
no_start_next items more item none plain is = subst NoStart (sym is) (no_start_more items item none plain)

by_text : (seen next : Seen) (def : Result DefValue TextFault) → NoStart seen.items → defined_by_text seen def ≡ Ok next → NoStart next.items
by_text seen next (Ok def) none is = no_start_next seen.items next.items (Define 0 (text_of def)) none refl (defined_one seen next 0 def is)
by_text seen next (Err (TextLex fault)) none is = cc
by_text seen next (Err (TextDef fault)) none is = cc
by_text seen next (Err TextRanOut) none is = cc

by_name : (named : Bool) (seen next : Seen) (name : List ℕ) → NoStart seen.items → cond named (undefined seen 0 name) (Err (Def NoName)) ≡ Ok next → NoStart next.items
by_name true seen next name none is = no_start_next seen.items next.items (Undef 0 name) none refl (undefined_one seen next 0 name is)
by_name false seen next name none is = cc

by_word : (command : Command) (seen next : Seen) → NoStart seen.items → commanded seen command ≡ Ok next → NoStart next.items
by_word (DefineWord word) seen next none is = by_text seen next (def_of_text (define_text word)) none is
by_word (UndefWord word) seen next none is = by_name (is_identifier word) seen next word none is

by_words : (commands : List Command) (seen next : Seen) → NoStart seen.items → all_commanded seen commands ≡ Ok next → NoStart next.items
by_words [] seen next none is = subst (λ (s : Seen). NoStart s.items) (same_ok {E = PpKind} seen next is) none
by_words (command ∷ commands) seen next none is =
    let step = bind_ok (commanded seen command) (λ s. all_commanded s commands) next is in
    by_words commands step.0 next (by_word command seen step.0 none step.1) step.2

-- where the first file begins
not_yet : (items more : List (Item ℕ)) → NoStart items → prefix_len (λ item. not (is_start item)) (items ++ more) ≡ length items + prefix_len (λ item. not (is_start item)) more
not_yet [] more none = omega arith
not_yet (item ∷ items) more none =
    let parts = or_parts (is_start item) (list_any is_start items) none in
    (λ i. cond (not (parts.0 i)) (1 + not_yet items more parts.1 i) 0) ∙ omega arith

begins_at : (items more : List (Item ℕ)) (n path : ℕ) → NoStart items → position is_start (items ++ Start n path ∷ more) ≡ Some (length items)
begins_at items more n path none =
    let place : prefix_len (λ item. not (is_start item)) (items ++ Start n path ∷ more) ≡ length items = not_yet items (Start n path ∷ more) none ∙ omega arith in
    let open_file : ltb (length items) (length (items ++ Start n path ∷ more)) ≡ true = lt-ltb (length items) (length (items ++ Start n path ∷ more)) (let long = length-append items (Start n path ∷ more) in omega (arith, long)) in
    (λ i. cond (ltb (place i) (length (items ++ Start n path ∷ more))) (Some (place i)) None)
    ∙ ap (λ b. cond b (Some (length items)) None) open_file

never_begins : (items : List (Item ℕ)) → NoStart items → position is_start items ≡ None
never_begins items none =
    let place : prefix_len (λ item. not (is_start item)) items ≡ length items =
    ap (λ (list : List (Item ℕ)). prefix_len (λ item. not (is_start item)) list) (sym (append-nil items)) ∙ not_yet items [] none ∙ omega arith in
    let open_file : ltb (length items) (length items) ≡ false = le-ltb (length items) (length items) in
    (λ i. cond (ltb (place i) (length items)) (Some (place i)) None) ∙ ap (λ b. cond b (Some (length items)) None) open_file
  where
    le-ltb : (a b : ℕ) → ltb a a ≡ false
    le-ltb a b = grind arith

-- What the walk of a translation unit leaves: what comes before all files, and the primary file, or nothing where it contributes nothing.
pub data UnitLeaves (spec : UnitSpec) (m : Marked) : Type 0 where
  Bare : NoStart m.seen.items → m.marks ≡ [] → UnitLeaves spec m
  Walked : (before : Seen) (path : ℕ) (t : Trace) → all_commanded predefined spec.commands ≡ Ok before → NoStart before.items → Rises 0 t →
      m.seen.items ≡ before.items ++ Start 0 path ∷ items_onto t (End ∷ []) →
      m.marks ≡ marks_onto [] (suc (length before.items)) t (mark [] None (suc (length before.items) + size t) ∷ []) → UnitLeaves spec m

module _ (stores : Stores) (spec : UnitSpec) (pre m : Marked) (words : all_commanded predefined spec.commands ≡ Ok pre.seen) (none : NoStart pre.seen.items) (no_marks : pre.marks ≡ []) where
  by_once : (once : Bool) (id : FileId) (bytes : List ℕ) → Chosen (λ q. q ≡ Ok pre) (Enters stores (Walks stores open_limit) outside 0 id bytes pre) once (Ok m) → UnitLeaves spec m
  by_once true id bytes is =
      let same : m ≡ pre = same_ok {E = PpFault} m pre is in
      Bare (subst (λ (x : Marked). NoStart x.seen.items) (sym same) none) (ap (λ (x : Marked). x.marks) same ∙ no_marks)
  by_once false id bytes walks =
      let file = enters stores (Walks stores open_limit) (all_good stores open_limit) outside 0 id bytes pre m walks in
      Walked pre.seen file.path file.inner words none file.rises file.items
      (file.marks ∙ ap (λ (list : List Mark). list ++ marks_onto [] (suc (length pre.seen.items)) file.inner (mark [] None (suc (length pre.seen.items) + size file.inner) ∷ [])) no_marks)

  by_found : (name : List ℕ) (located : Located) (bytes : List ℕ) → IncludesFound stores (Walks stores open_limit) outside 0 name pre located bytes (Ok m) → UnitLeaves spec m
  by_found name (Found id) bytes found = by_once (is_once pre.seen id) id bytes found
  by_found name Absent bytes is = cc
  by_found name TooLong bytes is = cc
  by_found name Failed bytes is = cc
  by_found name SearchRanOut bytes not = absurd not

pub unit_leaves : (stores : Stores) (spec : UnitSpec) (m : Marked) → Walk stores spec (Ok m) → UnitLeaves spec m
unit_leaves stores spec m (Goes {s = pre} part (located, bytes, finds, found)) =
    let start : Marked = record { seen = predefined; marks = [] } in
    let end = part_ends outside 0 (λ answer. answer ≡ all_commanded predefined spec.commands) start pre part in
    let none : NoStart pre.seen.items = subst (λ (x : Marked). NoStart x.seen.items) (sym end.is) (by_words spec.commands predefined end.seen refl (sym end.gives)) in
    let words : all_commanded predefined spec.commands ≡ Ok pre.seen = sym end.gives ∙ ap (λ (x : Marked). Ok x.seen) (sym end.is) in
    by_found stores spec pre m words none (ap (λ (x : Marked). x.marks) end.is) spec.source located bytes found

-- both tables are the same
agree : (spec : UnitSpec) (m : Marked) (chain : List ℕ) (l : ℕ) → UnitLeaves spec m → file_table m.seen.items chain l ≡ pre_table m chain l
agree spec m chain l (Bare plain bare) =
    ap (λ (o : Option ℕ). by_items table_of m.seen.items chain 0 o l) (never_begins m.seen.items plain)
    ∙ ap (λ (r : Result ℕ ℕ). r >>= λ s. Ok (table_of (prefix m.seen.items s l))) (no_level m.seen.items chain 0)
    ∙ ap (λ (k : ℕ). Err k) (sym (none_walked [] chain))
    ∙ sym (ap (λ (list : List Mark). ok_or (option_map (λ (found : Mark). table_of (take found.events m.seen.items)) (find (is_at chain l) list)) (files_walked list [] chain)) bare)
agree spec m chain l (Walked before path t words none rises items marks) =
    let front = before.items in
    let s = length front in
    let all = m.seen.items in
    let start : position is_start all ≡ Some s = ap (λ (list : List (Item ℕ)). position is_start list) items ∙ begins_at front (items_onto t (End ∷ [])) 0 path none in
    ap (λ (o : Option ℕ). by_items table_of all chain 0 o l) start
    ∙ whole table_of t (after_all table_of t) all (front ++ Start 0 path ∷ []) [] [] chain l s (suc s + size t) 0 []
    (items ∙ sym (append_assoc front (Start 0 path ∷ []) (items_onto t (End ∷ []))))
    (length-append front (Start 0 path ∷ []) ∙ omega arith) refl rises (alike_self (below []) [])
    ∙ ap (λ (list : List Mark). by_marks (first table_of all) list 0 [] chain l) (sym marks)
    ∙ ap (λ (k : ℕ). ok_or (table_at m chain l) k) (omega arith)

in_order : (spec : UnitSpec) (m : Marked) (chain : List ℕ) → UnitLeaves spec m → InOrder chain m.marks
in_order spec m chain (Bare plain bare) = subst (InOrder chain) (sym bare) (none_in_order chain)
in_order spec m chain (Walked before path t words none rises items marks) =
    subst (InOrder chain) (sym marks) (whole_order t (after_order t) [] chain (suc (length before.items)) (suc (length before.items) + size t) [] rises (alike_self (below []) []))

-- a table where there is a mark
has_table : (m : Marked) (chain : List ℕ) (l : ℕ) → is_ok (pre_table m chain l) ≡ is_some (find (is_at chain l) m.marks)
has_table m chain l = by (find (is_at chain l) m.marks)
  where
    by : (found : Option Mark) → is_ok (ok_or (option_map (λ (found : Mark). table_of (take found.events m.seen.items)) found) (files_walked m.marks [] chain)) ≡ is_some found
    by None = refl
    by (Some found) = refl

found_if_any : (some : Bool) (m : Marked) (chain : List ℕ) (l : ℕ) → list_any (is_of chain) m.marks ≡ some → InOrder chain m.marks → is_some (find (is_at chain l) m.marks) ≡ some
found_if_any true m chain l is order = some_found chain l 0 m.marks (order is)
found_if_any false m chain l is order = none_found chain l m.marks is

pub tables_agree : TablesAgree
tables_agree stores spec m walk chain l = agree spec m chain l (unit_leaves stores spec m walk)

pub tables_are_there : TablesAreThere
tables_are_there stores spec m walk chain l =
    let leaves = unit_leaves stores spec m walk in
    ap (λ (r : Result (TableOf ℕ) ℕ). is_ok r) (agree spec m chain l leaves) ∙ has_table m chain l ∙ found_if_any (list_any (is_of chain) m.marks) m chain l refl (in_order spec m chain leaves)

pub chains_name_one_file : ChainsNameOneFile
chains_name_one_file stores spec m walk chain = in_order spec m chain (unit_leaves stores spec m walk)
