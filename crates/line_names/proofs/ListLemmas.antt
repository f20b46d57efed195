-- A list of entries that is read is spelled by its bytes, and one that is spelled is read.
use Rattle.std.proofs.Common.{◌≡◌, ℕ, zero, suc, ◌<◌, ◌^◌, Bool, true, false, eqb, cond, List, [], ◌∷◌, ◌++◌, length, map, Option, Some, None, Result, Ok, inl, refl, ap, subst, ◌∙◌, sym, arith}
use Rattle.std.specs.Prelude.{◌||◌}
use borrow.Author.Tests.{apart_eqb}
use Rattle.mac_base.specs.Input.{Input, ahead, ◌>>=◌}
use Rattle.mac_base.specs.Fields.{number_at, uleb_at}
use Rattle.mac_base.specs.Spelling.{Between, IsUleb}
use Rattle.mac_base.specs.declared.value.Sizes.{Sizes}
use Rattle.mac_base.proofs.Choices.{bind_ok, same_ok, guarded}
use Rattle.mac_base.proofs.InputLemmas.{between_both, between_cut, byte_at-takes, byte_at-again, uleb_at-takes, uleb_at-again}
use Rattle.line_names.specs.declared.fault.LineFault.{LineFault}
use Rattle.line_names.specs.declared.format.Role.TheVariants.{Path}
use Rattle.line_names.specs.declared.format.Content.{Content}
use Rattle.line_names.specs.declared.entry.Measures.{Measures}
use Rattle.line_names.specs.Faults.{field}
use Rattle.line_names.specs.Format.{has_role, format_at}
use Rattle.line_names.specs.Entries.{Tables, Entry, no_entry, entry_at}
use Rattle.line_names.specs.Files.{repeat_at, count_at}
use Rattle.line_names.specs.Spelling.{Pair, Field, AreEach, StringSections, IsPath, IsDirectoryIndex, first_of_type, lists_type, IsEntry, IsEntryList}
use Rattle.line_names.specs.Laws.{strings_in}
use Rattle.line_names.proofs.Steps.{field_ok, between_same, Took, TookEach, repeat_takes, repeat_again}
use Rattle.line_names.proofs.PairLemmas.{contents_of, AreFitting, has_path, allowed_from, fitting_from, pairs_take, pairs_again}
use Rattle.line_names.proofs.EntryLemmas.{InRange, PathFrom, DirectoryFrom, pairs_of, fields_take, fields_again}

path_there : (s : StringSections) (one listed : Bool) (field : Field) (found : Option Field) (path : List ℕ) → (listed ≡ true → PathFrom s false found [] path → IsPath s found path) → (one || listed) ≡ true → PathFrom s false (cond one (Some field) found) [] path → IsPath s (cond one (Some field) found) path
path_there s true listed field found path later is from = from
path_there s false listed field found path later is from = later is from

-- the path of an entry in whose format there is one
path_takes : (s : StringSections) (fields : List Field) (path : List ℕ) → lists_type 1 (pairs_of fields) ≡ true → PathFrom s false (first_of_type 1 fields) [] path → IsPath s (first_of_type 1 fields) path
path_takes s [] path is from = let no : false ≡ true = is in absurd (cc)
path_takes s (field ∷ fields) path is from = path_there s (eqb field.pair.content_type 1) (lists_type 1 (pairs_of fields)) field (first_of_type 1 fields) path (path_takes s fields path) is from

path_again : (s : StringSections) (found : Option Field) (path : List ℕ) → IsPath s found path → PathFrom s false found [] path
path_again s None path is = absurd is
path_again s (Some field) path is = is

listed_there : (s : StringSections) (one listed : Bool) (field : Field) (found : Option Field) (path : List ℕ) → (IsPath s found path → listed ≡ true) → IsPath s (cond one (Some field) found) path → (one || listed) ≡ true
listed_there s true listed field found path later is = refl
listed_there s false listed field found path later is = later is

-- and its format has one
path_listed : (s : StringSections) (fields : List Field) (path : List ℕ) → IsPath s (first_of_type 1 fields) path → lists_type 1 (pairs_of fields) ≡ true
path_listed s [] path is = absurd is
path_listed s (field ∷ fields) path is = listed_there s (eqb field.pair.content_type 1) (lists_type 1 (pairs_of fields)) field (first_of_type 1 fields) path (path_listed s fields path) is

zero_in_range : (limit : Option ℕ) → InRange limit 0
zero_in_range None = tt
zero_in_range (Some count) = inl refl

index_takes : (limit : Option ℕ) (found : Option Field) (n : ℕ) → DirectoryFrom limit false found 0 n → IsDirectoryIndex found n × InRange limit n
index_takes limit None n from = (from, subst (InRange limit) (sym from) (zero_in_range limit))
index_takes limit (Some field) n from = from

index_again : (limit : Option ℕ) (found : Option Field) (n : ℕ) → IsDirectoryIndex found n → InRange limit n → DirectoryFrom limit false found 0 n
index_again limit None n is range = is
index_again limit (Some field) n is range = (is, range)

-- an entry, and that its directory is in range
abbrev pub IsRanged : StringSections → Measures → List Pair → List ℕ → Entry → Type 0
IsRanged s m format bytes entry = IsEntry s m.sizes format bytes entry × InRange m.directories entry.directory

-- an entry, seen by a view
abbrev pub viewed_at : {A : Type 0} → Tables → Measures → (Entry → A) → List Content → Input → Result (A × Input) LineFault
viewed_at t m view contents p = entry_at t m contents no_entry p >>= λ entry. Ok (view entry.0, entry.1)

entry_takes : {A : Type 0} (t : Tables) (m : Measures) (view : Entry → A) (format : List Pair) → AreFitting [] format → lists_type 1 format ≡ true → (p q : Input) (value : A) → viewed_at t m view (contents_of [] format) p ≡ Ok (value, q) → Took (IsRanged (strings_in t) m format) view p q value
entry_takes {A} t m view format fit listed p q value is =
    let read = bind_ok (entry_at t m (contents_of [] format) no_entry p) _ (value, q) is in
    let same = same_ok {E = LineFault} (view read.0.0, read.0.1) (value, q) read.2 in
    let took = fields_take t m [] format p read.0.1 no_entry read.0.0 fit read.1 in
    let index = index_takes m.directories (first_of_type 2 took.fields) read.0.0.directory took.directory in
    record {
      item = read.0.0;
      bytes = took.bytes;
      between = subst (λ (z : Input). Between p z took.bytes) (ap (λ (x : A × Input). x.1) same) took.between;
      is_one = (
        record {
          fields = took.fields;
          spelled = took.are_fields;
          by_format = took.by_pairs;
          is_path = path_takes (strings_in t) took.fields read.0.0.path (ap (lists_type 1) took.by_pairs ∙ listed) took.path;
          is_directory = index.0;
        },
        index.1,
      );
      is_value = ap (λ (x : A × Input). x.0) same;
    }

entry_again : {A : Type 0} (t : Tables) (m : Measures) (view : Entry → A) (format : List Pair) → AreFitting [] format → (p q : Input) (bytes : List ℕ) (entry : Entry) → Between p q bytes → IsRanged (strings_in t) m format bytes entry → viewed_at t m view (contents_of [] format) p ≡ Ok (view entry, q)
entry_again {A} t m view format fit p q bytes entry between is =
    let one = is.0 in
    let fit' : AreFitting [] (pairs_of one.fields) = subst (AreFitting []) (sym one.by_format) fit in
    let path = path_again (strings_in t) (first_of_type 1 one.fields) entry.path one.is_path in
    let index = index_again m.directories (first_of_type 2 one.fields) entry.directory one.is_directory is.1 in
    let read = fields_again t m one.fields [] p q bytes no_entry entry between one.spelled fit' path index in
    let read' : entry_at t m (contents_of [] format) no_entry p ≡ Ok (entry, q) = subst (λ (pairs : List Pair). entry_at t m (contents_of [] pairs) no_entry p ≡ Ok (entry, q)) one.by_format read in
    ap (λ (r : Result (Entry × Input) LineFault). r >>= λ e. Ok (view e.0, e.1)) read'

some_entries : (n : ℕ) (listed : Bool) → (eqb (suc n) 0 || listed) ≡ listed
some_entries n listed = rw (apart_eqb (suc n) 0 (λ none. absurd (omega arith))) refl

entries_take : {A : Type 0} (t : Tables) (m : Measures) (view : Entry → A) (format : List Pair) → AreFitting [] format → (n : ℕ) → (eqb n 0 || lists_type 1 format) ≡ true → (p q : Input) (values : List A) → repeat_at (viewed_at t m view (contents_of [] format)) n p ≡ Ok (values, q) → TookEach (IsRanged (strings_in t) m format) view n p q values
entries_take {A} t m view format fit zero some p q values is =
    let same = same_ok {E = LineFault} ([], p) (values, q) is in
    record {
      items = [];
      bytes = [];
      between = between_same p q (ap (λ (x : List A × Input). x.1) same);
      are_each = refl;
      are_values = ap (λ (x : List A × Input). x.0) same;
      long = refl;
    }
entries_take {A} t m view format fit (suc n) some p q values is =
    repeat_takes (IsRanged (strings_in t) m format) view (viewed_at t m view (contents_of [] format)) (entry_takes t m view format fit (sym (some_entries n (lists_type 1 format)) ∙ some)) (suc n) p q values is

-- the directories of all entries are in range
abbrev pub AreInRange : Option ℕ → List Entry → Type 0
AreInRange limit [] = Unit {0}
AreInRange limit (entry ∷ entries) = InRange limit entry.directory × AreInRange limit entries

apart : (s : StringSections) (m : Measures) (format : List Pair) (entries : List Entry) (bytes : List ℕ) → AreEach (IsRanged s m format) bytes entries → AreEach (IsEntry s m.sizes format) bytes entries × AreInRange m.directories entries
apart s m format [] bytes are = (are, tt)
apart s m format (entry ∷ entries) bytes are =
    let more = apart s m format entries are.1 are.4 in
    ((are.0, are.1, are.2, are.3.0, more.0), (are.3.1, more.1))

together : (s : StringSections) (m : Measures) (format : List Pair) (entries : List Entry) (bytes : List ℕ) → AreEach (IsEntry s m.sizes format) bytes entries → AreInRange m.directories entries → AreEach (IsRanged s m format) bytes entries
together s m format [] bytes are range = are
together s m format (entry ∷ entries) bytes are range = (are.0, are.1, are.2, (are.3, range.0), together s m format entries are.1 are.4 range.1)

-- a list of entries, seen by a view
abbrev pub list_at : {A : Type 0} → Tables → Measures → (Entry → A) → Input → Result (List A × Input) LineFault
list_at t m view p = do
  format ← format_at p
  count ← count_at format.0 format.1
  repeat_at (viewed_at t m view format.0) count.0 count.1

-- what was read as a list
pub record TookList {A : Type 0} (t : Tables) (m : Measures) (view : Entry → A) (p q : Input) (values : List A) : Type 0 where
  pub entries : List Entry
  pub bytes : List ℕ
  pub between : Between p q bytes
  pub is_list : IsEntryList (strings_in t) m.sizes bytes entries
  pub range : AreInRange m.directories entries
  pub are_values : map view entries ≡ values

pub list_takes : {A : Type 0} (t : Tables) (m : Measures) (view : Entry → A) (p q : Input) (values : List A) → list_at t m view p ≡ Ok (values, q) → TookList t m view p q values
list_takes {A} t m view p q values is =
    let format = bind_ok (format_at p) _ (values, q) is in
    let byte = bind_ok (field (number_at 1 p)) _ format.0 format.1 in
    let a = byte.0.1 in
    let b = format.0.1 in
    let count = bind_ok (count_at format.0.0 b) _ (values, q) format.2 in
    let c = count.0.1 in
    let number = bind_ok (field (uleb_at b)) _ count.0 count.1 in
    let some = guarded (eqb number.0.0 0 || has_role Path format.0.0) (Ok number.0) count.0 _ number.2 in
    let same = same_ok {E = LineFault} number.0 count.0 some.1 in
    let first = byte_at-takes p a byte.0.0 (field_ok (number_at 1 p) byte.0 byte.1) in
    let pairs = pairs_take byte.0.0 [] a b format.0.0 byte.2 in
    let n = uleb_at-takes b c count.0.0 (field_ok (uleb_at b) number.0 number.1 ∙ ap (λ (x : ℕ × Input). Ok x) same) in
    let listed : (eqb count.0.0 0 || lists_type 1 pairs.pairs) ≡ true =
    ap (λ listed. eqb count.0.0 0 || listed) (sym (ap (has_role Path) pairs.are_contents ∙ has_path pairs.pairs)) ∙ ap (λ (x : ℕ × Input). eqb x.0 0 || has_role Path format.0.0) (sym same) ∙ some.0 in
    let read = subst (λ (contents : List Content). repeat_at (viewed_at t m view contents) count.0.0 c ≡ Ok (values, q)) pairs.are_contents count.2 in
    let took = entries_take t m view pairs.pairs pairs.fit count.0.0 listed c q values read in
    let parts = apart (strings_in t) m pairs.pairs took.items took.bytes took.are_each in
    let count_bytes = n.0 in
    let front = subst (λ k. Between p a (k ∷ [])) (sym pairs.long) first in
    let whole : List ℕ = length pairs.pairs ∷ (pairs.bytes ++ (count_bytes ++ took.bytes)) in
    record {
      entries = took.items;
      bytes = whole;
      between = between_both p a q (length pairs.pairs ∷ []) (pairs.bytes ++ (count_bytes ++ took.bytes)) front (between_both a b q pairs.bytes (count_bytes ++ took.bytes) pairs.between (between_both b c q count_bytes took.bytes n.1 took.between));
      is_list = record {
        format = pairs.pairs;
        pairs = pairs.bytes;
        count = count_bytes;
        body = took.bytes;
        spelled = refl {a = whole};
        are_pairs = pairs.are_pairs;
        allowed = allowed_from pairs.pairs pairs.fit;
        is_count = subst (IsUleb count_bytes) (sym took.long) n.2;
        count_fits = subst (λ k. k < 2 ^ 64) (sym took.long) n.3;
        are_entries = parts.0;
      };
      range = parts.1;
      are_values = took.are_values;
    }

-- where there are entries their format has a path
some_listed : (s : StringSections) (sizes : Sizes) (format : List Pair) (entries : List Entry) (bytes : List ℕ) → AreEach (IsEntry s sizes format) bytes entries → (eqb (length entries) 0 || lists_type 1 format) ≡ true
some_listed s sizes format [] bytes are = refl
some_listed s sizes format (entry ∷ entries) bytes are =
    let one = are.3 in
    some_entries (length entries) (lists_type 1 format) ∙ ap (lists_type 1) (sym one.by_format) ∙ path_listed s one.fields entry.path one.is_path

pub list_again : {A : Type 0} (t : Tables) (m : Measures) (view : Entry → A) (p q : Input) (bytes : List ℕ) (entries : List Entry) → Between p q bytes → IsEntryList (strings_in t) m.sizes bytes entries → AreInRange m.directories entries → list_at t m view p ≡ Ok (map view entries, q)
list_again {A} t m view p q bytes entries between is range =
    let whole = subst (λ (xs : List ℕ). Between p q xs) is.spelled between in
    let first = between_cut p q (length is.format ∷ []) (is.pairs ++ (is.count ++ is.body)) whole in
    let a = ahead p 1 in
    let second = between_cut a q is.pairs (is.count ++ is.body) first.1 in
    let b = ahead a (length is.pairs) in
    let third = between_cut b q is.count is.body second.1 in
    let c = ahead b (length is.count) in
    let fit = fitting_from is.format is.allowed in
    let listed : (eqb (length entries) 0 || has_role Path (contents_of [] is.format)) ≡ true =
    ap (λ listed. eqb (length entries) 0 || listed) (has_path is.format) ∙ some_listed (strings_in t) m.sizes is.format entries is.body is.are_entries in
    rw (byte_at-again p a (length is.format) first.0, pairs_again is.format [] a b is.pairs second.0 is.are_pairs fit, uleb_at-again b c is.count (length entries) third.0 is.is_count is.count_fits, listed)
    (repeat_again (IsRanged (strings_in t) m is.format) view (viewed_at t m view (contents_of [] is.format)) (entry_again t m view is.format fit) entries c q is.body third.1 (together (strings_in t) m is.format entries is.body is.are_entries range))
