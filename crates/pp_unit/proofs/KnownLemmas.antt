-- Paths and files that are found in ordered maps and sets, beside the lists that hold them.
use Rattle.std.proofs.Common.{◌≡◌, ℕ, ◌+◌, ◌<◌, ◌≤◌, ◌==◌, nat_lt, Bool, true, false, cond, ◌&&◌, ◌||◌, List, [], ◌∷◌, ◌++◌, length, map, Option, Some, None, refl, ap, sym, ◌∙◌, subst, arith, get_or, not, ◌⊎◌, inl, inr}
use Rattle.std.specs.Prelude.{position}
use Rattle.std.specs.List.{position_or_len, list_any, AllByRecursion}
use Rattle.std.specs.Option.{option_map}
use Rattle.std.specs.Ordering.{nat_cmp, eq_by_cmp, is_eq, ordering_then}
use Rattle.std.specs.Cmp.Lexicographic.{slice_cmp, nat_list_cmp_total, texts_ties}
use Rattle.std.specs.FinMap as finite
use Rattle.std.specs.BTreeMap.{insert_entry}
use Rattle.std.specs.BTreeSet.{BTreeSet, contains}
use Rattle.std.proofs.Math.Dec.{eqb}
use Rattle.std.proofs.Math.Seq.{get_or-append_seam}
use Rattle.std.proofs.lemmas.Bool.Decides.{Decides-eqb, same_from_decides, nat_tests}
use Rattle.std.proofs.lemmas.List.{get_or_append_left, length-append, map-append}
use Rattle.std.proofs.lemmas.List.Folds.{position_or_len_push, list_any-append}
use Rattle.std.proofs.lemmas.List.Quantifiers.{position-Some}
use Rattle.std.proofs.lemmas.List.Sums.{fails_before_first, prefix_len-le-length}
use Rattle.std.proofs.lemmas.Slice.Eq.{bytes_eq-Decides}
use Rattle.mac_io.specs.declared.headers.FileId.{FileId}
use Rattle.pp_tokens.specs.Kinds.{same}
use Rattle.mac_base.proofs.TableLemmas.{inserted}
use Rattle.pp_unit.specs.Seen.{number_or, same_file, with_path}
use Rattle.pp_unit.specs.Recorded.{AreKnown, AreNumbered, file_of, pair_cmp, same_pair}

-- the first place, or another
abbrev place_or : Option ℕ → Option ℕ → Option ℕ
place_or None other = other
place_or (Some place) other = Some place

place_or_none : (place : Option ℕ) → place_or place None ≡ place
place_or_none None = refl
place_or_none (Some place) = refl

place_by : (t : Bool) (n : ℕ) (other : Option ℕ) → place_or (cond t (Some n) None) other ≡ cond t (Some n) other
place_by true n other = refl
place_by false n other = refl

pushed_by : (b : Bool) (n long : ℕ) → n ≤ long
    → cond (nat_lt (cond (eqb n long) (long + cond b 0 1) n) (long + 1)) (Some (cond (eqb n long) (long + cond b 0 1) n)) None ≡ cond (nat_lt n long) (Some n) (cond b (Some long) None)
pushed_by true n long most = grind (arith, nat_tests)
pushed_by false n long most = grind (arith, nat_tests)

place_at_most : {X : Type 0} (p : X → Bool) (xs : List X) → position_or_len p xs ≤ length xs
place_at_most p xs = prefix_len-le-length (λ x. not (p x)) xs

-- where the list has one element more
position_push : {X : Type 0} (p : X → Bool) (xs : List X) (y : X) → position p (xs ++ y ∷ []) ≡ place_or (position p xs) (cond (p y) (Some (length xs)) None)
position_push p xs y =
    let long : length (xs ++ y ∷ []) ≡ length xs + 1 = length-append xs (y ∷ []) in
    rw (position_or_len_push p xs y, long) (pushed_by (p y) (position_or_len p xs) (length xs) (place_at_most p xs))
    ∙ sym (place_by (nat_lt (position_or_len p xs) (length xs)) (position_or_len p xs) (cond (p y) (Some (length xs)) None))

-- a path of the same bytes
path_is : (one other : List ℕ) → same one other ≡ true → one ≡ other
path_is one other is = (bytes_eq-Decides one other).0 is

itself : (path : List ℕ) → same path path ≡ true
itself path = (bytes_eq-Decides path path).1 refl

put_by : (b : Bool) (place : Option ℕ) (long : ℕ) → (b ≡ true → place ≡ None) → cond b (Some long) place ≡ place_or place (cond b (Some long) None)
put_by true place long new = ap (λ o. place_or o (Some long)) (sym (new refl))
put_by false place long new = sym (place_or_none place)

-- a new path has the number that was the next
pub numbered_more : (numbers : finite.FinMap (slice_cmp nat_cmp) ℕ) (paths : List (List ℕ)) (path : List ℕ) → AreNumbered numbers paths → position (same path) paths ≡ None
    → AreNumbered (finite.insert numbers path (length paths)) (paths ++ path ∷ [])
numbered_more numbers paths path are new other =
    finite.get-insert nat_list_cmp_total numbers path (length paths) other
    ∙ ap (cond (eq_by_cmp (slice_cmp nat_cmp) other path) (Some (length paths))) (are other)
    ∙ ap (λ b. cond b (Some (length paths)) (position (same other) paths)) (sym (texts_ties other path))
    ∙ put_by (same other path) (position (same other) paths) (length paths) (λ is. ap (λ (p : List ℕ). position (same p) paths) (path_is other path is) ∙ new)
    ∙ sym (position_push (same other) paths path)

-- without entries there are no paths
pub numbered_none : {K : Type 0} (name : K → List ℕ) (entries : List (K × ℕ)) (paths : List (List ℕ)) → entries ≡ [] → paths ≡ [] → AreNumbered (finite.from_entries (map (λ (e : K × ℕ). (name e.0, e.1)) entries)) paths
numbered_none {K} name entries paths none bare path =
    ap (λ (es : List (K × ℕ)). finite.get (finite.from_entries {R = slice_cmp nat_cmp} (map (λ (e : K × ℕ). (name e.0, e.1)) es)) path) none
    ∙ finite.get-empty (slice_cmp nat_cmp) path
    ∙ ap (λ (ps : List (List ℕ)). position (same path) ps) (sym bare)

-- a new path has that number, where the map is that of a tree's entries
pub numbered_new : {K : Type 0} (name : K → List ℕ) (entries : List (K × ℕ)) (key : K) (number : ℕ) (paths : List (List ℕ)) (path : List ℕ) → name key ≡ path → number ≡ length paths → position (same path) paths ≡ None
    → AreNumbered (finite.from_entries (map (λ (e : K × ℕ). (name e.0, e.1)) entries)) paths
    → AreNumbered (finite.from_entries (map (λ (e : K × ℕ). (name e.0, e.1)) (insert_entry (λ x y. slice_cmp nat_cmp (name x) (name y)) entries key number))) (paths ++ path ∷ [])
numbered_new {K} name entries key number paths path named next new are =
    let before : finite.FinMap (slice_cmp nat_cmp) ℕ = finite.from_entries (map (λ (e : K × ℕ). (name e.0, e.1)) entries) in
    let after : finite.from_entries (map (λ (e : K × ℕ). (name e.0, e.1)) (insert_entry (λ x y. slice_cmp nat_cmp (name x) (name y)) entries key number)) ≡ finite.insert before path (length paths) =
    inserted name (λ n. n) entries key number ∙ ap (λ (p : List ℕ). finite.insert before p number) named ∙ ap (finite.insert before path) next in
    subst (λ (m : finite.FinMap (slice_cmp nat_cmp) ℕ). AreNumbered m (paths ++ path ∷ [])) (sym after) (numbered_more before paths path are new)

pub number_alone : (number : Option ℕ) → option_map (λ n. n) number ≡ number
number_alone None = refl
number_alone (Some number) = refl

-- nothing is there
absent_by : (t : Bool) (n : ℕ) → cond t (Some n) None ≡ None → t ≡ false
absent_by true n is = cc
absent_by false n is = refl

absent : {X : Type 0} (p : X → Bool) (xs : List X) (k : ℕ) (d : X) → position p xs ≡ None → k < length xs → p (get_or xs k d) ≡ false
absent p xs k d none below =
    let past : nat_lt (position_or_len p xs) (length xs) ≡ false = absent_by _ _ none in
    fails_before_first p xs k d (grind (arith, nat_tests))

neither : (a b c : Bool) → b ≡ false → c ≡ false → ((a && b) || c) ≡ false
neither true true c one other = cc
neither true false c one other = other
neither false b c one other = other

-- a file whose name is nowhere is not among them
none_known : (names : List (List ℕ)) (files : List (ℕ × ℕ)) (id : FileId) → position (same id.name) names ≡ None → AllByRecursion (λ (file : ℕ × ℕ). file.1 < length names) files
    → list_any (same_file id) (map (file_of names) files) ≡ false
none_known names [] id none named = refl
none_known names (file ∷ files) id none named =
    neither (id.store == file.0) (same id.name (get_or names file.1 [])) (list_any (same_file id) (map (file_of names) files))
    (absent (same id.name) names file.1 [] none named.0) (none_known names files id none named.1)

-- a name is at its number alone
abbrev Different : List (List ℕ) → Type 0
Different names = (number : ℕ) → number < length names → position (same (get_or names number [])) names ≡ Some number

named_by : (names : List (List ℕ)) (name : List ℕ) (n k : ℕ) → Different names → position (same name) names ≡ Some n → k < length names → same name (get_or names k []) ≡ (n == k)
named_by names name n k different there below =
    let to : same name (get_or names k []) ≡ true → n ≡ k = λ is.
    let both : Some n ≡ Some k = sym there ∙ ap (λ (p : List ℕ). position (same p) names) (path_is name (get_or names k []) is) ∙ different k below in cc in
    let from : n ≡ k → same name (get_or names k []) ≡ true = λ is. subst (λ j. same name (get_or names j []) ≡ true) is (position-Some (same name) names n [] there).1 in
    same_from_decides (same name (get_or names k [])) (n == k) (to, from) (Decides-eqb n k)

-- files of names that are all there are told apart by their numbers
some_known : (names : List (List ℕ)) (files : List (ℕ × ℕ)) (id : FileId) (n : ℕ) → Different names → position (same id.name) names ≡ Some n → AllByRecursion (λ (file : ℕ × ℕ). file.1 < length names) files
    → list_any (same_file id) (map (file_of names) files) ≡ list_any (same_pair (id.store, n)) files
some_known names [] id n different there named = refl
some_known names (file ∷ files) id n different there named =
    let head = named_by names id.name n file.1 different there named.0 in
    let tail = some_known names files id n different there named.1 in
    λ i. ((id.store == file.0) && head i) || tail i

pub has_none : (names : List (List ℕ)) (files : List (ℕ × ℕ)) (known : BTreeSet (ℕ × ℕ)) (id : FileId) → AreKnown names files known → position (same id.name) names ≡ None
    → false ≡ list_any (same_file id) (map (file_of names) files)
has_none names files known id are none = sym (none_known names files id none are.named)

pub has_some : (names : List (List ℕ)) (files : List (ℕ × ℕ)) (known : BTreeSet (ℕ × ℕ)) (id : FileId) (n : ℕ) → AreKnown names files known → position (same id.name) names ≡ Some n
    → contains pair_cmp known (id.store, n) ≡ list_any (same_file id) (map (file_of names) files)
has_some names files known id n are there = are.found (id.store, n) ∙ sym (some_known names files id n are.different there are.named)

-- the name is at its number after it
name_at : (names : List (List ℕ)) (name : List ℕ) (place : Option ℕ) → position (same name) names ≡ place → get_or (with_path names name place) (number_or (length names) place) [] ≡ name
name_at names name None is = get_or-append_seam names name [] []
name_at names name (Some n) is = sym (path_is name (get_or names n []) (position-Some (same name) names n [] is).1)

number_below : (names : List (List ℕ)) (name : List ℕ) (place : Option ℕ) → position (same name) names ≡ place → number_or (length names) place < length (with_path names name place)
number_below names name None is = omega (arith, length-append names (name ∷ []))
number_below names name (Some n) is = (position-Some (same name) names n [] is).0

-- the others stay
stays_at : (names : List (List ℕ)) (name : List ℕ) (place : Option ℕ) (k : ℕ) → k < length names → get_or (with_path names name place) k [] ≡ get_or names k []
stays_at names name None k below = get_or_append_left names (name ∷ []) [] k below
stays_at names name (Some n) k below = refl

grown : (names : List (List ℕ)) (name : List ℕ) (place : Option ℕ) → length names ≤ length (with_path names name place)
grown names name None = omega (arith, length-append names (name ∷ []))
grown names name (Some n) = omega arith

different_at : (names : List (List ℕ)) (name : List ℕ) (k : ℕ) → Different names → position (same name) names ≡ None → (k < length names) ⊎ (k ≡ length names)
    → position (same (get_or (names ++ name ∷ []) k [])) (names ++ name ∷ []) ≡ Some k
different_at names name k different new (inl below) =
    ap (λ (p : List ℕ). position (same p) (names ++ name ∷ [])) (get_or_append_left names (name ∷ []) [] k below)
    ∙ position_push (same (get_or names k [])) names name
    ∙ ap (λ o. place_or o (cond (same (get_or names k []) name) (Some (length names)) None)) (different k below)
different_at names name k different new (inr is) =
    ap (λ j. position (same (get_or (names ++ name ∷ []) j [])) (names ++ name ∷ [])) is
    ∙ ap (λ (p : List ℕ). position (same p) (names ++ name ∷ [])) (get_or-append_seam names name [] [])
    ∙ position_push (same name) names name
    ∙ ap (λ o. place_or o (cond (same name name) (Some (length names)) None)) new
    ∙ ap (λ b. cond b (Some (length names)) None) (itself name)
    ∙ ap (λ j. Some j) (sym is)

below_or_at : (k long : ℕ) → k < long + 1 → (k < long) ⊎ (k ≡ long)
below_or_at k long below = by (nat_lt k long) refl
  where
    by : (t : Bool) → nat_lt k long ≡ t → (k < long) ⊎ (k ≡ long)
    by true is = inl (grind (arith, nat_tests))
    by false is = inr (grind (arith, nat_tests))

different_more : (names : List (List ℕ)) (name : List ℕ) (place : Option ℕ) → Different names → position (same name) names ≡ place → Different (with_path names name place)
different_more names name None different is = λ k below. different_at names name k different is (below_or_at k (length names) (omega (arith, length-append names (name ∷ []))))
different_more names name (Some n) different is = different

within_more : (n m : ℕ) (files : List (ℕ × ℕ)) (last : ℕ × ℕ) → n ≤ m → last.1 < m → AllByRecursion (λ (file : ℕ × ℕ). file.1 < n) files → AllByRecursion (λ (file : ℕ × ℕ). file.1 < m) (files ++ last ∷ [])
within_more n m [] last less below named = (below, tt)
within_more n m (file ∷ files) last less below named =
    let first : file.1 < n = named.0 in
    (omega arith, within_more n m files last less below named.1)

pair_test : (a b c d : ℕ) → is_eq (ordering_then (nat_cmp a c) (nat_cmp b d)) ≡ ((c == a) && (d == b))
pair_test a b c d = grind (arith, nat_tests)

or_at_end : (t b c : Bool) → t ≡ b → cond t true c ≡ (c || (b || false))
or_at_end true true true is = refl
or_at_end true true false is = refl
or_at_end false false true is = refl
or_at_end false false false is = refl
or_at_end true false c is = cc
or_at_end false true c is = cc

found_more : (files : List (ℕ × ℕ)) (known next : BTreeSet (ℕ × ℕ)) (last : ℕ × ℕ) → ((file : ℕ × ℕ) → contains pair_cmp known file ≡ list_any (same_pair file) files)
    → ((file : ℕ × ℕ) → contains pair_cmp next file ≡ cond (is_eq (pair_cmp last file)) true (contains pair_cmp known file))
    → (file : ℕ × ℕ) → contains pair_cmp next file ≡ list_any (same_pair file) (files ++ last ∷ [])
found_more files known next last found updates file =
    updates file
    ∙ ap (cond (is_eq (pair_cmp last file)) true) (found file)
    ∙ or_at_end (is_eq (pair_cmp last file)) (same_pair file last) (list_any (same_pair file) files) (pair_test last.0 last.1 file.0 file.1)
    ∙ sym (list_any-append (same_pair file) files (last ∷ []))

-- one file more is found
pub known_more : (names all : List (List ℕ)) (files : List (ℕ × ℕ)) (known next : BTreeSet (ℕ × ℕ)) (name : List ℕ) (store number : ℕ) → AreKnown names files known
    → all ≡ with_path names name (position (same name) names) → number ≡ number_or (length names) (position (same name) names)
    → ((file : ℕ × ℕ) → contains pair_cmp next file ≡ cond (is_eq (pair_cmp (store, number) file)) true (contains pair_cmp known file))
    → AreKnown all (files ++ (store, number) ∷ []) next
known_more names all files known next name store number are more is updates = record {
  different = subst (λ (ns : List (List ℕ)). Different ns) (sym more) (different_more names name (position (same name) names) are.different refl);
  named =
      let long : length names ≤ length all = subst (λ (ns : List (List ℕ)). length names ≤ length ns) (sym more) (grown names name (position (same name) names)) in
      let below : number < length all = subst (λ (ns : List (List ℕ)). number < length ns) (sym more) (subst (λ n. n < length (with_path names name (position (same name) names))) (sym is) (number_below names name (position (same name) names) refl)) in
      within_more (length names) (length all) files (store, number) long below are.named;
  found = found_more files known next (store, number) are.found updates;
}

files_stay : (names : List (List ℕ)) (name : List ℕ) (place : Option ℕ) (files : List (ℕ × ℕ)) → AllByRecursion (λ (file : ℕ × ℕ). file.1 < length names) files → map (file_of (with_path names name place)) files ≡ map (file_of names) files
files_stay names name place [] named = refl
files_stay names name place (file ∷ files) named =
    let head : file_of (with_path names name place) file ≡ file_of names file = ap (λ (n : List ℕ). record { store = file.0; name = n }) (stays_at names name place file.1 named.0) in
    let tail = files_stay names name place files named.1 in
    λ i. head i ∷ tail i

-- and it comes after the others
pub files_more : (names all : List (List ℕ)) (files : List (ℕ × ℕ)) (known : BTreeSet (ℕ × ℕ)) (name : List ℕ) (id : FileId) (number : ℕ) → AreKnown names files known → name ≡ id.name
    → all ≡ with_path names name (position (same name) names) → number ≡ number_or (length names) (position (same name) names)
    → map (file_of all) (files ++ (id.store, number) ∷ []) ≡ map (file_of names) files ++ id ∷ []
files_more names all files known name id number are named more is =
    let after : file_of all (id.store, number) ≡ id =
    ap (λ (ns : List (List ℕ)). file_of ns (id.store, number)) more
    ∙ ap (λ (n : ℕ). file_of (with_path names name (position (same name) names)) (id.store, n)) is
    ∙ ap (λ (n : List ℕ). record { store = id.store; name = n }) (name_at names name (position (same name) names) refl ∙ named) in
    let before : map (file_of all) files ≡ map (file_of names) files =
    ap (λ (ns : List (List ℕ)). map (file_of ns) files) more ∙ files_stay names name (position (same name) names) files are.named in
    map-append (file_of all) files ((id.store, number) ∷ [])
    ∙ (λ i. before i ++ after i ∷ [])
