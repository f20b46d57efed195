-- The strings of a pool, their offsets and the table of them.
use Rattle.std.proofs.Common.{◌≡◌, ℕ, suc, take, drop, ◌+◌, ◌<◌, ◌≤◌, Bool, true, false, cond, ltb, ◌||◌, List, [], ◌∷◌, ◌++◌, length, map, Option, Some, None, refl, ap, subst, ◌∙◌, sym, arith, append_assoc, append-nil, length-append}
use Rattle.std.specs.Prelude.{bytes_eq}
use Rattle.std.specs.Option.{option_map}
use Rattle.std.specs.Ordering.{nat_cmp}
use Rattle.std.specs.Cmp.Lexicographic.{slice_cmp, nat_list_cmp_total}
use Rattle.std.specs.FinMap as finite
use Rattle.std.specs.BTreeMap.{insert_entry}
use borrow.Author.Tests.{le-ltb}
use Rattle.std.proofs.Math.Seq.{take-append_seam}
use Rattle.std.proofs.lemmas.List.{length-take, length-take-le, take-append-le, drop-append-le, drop_at}
use Rattle.std.proofs.lemmas.List.Folds.{list_any-append}
use Rattle.std.proofs.lemmas.Grind.{flat_map-append}
use Rattle.std.proofs.lemmas.Map.Text.{is_eq-slice_cmp}
use Rattle.std.proofs.lemmas.Slice.Eq.{bytes_eq-Decides}
use Rattle.mac_base.proofs.TableLemmas.{inserted}
use Rattle.string_sections.specs.Pool.{has_string, add_string, pool_bytes, offset_in, pool_limit, is_too_large_with}
use Rattle.string_sections.specs.PoolTable.{strings_in, place_in, IsPool}

pub same_text : (a b : List ℕ) → bytes_eq a b ≡ true → a ≡ b
same_text a b is = (bytes_eq-Decides a b).0 is

pub itself : (a : List ℕ) → bytes_eq a a ≡ true
itself a = (bytes_eq-Decides a a).1 refl

pub bytes_first : (first : List ℕ) (pool : List (List ℕ)) (more : List ℕ) → pool_bytes (first ∷ pool) ++ more ≡ (first ++ 0 ∷ []) ++ (pool_bytes pool ++ more)
bytes_first first pool more = append_assoc (first ++ 0 ∷ []) (pool_bytes pool) more

bytes_long : (first : List ℕ) (pool : List (List ℕ)) → length (pool_bytes (first ∷ pool)) ≡ length first + 1 + length (pool_bytes pool)
bytes_long first pool = omega (arith, length-append (first ++ 0 ∷ []) (pool_bytes pool), length-append first (0 ∷ []))

-- a string that the pool lacks would be after all others
pub offset_lacking : (pool : List (List ℕ)) (s : List ℕ) → has_string pool s ≡ false → offset_in pool s ≡ length (pool_bytes pool)
offset_lacking [] s lacks = refl
offset_lacking (first ∷ pool) s lacks = lacking_by (bytes_eq s first) first pool s lacks (offset_lacking pool s)
  where
    lacking_by : (t : Bool) (first : List ℕ) (pool : List (List ℕ)) (s : List ℕ) → (t || has_string pool s) ≡ false → (has_string pool s ≡ false → offset_in pool s ≡ length (pool_bytes pool))
        → cond t 0 (length first + 1 + offset_in pool s) ≡ length (pool_bytes (first ∷ pool))
    lacking_by true first pool s lacks later = cc
    lacking_by false first pool s lacks later = ap (λ n. length first + 1 + n) (later lacks) ∙ sym (bytes_long first pool)

-- what is put at the end of a pool leaves the offsets of its strings
pub offset_kept : (pool : List (List ℕ)) (s added : List ℕ) → has_string pool s ≡ true → offset_in (pool ++ added ∷ []) s ≡ offset_in pool s
offset_kept [] s added has = cc
offset_kept (first ∷ pool) s added has = kept_by (bytes_eq s first) first (offset_in (pool ++ added ∷ []) s) (offset_in pool s) (has_string pool s) has (offset_kept pool s added)
  where
    kept_by : (t : Bool) (first : List ℕ) (n m : ℕ) (u : Bool) → (t || u) ≡ true → (u ≡ true → n ≡ m) → cond t 0 (length first + 1 + n) ≡ cond t 0 (length first + 1 + m)
    kept_by true first n m u has later = refl
    kept_by false first n m u has later = ap (λ k. length first + 1 + k) (later has)

-- a string that is put at the end is after all others
pub offset_put : (pool : List (List ℕ)) (s : List ℕ) → has_string pool s ≡ false → offset_in (pool ++ s ∷ []) s ≡ length (pool_bytes pool)
offset_put [] s lacks = ap (λ t. cond t 0 (length s + 1 + 0)) (itself s)
offset_put (first ∷ pool) s lacks = put_by (bytes_eq s first) first pool (offset_in (pool ++ s ∷ []) s) (has_string pool s) lacks (offset_put pool s)
  where
    put_by : (t : Bool) (first : List ℕ) (pool : List (List ℕ)) (n : ℕ) (u : Bool) → (t || u) ≡ false → (u ≡ false → n ≡ length (pool_bytes pool)) → cond t 0 (length first + 1 + n) ≡ length (pool_bytes (first ∷ pool))
    put_by true first pool n u lacks later = cc
    put_by false first pool n u lacks later = ap (λ k. length first + 1 + k) (later lacks) ∙ sym (bytes_long first pool)

pub has_put : (pool : List (List ℕ)) (s q : List ℕ) → has_string (pool ++ s ∷ []) q ≡ (has_string pool q || (bytes_eq q s || false))
has_put pool s q = list_any-append (bytes_eq q) pool (s ∷ [])

place_by : (t h : Bool) (pool : List (List ℕ)) (s q : List ℕ) → bytes_eq q s ≡ t → has_string pool q ≡ h → has_string pool s ≡ false
    → cond t (Some (length (pool_bytes pool))) (cond h (Some (offset_in pool q)) None) ≡ cond (h || (t || false)) (Some (offset_in (pool ++ s ∷ []) q)) None
place_by true true pool s q same has lacks =
    let both : has_string pool q ≡ has_string pool s = ap (has_string pool) (same_text q s same) in
    cc
place_by true false pool s q same has lacks =
    let one : q ≡ s = same_text q s same in
    ap (λ n. Some n) (sym (ap (offset_in (pool ++ s ∷ [])) one ∙ offset_put pool s lacks))
place_by false true pool s q same has lacks = ap (λ n. Some n) (sym (offset_kept pool q s has))
place_by false false pool s q same has lacks = refl

-- the table of a pool with one string more
pub place_put : (pool : List (List ℕ)) (s q : List ℕ) → has_string pool s ≡ false → cond (bytes_eq q s) (Some (length (pool_bytes pool))) (place_in pool q) ≡ place_in (pool ++ s ∷ []) q
place_put pool s q lacks =
    place_by (bytes_eq q s) (has_string pool q) pool s q refl refl lacks ∙ sym (ap (λ h. cond h (Some (offset_in (pool ++ s ∷ []) q)) None) (has_put pool s q))

-- bytes that are strings of these lengths
abbrev IsWhole : List ℕ → List ℕ → Type 0
IsWhole lengths bytes = pool_bytes (strings_in lengths bytes) ≡ bytes

-- the first string, and what follows its NUL
first_whole : (n : ℕ) (lengths bytes : List ℕ) → IsWhole (n ∷ lengths) bytes → (n + 1 ≤ length bytes) × IsWhole lengths (drop (n + 1) bytes)
first_whole n lengths bytes whole =
    let rest = pool_bytes (strings_in lengths (drop (n + 1) bytes)) in
    let total : length bytes ≡ length (take n bytes) + 1 + length rest = omega (arith, sym (ap length whole), length-append (take n bytes ++ 0 ∷ []) rest, length-append (take n bytes) (0 ∷ [])) in
    let inside : n + 1 ≤ length bytes = omega (arith, total, length-take n bytes) in
    let long : length (take n bytes ++ 0 ∷ []) ≡ n + 1 = omega (arith, length-append (take n bytes) (0 ∷ []), length-take-le n bytes (omega (arith, inside))) in
    (inside, sym (drop_at (take n bytes ++ 0 ∷ []) rest (n + 1) long) ∙ ap (drop (n + 1)) whole)

pub strings_put : (lengths bytes s : List ℕ) → IsWhole lengths bytes → strings_in (lengths ++ length s ∷ []) (bytes ++ (s ++ 0 ∷ [])) ≡ strings_in lengths bytes ++ s ∷ []
strings_put [] bytes s whole =
    ap (λ (xs : List ℕ). strings_in (length s ∷ []) (xs ++ (s ++ 0 ∷ []))) (sym whole) ∙ ap (λ (t : List ℕ). t ∷ []) (take-append_seam s (0 ∷ []))
strings_put (n ∷ lengths) bytes s whole =
    let first = first_whole n lengths bytes whole in
    let kept : take n (bytes ++ (s ++ 0 ∷ [])) ≡ take n bytes = take-append-le n bytes (s ++ 0 ∷ []) (omega (arith, first.0)) in
    let passed : drop (n + 1) (bytes ++ (s ++ 0 ∷ [])) ≡ drop (n + 1) bytes ++ (s ++ 0 ∷ []) = drop-append-le (n + 1) bytes (s ++ 0 ∷ []) first.0 in
    ap (λ (t : List ℕ). t ∷ strings_in (lengths ++ length s ∷ []) (drop (n + 1) (bytes ++ (s ++ 0 ∷ [])))) kept
    ∙ ap (λ (xs : List ℕ). take n bytes ∷ strings_in (lengths ++ length s ∷ []) xs) passed
    ∙ ap (λ (strings : List (List ℕ)). take n bytes ∷ strings) (strings_put lengths (drop (n + 1) bytes) s first.1)

pub strings_count : (lengths bytes : List ℕ) → length (strings_in lengths bytes) ≡ length lengths
strings_count [] bytes = refl
strings_count (n ∷ lengths) bytes = ap (λ k. suc k) (strings_count lengths (drop (n + 1) bytes))

bytes_put : (pool : List (List ℕ)) (s : List ℕ) → pool_bytes (pool ++ s ∷ []) ≡ pool_bytes pool ++ (s ++ 0 ∷ [])
bytes_put pool s = flat_map-append (λ t. t ++ 0 ∷ []) pool (s ∷ []) ∙ ap (λ xs. pool_bytes pool ++ xs) (append-nil (s ++ 0 ∷ []))

-- how long a pool is with a string that it lacks
pub long_with : (pool : List (List ℕ)) (s : List ℕ) → has_string pool s ≡ false → length (pool_bytes (add_string pool s)) ≡ length (pool_bytes pool) + length s + 1
long_with pool s lacks =
    ap (λ t. length (pool_bytes (cond t pool (pool ++ s ∷ [])))) lacks
    ∙ omega (arith, ap length (bytes_put pool s), length-append (pool_bytes pool) (s ++ 0 ∷ []), length-append s (0 ∷ []))

-- the table with one string more
table_put : (lengths bytes s : List ℕ) (table : finite.FinMap (slice_cmp nat_cmp) ℕ) (offset : ℕ) → IsWhole lengths bytes → has_string (strings_in lengths bytes) s ≡ false → offset ≡ length bytes
    → ((q : List ℕ) → finite.get table q ≡ place_in (strings_in lengths bytes) q) → (q : List ℕ) → finite.get (finite.insert table s offset) q ≡ place_in (strings_in (lengths ++ length s ∷ []) (bytes ++ (s ++ 0 ∷ []))) q
table_put lengths bytes s table offset whole lacks here places q =
    let strings = strings_in lengths bytes in
    let long : offset ≡ length (pool_bytes strings) = here ∙ sym (ap length whole) in
    finite.get-insert nat_list_cmp_total table s offset q
    ∙ ap (λ t. cond t (Some offset) (finite.get table q)) (is_eq-slice_cmp q s)
    ∙ ap (λ o. cond (bytes_eq q s) (Some offset) o) (places q)
    ∙ ap (λ n. cond (bytes_eq q s) (Some n) (place_in strings q)) long
    ∙ place_put strings s q lacks
    ∙ ap (λ pool. place_in pool q) (sym (strings_put lengths bytes s whole))

-- a pool with a string that it lacked
pub pool_put : (lengths bytes s : List ℕ) (table : finite.FinMap (slice_cmp nat_cmp) ℕ) (offset : ℕ) → IsPool bytes lengths table → has_string (strings_in lengths bytes) s ≡ false
    → length bytes + length s < pool_limit → offset ≡ length bytes → IsPool (bytes ++ (s ++ 0 ∷ [])) (lengths ++ length s ∷ []) (finite.insert table s offset)
pool_put lengths bytes s table offset is lacks room here =
    let put = strings_put lengths bytes s is.whole in
    record {
      whole = ap pool_bytes put ∙ bytes_put (strings_in lengths bytes) s ∙ ap (λ xs. xs ++ (s ++ 0 ∷ [])) is.whole;
      small = omega (arith, room, length-append bytes (s ++ 0 ∷ []), length-append s (0 ∷ []));
      places = table_put lengths bytes s table offset is.whole lacks here is.places;
    }

pub number_alone : (number : Option ℕ) → option_map (λ n. n) number ≡ number
number_alone None = refl
number_alone (Some number) = refl

module _ {K : Type 0} (name : K → List ℕ) where
  -- the entries of a tree as a finite map
  abbrev keyed : List (K × ℕ) → finite.FinMap (slice_cmp nat_cmp) ℕ
  keyed entries = finite.from_entries (map (λ (e : K × ℕ). (name e.0, e.1)) entries)

  pub pool_none : (bytes lengths : List ℕ) (entries : List (K × ℕ)) → bytes ≡ [] → lengths ≡ [] → entries ≡ [] → IsPool bytes lengths (keyed entries)
  pool_none bytes lengths entries none short empty =
      rw (none, short, empty) (record { whole = refl; small = omega arith; places = λ s. finite.get-from_entries {R = slice_cmp nat_cmp} nat_list_cmp_total [] s })

  pub pool_inserted : (entries : List (K × ℕ)) (key : K) (offset : ℕ) (lengths bytes s : List ℕ) → name key ≡ s → offset ≡ length bytes → IsPool bytes lengths (keyed entries)
      → has_string (strings_in lengths bytes) s ≡ false → length bytes + length s < pool_limit
      → IsPool (bytes ++ (s ++ 0 ∷ [])) (lengths ++ length s ∷ []) (keyed (insert_entry (λ x y. slice_cmp nat_cmp (name x) (name y)) entries key offset))
  pool_inserted entries key offset lengths bytes s named here is lacks room =
      let after : keyed (insert_entry (λ x y. slice_cmp nat_cmp (name x) (name y)) entries key offset) ≡ finite.insert (keyed entries) s offset =
      inserted name (λ n. n) entries key offset ∙ ap (λ (p : List ℕ). finite.insert (keyed entries) p offset) named in
      subst (λ (m : finite.FinMap (slice_cmp nat_cmp) ℕ). IsPool (bytes ++ (s ++ 0 ∷ [])) (lengths ++ length s ∷ []) m) (sym after) (pool_put lengths bytes s (keyed entries) offset is lacks room here)

-- what a look-up says
found_by : (h : Bool) (offset n : ℕ) → Some offset ≡ cond h (Some n) None → (h ≡ true) × (offset ≡ n)
found_by true offset n is = (refl, cc)
found_by false offset n is = absurd (no_place offset is)
  where
    no_place : (offset : ℕ) → ◌≡◌ {A = Option ℕ} (Some offset) None → ⊥
    no_place offset is = cc

pub found : (pool : List (List ℕ)) (s : List ℕ) (offset : ℕ) → Some offset ≡ place_in pool s → (has_string pool s ≡ true) × (offset ≡ offset_in pool s)
found pool s offset is = found_by (has_string pool s) offset (offset_in pool s) is

lacking_by : (h : Bool) (n : ℕ) → None ≡ cond h (Some n) None → h ≡ false
lacking_by true n is = cc
lacking_by false n is = refl

pub lacking : (pool : List (List ℕ)) (s : List ℕ) → None ≡ place_in pool s → has_string pool s ≡ false
lacking pool s is = lacking_by (has_string pool s) (offset_in pool s) is

small_by : (h : Bool) (pool : List (List ℕ)) (s : List ℕ) → h ≡ true → length (pool_bytes pool) ≤ pool_limit → ltb pool_limit (length (pool_bytes (cond h pool (pool ++ s ∷ [])))) ≡ false
small_by true pool s has small = le-ltb pool_limit (length (pool_bytes pool)) small
small_by false pool s has small = cc

-- a string that is there makes no pool larger
pub small_with : (pool : List (List ℕ)) (s : List ℕ) → has_string pool s ≡ true → length (pool_bytes pool) ≤ pool_limit → is_too_large_with pool s ≡ false
small_with pool s has small = small_by (has_string pool s) pool s has small
