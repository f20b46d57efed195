-- The entries of a tree, whose keys have names, as a finite map from the names.
use Rattle.std.proofs.Common.{◌≡◌, ℕ, Bool, true, false, cond, List, [], ◌∷◌, map, Option, Some, None, refl, ap, subst, ◌∙◌, sym, ◌&&◌, take, length, zero, suc}
use Rattle.std.proofs.Math.Dec.{T}
use Rattle.std.specs.Borrow.{Bor}
use Rattle.std.specs.Option.{option_map}
use Rattle.std.specs.declared.cmp.Ordering.{Ordering}
use Rattle.std.specs.declared.cmp.Ordering.TheVariants.{Less, Equal, Greater}
use Rattle.std.specs.Ordering.{nat_cmp, eq_by_cmp, is_eq, is_lt, match_ordering}
use Rattle.std.specs.Cmp.Lexicographic.{slice_cmp, nat_list_cmp_total}
use Rattle.std.proofs.lemmas.Cmp.{eq_by_cmp_equiv}
use Rattle.std.specs.List.{AllByRecursion}
use Rattle.std.specs.List.Sorted.{IsStrictlySortedBy}
use Rattle.std.specs.Map.{lookup, remove_entry, keys_of}
use Rattle.std.specs.BTreeMap.{insert_entry}
use Rattle.std.specs.FinMap as finite
use Rattle.std.specs.FinMap.Entries.{below_all}
use Rattle.mac_base.proofs.TestLemmas.{is_equal, cond_again, cond_swapped}

-- the order of names
abbrev order : List ℕ → List ℕ → Ordering
order = slice_cmp nat_cmp

-- the test for a name
abbrev same : List ℕ → List ℕ → Bool
same = eq_by_cmp order

one : (a b : List ℕ) → same a b ≡ true → a ≡ b
one a b is = finite.slice_cmp-IsAntisymmetric finite.nat_cmp-IsAntisymmetric a b (is_equal _ is)

itself : (a : List ℕ) → same a a ≡ true
itself a = (eq_by_cmp_equiv nat_list_cmp_total).refl a

some_if : {V X : Type 0} (f : V → X) (t : Bool) (v : V) (o : Option V) → cond t (Some (f v)) (option_map f o) ≡ option_map f (cond t (Some v) o)
some_if f true v o = refl
some_if f false v o = refl

greater_apart : (n m q : List ℕ) → order n m ≡ Greater → same q m ≡ true → same q n ≡ true → ⊥
greater_apart n m q above a b =
    let both : n ≡ m = sym (one q n b) ∙ one q m a in
    let tied : order n m ≡ Equal = is_equal _ (subst (λ (x : List ℕ). same n x ≡ true) both (itself n)) in
    cc

both_are : (a b : Bool) → T a → T b → T (a && b)
both_are true b p q = q
both_are false b p q = p

both_hold : (a b : Bool) → a ≡ true → T b → T (a && b)
both_hold true b is q = q
both_hold false b is q = cc

module _ {K V X : Type 0} (name : K → List ℕ) (f : V → X) where
  -- the entries by their names
  abbrev keyed : List (K × V) → List (List ℕ × X)
  keyed es = map {B = List ℕ × X} (λ (e : K × V). (name e.0, f e.1)) es

  find_keyed : (es : List (K × V)) (q : List ℕ) → finite.find order q (keyed es) ≡ option_map f (lookup (λ k. is_eq (order q (name k))) es)
  find_keyed [] q = refl
  find_keyed (e ∷ es) q = ap (cond (same q (name e.0)) (Some (f e.1))) (find_keyed es q) ∙ some_if f (same q (name e.0)) e.1 _

  pub get_keyed : (es : List (K × V)) (q : List ℕ) → finite.get (finite.from_entries {R = order} (keyed es)) q ≡ option_map f (lookup (λ k. is_eq (order q (name k))) es)
  get_keyed es q = finite.get-from_entries nat_list_cmp_total (keyed es) q ∙ find_keyed es q

  placed : (o : Ordering) (k : K) (v : V) (e : K × V) (es more : List (K × V)) (q : List ℕ) → order (name k) (name e.0) ≡ o → finite.find order q (keyed more) ≡ cond (same q (name k)) (Some (f v)) (finite.find order q (keyed es))
      → finite.find order q (keyed (match_ordering o ((k, v) ∷ e ∷ es) ((e.0, v) ∷ es) (e ∷ more))) ≡ cond (same q (name k)) (Some (f v)) (finite.find order q (keyed (e ∷ es)))
  placed Less k v e es more q is later = refl
  placed Equal k v e es more q is later =
      let both : name k ≡ name e.0 = finite.slice_cmp-IsAntisymmetric finite.nat_cmp-IsAntisymmetric (name k) (name e.0) is in
      cond_again (same q (name e.0)) (same q (name k)) (Some (f v)) (Some (f e.1)) (finite.find order q (keyed es)) (ap (same q) (sym both))
  placed Greater k v e es more q is later =
      ap (cond (same q (name e.0)) (Some (f e.1))) later
      ∙ cond_swapped (same q (name e.0)) (same q (name k)) (Some (f e.1)) (Some (f v)) (finite.find order q (keyed es)) (greater_apart (name k) (name e.0) q is)

  find_inserted : (es : List (K × V)) (k : K) (v : V) (q : List ℕ) → finite.find order q (keyed (insert_entry (λ x y. order (name x) (name y)) es k v)) ≡ cond (same q (name k)) (Some (f v)) (finite.find order q (keyed es))
  find_inserted [] k v q = refl
  find_inserted (e ∷ es) k v q = placed (order (name k) (name e.0)) k v e es (insert_entry (λ x y. order (name x) (name y)) es k v) q refl (find_inserted es k v q)

  -- an entry that is put in its place is put into the map
  pub inserted : (es : List (K × V)) (k : K) (v : V) → finite.from_entries {R = order} (keyed (insert_entry (λ x y. order (name x) (name y)) es k v)) ≡ finite.insert (finite.from_entries (keyed es)) (name k) (f v)
  inserted es k v = finite.same_map nat_list_cmp_total (finite.slice_cmp-IsAntisymmetric finite.nat_cmp-IsAntisymmetric) _ _ (λ q.
      finite.get-from_entries nat_list_cmp_total (keyed (insert_entry (λ x y. order (name x) (name y)) es k v)) q ∙ find_inserted es k v q
      ∙ sym (finite.get-insert nat_list_cmp_total (finite.from_entries (keyed es)) (name k) (f v) q ∙ ap (cond (same q (name k)) (Some (f v))) (finite.get-from_entries nat_list_cmp_total (keyed es) q)))

  -- an entry of another name stays where one is removed
  passed : (t : Bool) (e : K × V) (es more : List (K × V)) (q : List ℕ) → (t ≡ true → same q (name e.0) ≡ false) → finite.find order q (keyed more) ≡ finite.find order q (keyed es) → finite.find order q (keyed (cond t es (e ∷ more))) ≡ finite.find order q (keyed (e ∷ es))
  passed true e es more q other later = sym (ap (λ t. cond t (Some (f e.1)) (finite.find order q (keyed es))) (other refl))
  passed false e es more q other later = ap (cond (same q (name e.0)) (Some (f e.1))) later

  find_kept : (es : List (K × V)) (gone q : List ℕ) → same q gone ≡ false → finite.find order q (keyed (remove_entry (λ k. is_eq (order gone (name k))) es)) ≡ finite.find order q (keyed es)
  find_kept [] gone q apart = refl
  find_kept (e ∷ es) gone q apart =
      passed (same gone (name e.0)) e es (remove_entry (λ k. is_eq (order gone (name k))) es) q (λ is. ap (same q) (sym (one gone (name e.0) is)) ∙ apart) (find_kept es gone q apart)

  find_removed : (t : Bool) (es : List (K × V)) (gone q : List ℕ) → same q gone ≡ t → lookup (λ k. is_eq (order gone (name k))) (remove_entry (λ k. is_eq (order gone (name k))) es) ≡ None
      → finite.find order q (keyed (remove_entry (λ k. is_eq (order gone (name k))) es)) ≡ cond t None (finite.find order q (keyed es))
  find_removed true es gone q is none =
      ap (λ (n : List ℕ). finite.find order n (keyed (remove_entry (λ k. is_eq (order gone (name k))) es))) (one q gone is)
      ∙ find_keyed (remove_entry (λ k. is_eq (order gone (name k))) es) gone ∙ ap (option_map f) none
  find_removed false es gone q is none = find_kept es gone q is

  -- an entry that is taken out, and stood once, is removed from the map
  pub removed : (es : List (K × V)) (gone : List ℕ) → lookup (λ k. is_eq (order gone (name k))) (remove_entry (λ k. is_eq (order gone (name k))) es) ≡ None
      → finite.from_entries {R = order} (keyed (remove_entry (λ k. is_eq (order gone (name k))) es)) ≡ finite.remove (finite.from_entries (keyed es)) gone
  removed es gone none = finite.same_map nat_list_cmp_total (finite.slice_cmp-IsAntisymmetric finite.nat_cmp-IsAntisymmetric) _ _ (λ q.
      finite.get-from_entries nat_list_cmp_total (keyed (remove_entry (λ k. is_eq (order gone (name k))) es)) q ∙ find_removed (same q gone) es gone q refl none
      ∙ sym (finite.get-remove nat_list_cmp_total (finite.from_entries (keyed es)) gone q ∙ ap (cond (same q gone) None) (finite.get-from_entries nat_list_cmp_total (keyed es) q)))

  keys_keyed : (es : List (K × V)) → map (λ (e : List ℕ × X). e.0) (keyed es) ≡ map name (keys_of es)
  keys_keyed [] = refl
  keys_keyed (e ∷ es) = ap (λ ns. name e.0 ∷ ns) (keys_keyed es)

  below : (k : K) (es : List (K × V)) → AllByRecursion (λ y. order (name k) (name y) ≡ Less) (keys_of es) → T (below_all order (name k) (keyed es))
  below k [] are = tt
  below k (e ∷ es) are = both_hold (is_lt (order (name k) (name e.0))) _ (ap is_lt are.0) (below k es are.1)

  rising : (es : List (K × V)) → IsStrictlySortedBy (λ x y. order (name x) (name y)) (keys_of es) → T (finite.is_sorted order (keyed es))
  unfolding IsStrictlySortedBy
  rising [] are = tt
  rising (e ∷ es) are = both_are (below_all order (name e.0) (keyed es)) _ (below e.0 es are.0) (rising es are.1)

  entries_keyed : (es : List (K × V)) → T (finite.is_sorted order (keyed es)) → finite.entries (finite.from_entries {R = order} (keyed es)) ≡ keyed es
  entries_keyed es is =
      ap finite.entries (finite.same_map nat_list_cmp_total (finite.slice_cmp-IsAntisymmetric finite.nat_cmp-IsAntisymmetric) (finite.from_entries {R = order} (keyed es)) (finite.from_sorted (keyed es)) (λ q.
      finite.get-from_entries nat_list_cmp_total (keyed es) q ∙ sym (finite.get-from_sorted order (keyed es) q is)))
      ∙ finite.entries-from_sorted order (keyed es) is

  -- the map's names are those of the entries, where these are in order
  pub names_keyed : (es : List (K × V)) → IsStrictlySortedBy (λ x y. order (name x) (name y)) (keys_of es) → finite.keys (finite.from_entries {R = order} (keyed es)) ≡ map name (keys_of es)
  names_keyed es are = ap (map (λ (e : List ℕ × X). e.0)) (entries_keyed es (rising es are)) ∙ keys_keyed es

pub map_behind : {K : Type 0} (name : K → List ℕ) (ks : List (Bor K)) → map (λ (k : Bor K). name k.now) ks ≡ map name (map (λ (k : Bor K). k.now) ks)
map_behind name [] = refl
map_behind name (k ∷ ks) = ap (λ ns. name k.now ∷ ns) (map_behind name ks)

pub take_prefix : (n : ℕ) (xs : List ℕ) → take (length (take n xs)) xs ≡ take n xs
take_prefix zero xs = refl
take_prefix (suc n) [] = refl
take_prefix (suc n) (x ∷ xs) = ap (λ ys. x ∷ ys) (take_prefix n xs)
