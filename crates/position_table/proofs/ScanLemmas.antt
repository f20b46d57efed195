-- The first entry of a list that passes a test, found one entry after another.
use Rattle.std.proofs.Common.{◌≡◌, ℕ, zero, suc, ◌+◌, ◌-◌, ◌<◌, ◌≤◌, Bool, true, false, cond, eqb, ◌&&◌, List, [], ◌∷◌, length, drop, get_or, Option, Some, None, Result, Ok, Err, refl, ap, sym, subst, ◌∙◌, arith, add-one, zero-add}
use Rattle.std.specs.Prelude.{position, slice_get, IfSome}
use Rattle.std.proofs.lemmas.List.{drop_more, drop-drop, length-drop}
use Rattle.std.specs.Option.{option_map, option_and_then}
use Rattle.std.specs.List.{position_from}
use Rattle.std.proofs.lemmas.Iterator.Adapters.{position_from-zero}
use Rattle.mac_base.specs.declared.memory.NoMemory.{NoMemory}
use Rattle.import_graph.specs.declared.spliced.Spliced.{Spliced}
use Rattle.import_graph.specs.declared.spliced.Spliced.TheVariants.{Define as HeldDefine, Undef as HeldUndef, Start as HeldStart, End as HeldEnd}
use Rattle.import_graph.specs.Numbers.{item_of}
use Rattle.import_graph.specs.Graph.{NextSays}
use Rattle.import_graph.specs.Nodes.{AreNumbered}
use Rattle.mac_base.specs.Items.{Item, Define, Undef, Start, End, is_start, starts_at, depth_behind, first_inside}
use Rattle.macro_table.specs.FileTable.{levels}
use Rattle.position_table.specs.Scopes.{begun_file}

-- the next entry of a list of which n are passed
pub drop_next : {A : Type 0} (n : ℕ) (all : List A) (x : A) (rest : List A) → drop n all ≡ x ∷ rest → (drop (n + 1) all ≡ rest) × (n < length all)
drop_next n all x rest is = rw add-one (by_suc n all is)
  where
    by_suc : (n : ℕ) (all : List _) → drop n all ≡ x ∷ rest → (drop (suc n) all ≡ rest) × (n < length all)
    by_suc zero [] is = cc
    by_suc zero (y ∷ all) is = (cc, omega arith)
    by_suc (suc n) [] is = cc
    by_suc (suc n) (y ∷ all) is = let later : (drop (suc n) all ≡ rest) × (n < length all) = by_suc n all is in (later.0, omega arith)

pub position_from_first : {A : Type 0} (test : A → Bool) (items : List A) → position_from test 0 items ≡ position test items
position_from_first test items = sym (position_from-zero test items)

-- the number of the first entry that stands directly in a file and passes the test, where the first of these entries has number k
abbrev pub inside_from : (Item ℕ → Bool) → ℕ → List (Item ℕ) → ℕ → Option ℕ
inside_from test k [] depth = None
inside_from test k (item ∷ items) depth = cond (eqb depth 0 && test item) (Some k) (option_and_then (λ inner. inside_from test (k + 1) items inner) (depth_behind item depth))

shifted_if : (t : Bool) (k : ℕ) (o : Option ℕ) → cond t (Some k) (option_map (λ n. k + n) o) ≡ option_map (λ n. k + n) (cond t (Some 0) o)
shifted_if true k o = ap Some (omega arith)
shifted_if false k o = refl

shifted_more : (k : ℕ) (o : Option ℕ) → option_map (λ n. k + 1 + n) o ≡ option_map (λ n. k + n) (option_map (λ n. n + 1) o)
shifted_more k None = refl
shifted_more k (Some n) = ap Some (omega arith)

shifted_by : (k : ℕ) (f g : ℕ → Option ℕ) (o : Option ℕ) → ((n : ℕ) → f n ≡ option_map (λ m. k + m) (g n)) → option_and_then f o ≡ option_map (λ m. k + m) (option_and_then g o)
shifted_by k f g None same = refl
shifted_by k f g (Some n) same = same n

pub inside_from_is : (test : Item ℕ → Bool) (k : ℕ) (items : List (Item ℕ)) (depth : ℕ) → inside_from test k items depth ≡ option_map (λ n. k + n) (first_inside test items depth)
inside_from_is test k [] depth = refl
inside_from_is test k (item ∷ items) depth =
    ap (cond (eqb depth 0 && test item) (Some k)) (shifted_by k (λ inner. inside_from test (k + 1) items inner) (λ inner. option_map (λ n. n + 1) (first_inside test items inner)) (depth_behind item depth)
    (λ inner. inside_from_is test (k + 1) items inner ∙ shifted_more k (first_inside test items inner)))
    ∙ shifted_if (eqb depth 0 && test item) k _

shifted_none : (o : Option ℕ) → option_map (λ n. 0 + n) o ≡ o
shifted_none None = refl
shifted_none (Some n) = ap Some (zero-add n)

pub inside_from_first : (test : Item ℕ → Bool) (items : List (Item ℕ)) (depth : ℕ) → inside_from test 0 items depth ≡ first_inside test items depth
inside_from_first test items depth = inside_from_is test 0 items depth ∙ shifted_none (first_inside test items depth)

-- what is left, where an entry was taken
pub taken : (entry : Result Spliced NoMemory) (spliced : Spliced) (old new : List (Item ℕ)) → entry ≡ Ok spliced → NextSays (Some entry) old new → old ≡ item_of spliced ∷ new
taken entry spliced old new is says = subst (λ (e : Result Spliced NoMemory). NextSays (Some e) old new) is says

pub not_start : (spliced : Spliced) → ((line file : ℕ) → spliced ≡ HeldStart line file → ⊥) → is_start (item_of spliced) ≡ false
not_start (HeldDefine line text) other = refl
not_start (HeldUndef line name) other = refl
not_start (HeldStart line file) other = absurd (other line file refl)
not_start HeldEnd other = refl

pub later_from : {A : Type 0} (test : A → Bool) (k : ℕ) (x : A) (xs : List A) → test x ≡ false → position_from test (k + 1) xs ≡ position_from test k (x ∷ xs)
later_from test k x xs is = sym (ap (λ t. cond t (Some k) (position_from test (k + 1) xs)) is)

pub inside_later : (test : Item ℕ → Bool) (k : ℕ) (item : Item ℕ) (items : List (Item ℕ)) (depth inner : ℕ) → false ≡ (eqb depth 0 && test item) → Some inner ≡ depth_behind item depth → inside_from test (k + 1) items inner ≡ inside_from test k (item ∷ items) depth
inside_later test k item items depth inner missed is =
    ap (option_and_then (λ inner. inside_from test (k + 1) items inner)) is ∙ ap (λ t. cond t (Some k) (option_and_then (λ inner. inside_from test (k + 1) items inner) (depth_behind item depth))) missed

end_depth : (t : Bool) (depth inner : ℕ) → Some inner ≡ cond t None (Some (depth - 1)) → inner ≤ depth + 1
end_depth true depth inner is = cc
end_depth false depth inner is = let e : inner ≡ depth - 1 = cc in omega arith

pub depth_more : (item : Item ℕ) (depth inner : ℕ) → Some inner ≡ depth_behind item depth → inner ≤ depth + 1
depth_more (Define line text) depth inner is = let e : inner ≡ depth = cc in omega arith
depth_more (Undef line name) depth inner is = let e : inner ≡ depth = cc in omega arith
depth_more (Start line file) depth inner is = let e : inner ≡ depth + 1 = cc in omega arith
depth_more End depth inner is = end_depth (eqb depth 0) depth inner is

pub not_some : {A : Type 0} (o : Option A) → ((x : A) → o ≡ Some x → ⊥) → o ≡ None
not_some None other = refl
not_some (Some x) other = absurd (other x refl)

pub levels_none : (items : List (Item ℕ)) (lines : List ℕ) (depth : ℕ) → levels items lines depth None ≡ Err depth
levels_none items [] depth = refl
levels_none items (line ∷ lines) depth = refl

-- one line of a chain more
pub level_more : (items entries : List (Item ℕ)) (lines : List ℕ) (n depth start line : ℕ) (found : Option ℕ) → n < length lines → line ≡ get_or lines n 0 → entries ≡ drop (start + 1) items → found ≡ first_inside (starts_at line) entries 0 →
    levels items (drop n lines) depth (Some start) ≡ levels items (drop (n + 1) lines) (depth + 1) (option_map (λ m. start + 1 + m) found)
level_more items entries lines n depth start line found within is rest answer =
    ap (λ (ls : List ℕ). levels items ls depth (Some start)) (drop_more lines n 0 within)
    ∙ ap (λ (o : Option ℕ). levels items (drop (n + 1) lines) (depth + 1) (option_map (λ m. start + 1 + m) o))
    (ap (λ (l : ℕ). first_inside (starts_at l) (drop (start + 1) items) 0) (sym is) ∙ ap (λ (es : List (Item ℕ)). first_inside (starts_at line) es 0) (sym rest) ∙ sym answer)

pub some_behind : (found : Option ℕ) (passed : ℕ) (old new : List (Item ℕ)) → found ≡ Some passed → IfSome found (λ n. (new ≡ drop (n + 1) old) × (n < length old)) → (new ≡ drop (passed + 1) old) × (passed < length old)
some_behind found passed old new is behind = subst (λ (o : Option ℕ). IfSome o (λ n. (new ≡ drop (n + 1) old) × (n < length old))) is behind

-- what is left behind a file that was found
pub rest_more : (items old new : List (Item ℕ)) (start passed : ℕ) → old ≡ drop (start + 1) items → start < length items → (new ≡ drop (passed + 1) old) × (passed < length old) → (new ≡ drop (start + (1 + passed) + 1) items) × (start + (1 + passed) < length items)
rest_more items old new start passed rest within behind =
    let place : start + 1 + (passed + 1) ≡ start + (1 + passed) + 1 = omega arith in (
      behind.0 ∙ ap (drop (passed + 1)) rest ∙ drop-drop (passed + 1) (start + 1) items ∙ ap (λ n. drop n items) place,
      omega (arith, ap length rest, length-drop (start + 1) items, behind.1),
    )

-- the file of the next entry has a path, and so have those of the later ones
pub numbered_first : (n : ℕ) (item : Item ℕ) (items : List (Item ℕ)) → AreNumbered n (item ∷ items) → AreNumbered n (item ∷ [])
numbered_first n (Define line text) items are = tt
numbered_first n (Undef line name) items are = tt
numbered_first n (Start line file) items are = (are.0, tt)
numbered_first n End items are = tt

pub numbered_later : (n : ℕ) (item : Item ℕ) (items : List (Item ℕ)) → AreNumbered n (item ∷ items) → AreNumbered n items
numbered_later n (Define line text) items are = are
numbered_later n (Undef line name) items are = are
numbered_later n (Start line file) items are = are.1
numbered_later n End items are = are

-- The entry of a number, found one entry after another.

get_later : {A : Type 0} (x : A) (xs : List A) (n : ℕ) → (n ≡ 0 → ⊥) → slice_get (x ∷ xs) n ≡ slice_get xs (n - 1)
get_later x xs zero some = absurd (some refl)
get_later x xs (suc n) some = let less : n ≡ suc n - 1 = omega arith in ap (λ k. slice_get xs k) less

pub at_later : {A : Type 0} (x : A) (next entries all : List A) (start n : ℕ) → entries ≡ x ∷ next → (n ≡ 0 → ⊥) → slice_get entries n ≡ slice_get all start → slice_get next (n - 1) ≡ slice_get all start
at_later {A} x next entries all start n is some before = sym (get_later x next n some) ∙ ap (λ (es : List A). slice_get es n) (sym is) ∙ before

pub begun_here : {P : Type 0} (item : Item P) (next entries all : List (Item P)) (start n : ℕ) → entries ≡ item ∷ next → n ≡ 0 → slice_get entries n ≡ slice_get all start → begun_file (Some item) ≡ begun_file (slice_get all start)
begun_here {P} item next entries all start n is none before =
    ap (λ (o : Option (Item P)). begun_file o) (sym (ap (λ (es : List (Item P)). slice_get es n) is ∙ ap (slice_get (item ∷ next)) none) ∙ before)

pub begun_nowhere : {P : Type 0} (entries all : List (Item P)) (start n : ℕ) → entries ≡ [] → slice_get entries n ≡ slice_get all start → None ≡ begun_file (slice_get all start)
begun_nowhere {P} entries all start n none before = ap (λ (o : Option (Item P)). begun_file o) (sym (ap (λ (es : List (Item P)). slice_get es n) none) ∙ before)
