-- A table that is made of the definitions that are kept, one after another.
use Rattle.std.proofs.Common.{◌≡◌, ℕ, zero, suc, ◌<◌, Bool, true, false, cond, List, [], ◌∷◌, ◌++◌, map, slice_get, Option, Some, None, refl, ap, sym, subst, ◌∙◌}
use Rattle.std.specs.Borrow.{Bor}
use Rattle.std.specs.Option.{option_or}
use Rattle.std.specs.declared.cmp.Ordering.{Ordering}
use Rattle.std.specs.declared.cmp.Ordering.TheVariants.{Less}
use Rattle.std.specs.Ordering.{is_eq, eq_by_cmp}
use Rattle.std.specs.Cmp.Lexicographic.{nat_list_cmp_total}
use Rattle.std.specs.List.{AllByRecursion}
use Rattle.std.specs.List.Sorted.{IsStrictlySortedBy}
use Rattle.std.specs.Map.{keys_of, values_of}
use Rattle.std.specs.FinMap as finite
use Rattle.mac_base.specs.Names.{name_of}
use Rattle.mac_base.specs.declared.frames.Frame.{Frame}
use Rattle.macro_table.specs.Tables.{EntryValue, TableOf}
use Rattle.position_table.specs.declared.draft.Definition.{Definition}
use Rattle.position_table.specs.Standing.{value_in, table_in, AreKept}
use Rattle.position_table.proofs.DraftLemmas.{order, Kept, by_name}
use Rattle.mac_base.proofs.TestLemmas.{is_equal}

-- a table with these definitions more
abbrev pub put_all : List (List Frame) → TableOf ℕ → List Definition → TableOf ℕ
put_all files table [] = table
put_all files table (d ∷ ds) = put_all files (finite.insert table (name_of d.text.now) (value_in files d)) ds

pub put_push : (files : List (List Frame)) (table : TableOf ℕ) (ds : List Definition) (d : Definition) → put_all files table (ds ++ d ∷ []) ≡ finite.insert (put_all files table ds) (name_of d.text.now) (value_in files d)
put_push files table [] d = refl
put_push files table (other ∷ ds) d = put_push files (finite.insert table (name_of other.text.now) (value_in files other)) ds d

-- each definition stands in a file that began
pub kept_within : (n : ℕ) (es : Kept) (k : ℕ) (d : Definition) → AreKept n es → slice_get (values_of es) k ≡ Some d → d.file.index < n
kept_within n [] k d are is = cc
kept_within n (e ∷ es) zero d are is = let same : e.1 ≡ d = cc in subst (λ (x : Definition). x.file.index < n) same are.0.0
kept_within n (e ∷ es) (suc k) d are is = kept_within n es k d are.1 is

-- definitions by their names
abbrev pub keyed : List (List Frame) → Kept → List (List ℕ × EntryValue ℕ)
keyed files es = map {B = List ℕ × EntryValue ℕ} (λ (e : Bor (List ℕ) × Definition). (e.0.now, value_in files e.1)) es

-- a name before all others is none of them
apart : (files : List (List Frame)) (k : Bor (List ℕ)) (es : Kept) → AllByRecursion (λ y. by_name k y ≡ Less) (keys_of es) → finite.find order k.now (keyed files es) ≡ None
apart files k [] are = refl
apart files k (e ∷ es) are =
    ap (λ (o : Ordering). cond (is_eq o) (Some (value_in files e.1)) (finite.find order k.now (keyed files es))) are.0 ∙ apart files k es are.1

turned : (b : Bool) (v : EntryValue ℕ) (f g : Option (EntryValue ℕ)) → (b ≡ true → f ≡ None) → option_or f (cond b (Some v) g) ≡ option_or (cond b (Some v) f) g
turned true v f g none = ap (λ (o : Option (EntryValue ℕ)). option_or o (Some v)) (none refl)
turned false v f g none = refl

found_all : (files : List (List Frame)) (n : ℕ) (table : TableOf ℕ) (es : Kept) (q : List ℕ) → IsStrictlySortedBy by_name (keys_of es) → AreKept n es →
    finite.get (put_all files table (values_of es)) q ≡ option_or (finite.find order q (keyed files es)) (finite.get table q)
unfolding IsStrictlySortedBy
found_all files n table [] q rises are = refl
found_all files n table (e ∷ es) q rises are =
    found_all files n (finite.insert table (name_of e.1.text.now) (value_in files e.1)) es q rises.1 are.1
    ∙ ap (option_or (finite.find order q (keyed files es)))
    (ap (λ (k : List ℕ). finite.get (finite.insert table k (value_in files e.1)) q) (sym are.0.1) ∙ finite.get-insert nat_list_cmp_total table e.0.now (value_in files e.1) q)
    ∙ turned (eq_by_cmp order q e.0.now) (value_in files e.1) (finite.find order q (keyed files es)) (finite.get table q)
    (λ is. ap (λ (k : List ℕ). finite.find order k (keyed files es)) (finite.slice_cmp-IsAntisymmetric finite.nat_cmp-IsAntisymmetric q e.0.now (is_equal (order q e.0.now) is)) ∙ apart files e.0 es rises.0)

or_none : (o : Option (EntryValue ℕ)) → option_or o None ≡ o
or_none None = refl
or_none (Some v) = refl

-- all that are kept make the table
pub table_whole : (files : List (List Frame)) (n : ℕ) (es : Kept) → IsStrictlySortedBy by_name (keys_of es) → AreKept n es → put_all files finite.empty (values_of es) ≡ table_in files es
table_whole files n es rises are = finite.same_map nat_list_cmp_total (finite.slice_cmp-IsAntisymmetric finite.nat_cmp-IsAntisymmetric) _ _ (λ q.
    found_all files n finite.empty es q rises are ∙ ap (option_or (finite.find order q (keyed files es))) (finite.get-empty order q) ∙ or_none (finite.find order q (keyed files es))
    ∙ sym (finite.get-from_entries nat_list_cmp_total (keyed files es) q))
