-- The count of depths finds what is directly in an instance.
use Rattle.std.proofs.Common.{◌≡◌, ◌↔◌, ℕ, zero, suc, ◌+◌, ◌-◌, ◌≤◌, ◌<◌, eqb, Bool, true, false, ◌&&◌, cond, List, [], ◌∷◌, ◌++◌, length, take, Option, Some, None, refl, sym, ◌∙◌, ap, subst, arith, append_assoc, append-nil, length-append}
use Rattle.std.proofs.lemmas.List.{take_at, length-take, length-take-le, nil_from_length}
use Rattle.std.proofs.lemmas.Bool.{and_from}
use Rattle.std.proofs.Math.Seq.{take-append-add}
use Rattle.std.specs.Option.{unwrap_or, option_map, option_and_then}
use borrow.Author.Tests.{eqb-true}
use Rattle.mac_base.specs.Items.{Item, Define, Undef, Start, End, depth_behind, first_inside}
use Rattle.macro_table.specs.FileTable.{open_behind}
use Rattle.macro_table.specs.Instances.{open_after, open_files, IsDirectlyIn, FirstInsideIsFirst}
use Rattle.mac_base.proofs.TestLemmas.{and_rest}

-- Directly in an instance, over the files that are open: those of the instance, and others in it.
record Direct {P : Type 0} (files now : List (P × ℕ)) (before : List (Item P)) : Type 0 where
  same : open_after now before ≡ files
  kept : (n : ℕ) → take (length files) (open_after now (take n before)) ≡ files

-- an entry leaves the files of the instance open, and others in it; or it ends the instance
data Turn {P : Type 0} (files extra : List (P × ℕ)) (item : Item P) : Type 0 where
  goes_on : (next : List (P × ℕ)) → depth_behind item (length extra) ≡ Some (length next) → open_behind (files ++ extra) item ≡ files ++ next → Turn files extra item
  ends : depth_behind item (length extra) ≡ None → length (open_behind (files ++ extra) item) < length files → Turn files extra item

not_zero : (n : ℕ) (t : Bool) → eqb (suc n) 0 ≡ t → t ≡ false
not_zero n true is = let wrong : suc n ≡ 0 = eqb-true (suc n) 0 is in absurd (omega arith)
not_zero n false is = refl

end_turn : {P : Type 0} (files extra : List (P × ℕ)) → 0 < length files → Turn files extra End
end_turn files [] some = ends refl (omega (arith, length-take (length (files ++ []) - 1) (files ++ []), length-append files []))
end_turn {P} files (e ∷ extra) some =
    let next : List (P × ℕ) = take (length extra) (e ∷ extra) in
    let long : length next ≡ length extra = length-take-le (length extra) (e ∷ extra) (omega arith) in
    let count : suc (length extra) - 1 ≡ length next = omega arith in
    let front : length (files ++ e ∷ extra) - 1 ≡ length files + length extra = omega (arith, length-append files (e ∷ extra)) in
    goes_on next (ap (λ t. cond t None (Some (suc (length extra) - 1))) (not_zero (length extra) (eqb (suc (length extra)) 0) refl) ∙ ap Some count) (ap (λ n. take n (files ++ e ∷ extra)) front ∙ take-append-add files (e ∷ extra) (length extra))

turn_of : {P : Type 0} (files extra : List (P × ℕ)) (item : Item P) → 0 < length files → Turn files extra item
turn_of files extra (Define line text) some = goes_on extra refl refl
turn_of files extra (Undef line name) some = goes_on extra refl refl
turn_of files extra (Start line path) some = goes_on (extra ++ (path, line) ∷ []) (ap Some (sym (length-append extra ((path, line) ∷ [])))) (append_assoc files extra ((path, line) ∷ []))
turn_of files extra End some = end_turn files extra some

-- the choice at an entry

here_by : (x y : Bool) (o : Option ℕ) → cond (x && y) (Some 0) o ≡ Some 0 → (o ≡ Some 0 → ⊥) → (x ≡ true) × (y ≡ true)
here_by true true o is never = (refl, refl)
here_by true false o is never = absurd (never is)
here_by false y o is never = absurd (never is)

later_by : (t : Bool) (o : Option ℕ) (n : ℕ) → cond t (Some 0) o ≡ Some (suc n) → (t ≡ false) × (o ≡ Some (suc n))
later_by true o n is = let wrong : 0 ≡ suc n = ap (λ (o : Option ℕ). unwrap_or o 0) is in absurd (omega arith)
later_by false o n is = (refl, is)

map_zero : (g : Option ℕ) → option_map (λ n. n + 1) g ≡ Some 0 → ⊥
map_zero None is = cc
map_zero (Some m) is = let wrong : m + 1 ≡ 0 = ap (λ (o : Option ℕ). unwrap_or o 0) is in omega arith

map_more : (g : Option ℕ) (n : ℕ) → option_map (λ n. n + 1) g ≡ Some (suc n) → g ≡ Some n
map_more None n is = cc
map_more (Some m) n is = let more : m + 1 ≡ suc n = ap (λ (o : Option ℕ). unwrap_or o 0) is in let same : m ≡ n = omega arith in ap Some same

then_zero : (inside : ℕ → Option ℕ) (d : Option ℕ) → option_and_then (λ inner. option_map (λ n. n + 1) (inside inner)) d ≡ Some 0 → ⊥
then_zero inside None is = cc
then_zero inside (Some inner) is = map_zero (inside inner) is

-- what is directly in the instance

none_taken : {P : Type 0} (n : ℕ) → ◌≡◌ {A = List (Item P)} (take n []) []
none_taken zero = refl
none_taken (suc n) = refl

direct_none : {P : Type 0} (files extra : List (P × ℕ)) → extra ≡ [] → Direct files (files ++ extra) []
direct_none {P} files extra none = record {
  same = ap (λ es. files ++ es) none ∙ append-nil files;
  kept = λ n. ap (λ (is : List (Item P)). take (length files) (open_after (files ++ extra) is)) (none_taken n) ∙ take_at files extra (length files) refl;
}

none_open : {P : Type 0} (files extra : List (P × ℕ)) → Direct files (files ++ extra) [] → length extra ≡ 0
none_open files extra direct = omega (arith, ap length direct.same, length-append files extra)

direct_cons : {P : Type 0} (files extra next : List (P × ℕ)) (x : Item P) (before : List (Item P)) → open_behind (files ++ extra) x ≡ files ++ next → Direct files (files ++ next) before → Direct files (files ++ extra) (x ∷ before)
direct_cons {P} files extra next x before is direct = record {
  same = ap (λ (fs : List (P × ℕ)). open_after fs before) is ∙ direct.same;
  kept = kept;
}
  where
    kept : (n : ℕ) → take (length files) (open_after (files ++ extra) (take n (x ∷ before))) ≡ files
    kept zero = take_at files extra (length files) refl
    kept (suc n) = ap (λ (fs : List (P × ℕ)). take (length files) (open_after fs (take n before))) is ∙ direct.kept n

direct_tail : {P : Type 0} (files extra next : List (P × ℕ)) (x : Item P) (before : List (Item P)) → open_behind (files ++ extra) x ≡ files ++ next → Direct files (files ++ extra) (x ∷ before) → Direct files (files ++ next) before
direct_tail {P} files extra next x before is direct = record {
  same = ap (λ (fs : List (P × ℕ)). open_after fs before) (sym is) ∙ direct.same;
  kept = λ n. ap (λ (fs : List (P × ℕ)). take (length files) (open_after fs (take n before))) (sym is) ∙ direct.kept (suc n);
}

-- none before passes the test
abbrev Earlier : {P : Type 0} → List (P × ℕ) → List (P × ℕ) → (Item P → Bool) → List (Item P) → Type 0
Earlier {P} files now test before = (earlier : List (Item P)) (other : Item P) (later : List (Item P)) → before ≡ earlier ++ other ∷ later → Direct files now earlier → test other ≡ false

earlier_cons : {P : Type 0} (test : Item P → Bool) (files extra next : List (P × ℕ)) (x : Item P) (before : List (Item P)) → (eqb (length extra) 0 && test x) ≡ false → open_behind (files ++ extra) x ≡ files ++ next →
    Earlier files (files ++ next) test before → Earlier files (files ++ extra) test (x ∷ before)
earlier_cons test files extra next x before fails is rest [] other later whole direct =
    let first : x ≡ other = cc in
    sym (ap test first) ∙ and_rest (eqb (length extra) 0) (test x) (ap (λ n. eqb n 0) (none_open files extra direct)) fails
earlier_cons test files extra next x before fails is rest (y ∷ earlier) other later whole direct =
    let first : y ≡ x = cc in
    rest earlier other later (cc) (direct_tail files extra next x earlier is (subst (λ z. Direct files (files ++ extra) (z ∷ earlier)) first direct))

-- what is found

record Found {P : Type 0} (files now : List (P × ℕ)) (test : Item P → Bool) (before : List (Item P)) (item : Item P) : Type 0 where
  direct : Direct files now before
  passes : test item ≡ true
  first : Earlier files now test before

no_earlier : {P : Type 0} (files now : List (P × ℕ)) (test : Item P → Bool) → Earlier files now test []
no_earlier files now test [] other later is direct = cc
no_earlier files now test (y ∷ earlier) other later is direct = cc

there_by : {P : Type 0} (test : Item P → Bool) (files extra : List (P × ℕ)) (x : Item P) (before : List (Item P)) (item : Item P) (after : List (Item P)) → (eqb (length extra) 0 && test x) ≡ false → Turn files extra x →
    option_and_then (λ inner. option_map (λ n. n + 1) (first_inside test (before ++ item ∷ after) inner)) (depth_behind x (length extra)) ≡ Some (suc (length before)) →
    ((next : List (P × ℕ)) → first_inside test (before ++ item ∷ after) (length next) ≡ Some (length before) → Found files (files ++ next) test before item) → Found files (files ++ extra) test (x ∷ before) item
there_by test files extra x before item after fails (goes_on next depth opened) is rest =
    let inner = rest next (map_more (first_inside test (before ++ item ∷ after) (length next)) (length before) (sym (ap (option_and_then (λ inner. option_map (λ n. n + 1) (first_inside test (before ++ item ∷ after) inner))) depth) ∙ is)) in
    record {
      direct = direct_cons files extra next x before opened inner.direct;
      passes = inner.passes;
      first = earlier_cons test files extra next x before fails opened inner.first;
    }
there_by test files extra x before item after fails (ends depth short) is rest =
    absurd (no (sym (ap (option_and_then (λ inner. option_map (λ n. n + 1) (first_inside test (before ++ item ∷ after) inner))) depth) ∙ is))
  where
    no : None ≡ Some (suc (length before)) → ⊥
    no is = cc

found : {P : Type 0} (test : Item P → Bool) (files extra : List (P × ℕ)) (before : List (Item P)) (item : Item P) (after : List (Item P)) → 0 < length files →
    first_inside test (before ++ item ∷ after) (length extra) ≡ Some (length before) → Found files (files ++ extra) test before item
found test files extra [] item after some is =
    let here = here_by (eqb (length extra) 0) (test item) _ is (then_zero (first_inside test after) (depth_behind item (length extra))) in
    record {
      direct = direct_none files extra (nil_from_length extra (eqb-true (length extra) 0 here.0));
      passes = here.1;
      first = no_earlier files (files ++ extra) test;
    }
found test files extra (x ∷ before) item after some is =
    let later = later_by (eqb (length extra) 0 && test x) _ (length before) is in
    there_by test files extra x before item after later.0 (turn_of files extra x some) later.1 (λ next inner. found test files next before item after some inner)

-- and back

fails_by : (x y : Bool) → (x ≡ true → y ≡ false) → (x && y) ≡ false
fails_by true y fails = fails refl
fails_by false y fails = refl

is_found_by : {P : Type 0} (test : Item P → Bool) (files extra : List (P × ℕ)) (x : Item P) (before : List (Item P)) (item : Item P) (after : List (Item P)) → Turn files extra x → Found files (files ++ extra) test (x ∷ before) item →
    ((next : List (P × ℕ)) → Found files (files ++ next) test before item → first_inside test (before ++ item ∷ after) (length next) ≡ Some (length before)) →
    option_and_then (λ inner. option_map (λ n. n + 1) (first_inside test (before ++ item ∷ after) inner)) (depth_behind x (length extra)) ≡ Some (suc (length before))
is_found_by {P} test files extra x before item after (goes_on next depth opened) there rest =
    let inner = rest next (record {
      direct = direct_tail files extra next x before opened there.direct;
      passes = there.passes;
      first = λ earlier other later is direct. there.first (x ∷ earlier) other later (ap (λ (is : List (Item P)). x ∷ is) is) (direct_cons files extra next x earlier opened direct);
    }) in
    let more : length before + 1 ≡ suc (length before) = omega arith in
    ap (option_and_then (λ inner. option_map (λ n. n + 1) (first_inside test (before ++ item ∷ after) inner))) depth ∙ ap (option_map (λ n. n + 1)) inner ∙ ap Some more
is_found_by test files extra x before item after (ends depth short) there rest =
    let kept : take (length files) (open_behind (files ++ extra) x) ≡ files = there.direct.kept 1 in
    absurd (omega (arith, ap length kept, length-take (length files) (open_behind (files ++ extra) x)))

is_found : {P : Type 0} (test : Item P → Bool) (files extra : List (P × ℕ)) (before : List (Item P)) (item : Item P) (after : List (Item P)) → 0 < length files →
    Found files (files ++ extra) test before item → first_inside test (before ++ item ∷ after) (length extra) ≡ Some (length before)
is_found test files extra [] item after some there =
    let here : (eqb (length extra) 0 && test item) ≡ true = and_from (eqb (length extra) 0) (test item) (ap (λ n. eqb n 0) (none_open files extra there.direct)) there.passes in
    ap (λ t. cond t (Some 0) (option_and_then (λ inner. option_map (λ n. n + 1) (first_inside test after inner)) (depth_behind item (length extra)))) here
is_found test files extra (x ∷ before) item after some there =
    let fails : (eqb (length extra) 0 && test x) ≡ false =
    fails_by (eqb (length extra) 0) (test x) (λ none. there.first [] x before refl (direct_none files extra (nil_from_length extra (eqb-true (length extra) 0 none)))) in
    ap (λ t. cond t (Some 0) (option_and_then (λ inner. option_map (λ n. n + 1) (first_inside test (before ++ item ∷ after) inner)) (depth_behind x (length extra)))) fails
    ∙ is_found_by test files extra x before item after (turn_of files extra x some) there (λ next inner. is_found test files next before item after some inner)

-- the whole unit

open_append : {P : Type 0} (now : List (P × ℕ)) (xs ys : List (Item P)) → open_after now (xs ++ ys) ≡ open_after (open_after now xs) ys
open_append now [] ys = refl
open_append now (x ∷ xs) ys = open_append (open_behind now x) xs ys

to_direct : {P : Type 0} (begun before : List (Item P)) → IsDirectlyIn begun before → Direct (open_files begun) (open_files begun ++ []) before
to_direct {P} begun before is = record {
  same = ap (λ (fs : List (P × ℕ)). open_after fs before) (append-nil (open_files begun)) ∙ sym (open_append [] begun before) ∙ is.same;
  kept = λ n. ap (take (length (open_files begun))) (ap (λ (fs : List (P × ℕ)). open_after fs (take n before)) (append-nil (open_files begun)) ∙ sym (open_append [] begun (take n before))) ∙ is.kept n;
}

from_direct : {P : Type 0} (begun before : List (Item P)) → Direct (open_files begun) (open_files begun ++ []) before → IsDirectlyIn begun before
from_direct {P} begun before is = record {
  same = open_append [] begun before ∙ ap (λ (fs : List (P × ℕ)). open_after fs before) (sym (append-nil (open_files begun))) ∙ is.same;
  kept = λ n. ap (take (length (open_files begun))) (open_append [] begun (take n before) ∙ ap (λ (fs : List (P × ℕ)). open_after fs (take n before)) (sym (append-nil (open_files begun)))) ∙ is.kept n;
}

some_open : {P : Type 0} (front : List (Item P)) (line : ℕ) (path : P) → 0 < length (open_files (front ++ Start line path ∷ []))
some_open {P} front line path =
    let long : length (open_files (front ++ Start line path ∷ [])) ≡ length (open_files front) + 1 = ap length (open_append [] front (Start line path ∷ [])) ∙ length-append (open_files front) ((path, line) ∷ []) in omega arith

within_by : (t : Bool) (inside : ℕ → Option ℕ) (d : Option ℕ) (n m : ℕ) → cond t (Some 0) (option_and_then (λ inner. option_map (λ n. n + 1) (inside inner)) d) ≡ Some n → ((inner k : ℕ) → inside inner ≡ Some k → k < m) → n < suc m
within_by true inside d n m is rest = let none : 0 ≡ n = ap (λ (o : Option ℕ). unwrap_or o 0) is in omega arith
within_by false inside None n m is rest = cc
within_by false inside (Some inner) n m is rest = by (inside inner) refl is
  where
    by : (g : Option ℕ) → inside inner ≡ g → option_map (λ n. n + 1) g ≡ Some n → n < suc m
    by None there is = cc
    by (Some k) there is = let more : k + 1 ≡ n = ap (λ (o : Option ℕ). unwrap_or o 0) is in let less = rest inner k there in omega arith

within : {P : Type 0} (test : Item P → Bool) (items : List (Item P)) (depth n : ℕ) → first_inside test items depth ≡ Some n → n < length items
within test [] depth n is = cc
within test (x ∷ items) depth n is = within_by (eqb depth 0 && test x) (first_inside test items) (depth_behind x depth) n (length items) is (λ inner k there. within test items inner k there)

pub first-inside : (P : Type 0) → FirstInsideIsFirst P
first-inside P = record {
  exactly = λ front line path test before item after. (
    (λ is.
        let begun : List (Item P) = front ++ Start line path ∷ [] in
        let there = found test (open_files begun) [] before item after (some_open front line path) is in
        (from_direct begun before there.direct, there.passes, λ earlier other later whole direct. there.first earlier other later whole (to_direct begun earlier direct))),
    (λ (direct, passes, first).
        let begun : List (Item P) = front ++ Start line path ∷ [] in
        is_found test (open_files begun) [] before item after (some_open front line path)
        (record { direct = to_direct begun before direct; passes = passes; first = λ earlier other later whole is. first earlier other later whole (from_direct begun earlier is) })),
  );
  within = λ test items n is. within test items 0 n is;
}
