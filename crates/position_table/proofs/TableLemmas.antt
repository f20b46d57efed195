-- What holds behind the entries before a position.
use Rattle.std.proofs.Common.{◌≡◌, ℕ, ◌+◌, ◌-◌, ◌≤◌, Bool, true, false, cond, eqb, ◌&&◌, List, [], ◌∷◌, ◌++◌, length, take, drop, Option, Some, None, refl, ap, sym, ◌∙◌, arith, add-one}
use Rattle.std.specs.Prelude.{unwrap_or}
use Rattle.std.specs.Option.{option_map, option_and_then}
use Rattle.std.proofs.lemmas.List.{take_all, take-take, drop-take, take-append-drop, length-drop}
use Rattle.mac_base.specs.Items.{Item, Define, Undef, Start, End, ends_or_reaches, depth_behind, first_inside}
use Rattle.macro_table.specs.FileTable.{behind, prefix, table_behind, table_of}
use Rattle.position_table.specs.Standing.{Standing, at_first, behind_one, behind_all}

-- the entries before the first one that stands directly in a file and passes the test
abbrev pub upto : (Item ℕ → Bool) → List (Item ℕ) → ℕ → List (Item ℕ)
upto test items depth = take (unwrap_or (first_inside test items depth) (length items)) items

pub upto_hit : (test : Item ℕ → Bool) (item : Item ℕ) (items : List (Item ℕ)) (depth : ℕ) → true ≡ (eqb depth 0 && test item) → upto test (item ∷ items) depth ≡ []
upto_hit test item items depth hit =
    sym (ap (λ (t : Bool). take (unwrap_or (cond t (Some 0) (option_and_then (λ inner. option_map (λ n. n + 1) (first_inside test items inner)) (depth_behind item depth))) (length (item ∷ items))) (item ∷ items)) hit)

one_more : (item : Item ℕ) (items : List (Item ℕ)) (o : Option ℕ) → take (unwrap_or (option_map (λ n. n + 1) o) (length (item ∷ items))) (item ∷ items) ≡ item ∷ take (unwrap_or o (length items)) items
one_more item items None = refl
one_more item items (Some n) = rw add-one

pub upto_miss : (test : Item ℕ → Bool) (item : Item ℕ) (items : List (Item ℕ)) (depth inner : ℕ) → false ≡ (eqb depth 0 && test item) → Some inner ≡ depth_behind item depth → upto test (item ∷ items) depth ≡ item ∷ upto test items inner
upto_miss test item items depth inner miss is =
    sym (ap (λ (t : Bool). take (unwrap_or (cond t (Some 0) (option_and_then (λ inner. option_map (λ n. n + 1) (first_inside test items inner)) (depth_behind item depth))) (length (item ∷ items))) (item ∷ items)) miss)
    ∙ sym (ap (λ (o : Option ℕ). take (unwrap_or (option_and_then (λ inner. option_map (λ n. n + 1) (first_inside test items inner)) o) (length (item ∷ items))) (item ∷ items)) is)
    ∙ one_more item items (first_inside test items inner)

ended : (t : Bool) (depth : ℕ) → None ≡ cond t None (Some (depth - 1)) → false ≡ (t && true) → ⊥
ended true depth is miss = cc
ended false depth is miss = cc

-- a file's own end is never passed by
pub no_end : (line depth : ℕ) (item : Item ℕ) → None ≡ depth_behind item depth → false ≡ (eqb depth 0 && ends_or_reaches line item) → ⊥
no_end line depth (Define at text) is miss = cc
no_end line depth (Undef at name) is miss = cc
no_end line depth (Start at file) is miss = cc
no_end line depth End is miss = ended (eqb depth 0) depth is miss

-- an entry more behind some entries
pub take_first : (s : Standing) (item : Item ℕ) (items : List (Item ℕ)) (n : ℕ) → behind_all s (take (n + 1) (item ∷ items)) ≡ behind_all (behind_one s item) (take n items)
take_first s item items n = rw add-one

pub drop_first : {A : Type 0} (x : A) (xs : List A) (n : ℕ) → drop (n + 1) (x ∷ xs) ≡ drop n xs
drop_first x xs n = rw add-one

pub behind_all-append : (s : Standing) (xs ys : List (Item ℕ)) → behind_all s (xs ++ ys) ≡ behind_all (behind_all s xs) ys
behind_all-append s [] ys = refl
behind_all-append s (x ∷ xs) ys = behind_all-append (behind_one s x) xs ys

table_all : (s : Standing) (items : List (Item ℕ)) → (behind_all s items).table ≡ table_behind s.files s.table items
table_all s [] = refl
table_all s (item ∷ items) = table_all (behind_one s item) items

take_both : {A : Type 0} (n m : ℕ) (xs : List A) → take (n + m) xs ≡ take n xs ++ take m (drop n xs)
take_both n m xs =
    sym (take-append-drop n (take (n + m) xs)) ∙ ap (λ (front : List _). front ++ drop n (take (n + m) xs)) (take-take n (n + m) xs (omega arith)) ∙ ap (λ (back : List _). take n xs ++ back) (drop-take n m xs)

to_end : {A : Type 0} (o : Option ℕ) (n : ℕ) (xs : List A) → length xs ≤ n → take (unwrap_or o n) xs ≡ take (unwrap_or o (length xs)) xs
to_end (Some k) n xs long = refl
to_end None n xs long = take_all n xs long ∙ sym (take_all (length xs) xs (omega arith))

-- the entries before a position are those that begin its file, and those before its line
pub prefix_parts : (items : List (Item ℕ)) (start line : ℕ) → prefix items start line ≡ take (start + 1) items ++ upto (ends_or_reaches line) (drop (start + 1) items) 0
prefix_parts items start line =
    let found = first_inside (ends_or_reaches line) (behind items start) 0 in
    take_both (start + 1) (unwrap_or found (length items)) items
    ∙ ap (λ (back : List (Item ℕ)). take (start + 1) items ++ back) (to_end found (length items) (drop (start + 1) items) (omega (arith, length-drop (start + 1) items)))

-- the table behind them
pub table_there : (items : List (Item ℕ)) (start line : ℕ) → (behind_all (behind_all at_first (take (start + 1) items)) (upto (ends_or_reaches line) (drop (start + 1) items) 0)).table ≡ table_of (prefix items start line)
table_there items start line =
    ap (λ (s : Standing). s.table) (sym (behind_all-append at_first (take (start + 1) items) (upto (ends_or_reaches line) (drop (start + 1) items) 0)))
    ∙ ap (λ (passed : List (Item ℕ)). (behind_all at_first passed).table) (sym (prefix_parts items start line))
    ∙ table_all at_first (prefix items start line)
