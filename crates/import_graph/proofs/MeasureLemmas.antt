-- Each turn of the walk leaves fewer turns to come.
use Rattle.std.proofs.Common.{◌≡◌, ℕ, zero, suc, ◌+◌, ◌*◌, ◌<◌, ◌≤◌, Bool, true, false, cond, eqb, is_some, List, [], ◌∷◌, ◌++◌, length, Option, Some, None, refl, ap, subst, sym, ◌∙◌, arith, inl, inr, ◌⊎◌, ◌≢◌}
use Rattle.std.proofs.lemmas.Bool.{eqb-true}
use Rattle.std.proofs.lemmas.Bool.Decides.{eqb_tells}
use Rattle.std.proofs.lemmas.List.Sums.{sum_by-append}
use Rattle.std.proofs.Math.Nat.{mul-le-mul_right}
use Rattle.std.specs.List.{sum_by}
use Rattle.std.specs.Ordering.{nat_cmp}
use Rattle.std.specs.BTreeMap.{BTreeMap, get, is_at}
use Rattle.mac_base.specs.Input.{rest}
use Rattle.import_graph.specs.declared.unit.OpenUnit.{OpenUnit}
use Rattle.import_graph.specs.declared.walk.Visit.{Visit}
use Rattle.import_graph.specs.Progress.{unseen, left_in, effort}
use Rattle.import_graph.proofs.OpenLemmas.{test_is}

pub sums_kept : (a b x y : ℕ) → a ≤ b → x ≤ y → a + x ≤ b + y
sums_kept a b x y first second = omega arith

sums_here : (a b x y : ℕ) → a ≤ b → x + 1 ≤ y → a + x + 1 ≤ b + y
sums_here a b x y first second = omega arith

pub sums_below : (a b x y : ℕ) → a + 1 ≤ b → x ≤ y → a + x + 1 ≤ b + y
sums_below a b x y first second = omega arith

below_by : (at n : ℕ) → at < suc n → eqb at n ≡ false → ((eqb at n ≡ true) × (at ≡ n)) ⊎ ((eqb at n ≡ false) × (at ≢ n)) → at < n
below_by at n within other (inl is) = let clash : true ≡ false = sym is.0 ∙ other in cc
below_by at n within other (inr is) = let apart : at ≢ n = is.1 in omega arith

pub below_other : (at n : ℕ) → at < suc n → eqb at n ≡ false → at < n
below_other at n within other = below_by at n within other (eqb_tells at n)

effort_by : (n a b sum u inner whole : ℕ) → b + 1 ≤ a → inner ≤ n → whole ≡ sum + (0 + u) + (0 + (inner + 1)) → b * (n + 2) + whole ≤ a * (n + 2) + sum + u
effort_by n a b sum u inner whole fewer within is = let more : (b + 1) * (n + 2) ≤ a * (n + 2) = mul-le-mul_right (n + 2) fewer in omega (arith, more, is, within)

ended_by : (n a b sum sum' u : ℕ) → b ≤ a → sum' ≡ sum → b * (n + 2) + sum' ≤ a * (n + 2) + sum + u
ended_by n a b sum sum' u fewer same = let more : b * (n + 2) ≤ a * (n + 2) = mul-le-mul_right (n + 2) fewer in omega (arith, more, same)

taken_by : (k sum u whole : ℕ) → whole ≡ sum + (0 + u) → k + whole ≡ k + sum + u
taken_by k sum u whole is = omega (arith, is)

weight_less : (b : Bool) (v : Visit) (o : Option Visit) → cond (is_some (cond b (Some v) o)) 0 1 ≤ cond (is_some o) 0 1
weight_less true v o = omega arith
weight_less false v o = omega arith

weight_at : (b : Bool) (v : Visit) (o : Option Visit) → b ≡ true → o ≡ None → cond (is_some (cond b (Some v) o)) 0 1 + 1 ≤ cond (is_some o) 0 1
weight_at true v None is none = omega arith
weight_at true v (Some x) is none = cc
weight_at false v o is none = cc

pub unseen_kept : (seen seen' : BTreeMap ℕ Visit) (at : ℕ) (v : Visit) (n : ℕ) → ((q : ℕ) → get nat_cmp seen' q ≡ cond (is_at (nat_cmp at) q) (Some v) (get nat_cmp seen q)) → unseen seen' n ≤ unseen seen n
unseen_kept seen seen' at v zero updates = omega arith
unseen_kept seen seen' at v (suc n) updates =
    let later = unseen_kept seen seen' at v n updates in
    let less : cond (is_some (get nat_cmp seen' n)) 0 1 ≤ cond (is_some (get nat_cmp seen n)) 0 1 =
    subst (λ (o : Option Visit). cond (is_some o) 0 1 ≤ cond (is_some (get nat_cmp seen n)) 0 1) (sym (updates n)) (weight_less (is_at (nat_cmp at) n) v (get nat_cmp seen n)) in
    sums_kept (unseen seen' n) (unseen seen n) (cond (is_some (get nat_cmp seen' n)) 0 1) (cond (is_some (get nat_cmp seen n)) 0 1) later less

unseen_below : (seen seen' : BTreeMap ℕ Visit) (at : ℕ) (v : Visit) (n : ℕ) (b : Bool) → eqb at n ≡ b → at < suc n → ((q : ℕ) → get nat_cmp seen' q ≡ cond (is_at (nat_cmp at) q) (Some v) (get nat_cmp seen q)) → get nat_cmp seen at ≡ None →
    (at < n → unseen seen' n + 1 ≤ unseen seen n) → unseen seen' (suc n) + 1 ≤ unseen seen (suc n)
unseen_below seen seen' at v n true same within updates none on =
    let here : get nat_cmp seen n ≡ None = ap (get nat_cmp seen) (sym (eqb-true at n same)) ∙ none in
    let less : cond (is_some (get nat_cmp seen' n)) 0 1 + 1 ≤ cond (is_some (get nat_cmp seen n)) 0 1 =
    subst (λ (o : Option Visit). cond (is_some o) 0 1 + 1 ≤ cond (is_some (get nat_cmp seen n)) 0 1) (sym (updates n)) (weight_at (is_at (nat_cmp at) n) v (get nat_cmp seen n) (test_is at n ∙ same) here) in
    sums_here (unseen seen' n) (unseen seen n) (cond (is_some (get nat_cmp seen' n)) 0 1) (cond (is_some (get nat_cmp seen n)) 0 1) (unseen_kept seen seen' at v n updates) less
unseen_below seen seen' at v n false other within updates none on =
    let less : cond (is_some (get nat_cmp seen' n)) 0 1 ≤ cond (is_some (get nat_cmp seen n)) 0 1 =
    subst (λ (o : Option Visit). cond (is_some o) 0 1 ≤ cond (is_some (get nat_cmp seen n)) 0 1) (sym (updates n)) (weight_less (is_at (nat_cmp at) n) v (get nat_cmp seen n)) in
    sums_below (unseen seen' n) (unseen seen n) (cond (is_some (get nat_cmp seen' n)) 0 1) (cond (is_some (get nat_cmp seen n)) 0 1) (on (below_other at n within other)) less

pub unseen_less : (seen seen' : BTreeMap ℕ Visit) (at : ℕ) (v : Visit) (n : ℕ) → at < n → ((q : ℕ) → get nat_cmp seen' q ≡ cond (is_at (nat_cmp at) q) (Some v) (get nat_cmp seen q)) → get nat_cmp seen at ≡ None → unseen seen' n + 1 ≤ unseen seen n
unseen_less seen seen' at v zero within updates none = absurd (omega arith)
unseen_less seen seen' at v (suc n) within updates none = unseen_below seen seen' at v n (eqb at n) refl within updates none (λ less. unseen_less seen seen' at v n less updates none)

-- a unit was entered, and stands behind the one that imports it
pub effort_entered : (n : ℕ) (seen seen' : BTreeMap ℕ Visit) (units : List OpenUnit) (u inner : OpenUnit) → unseen seen' n + 1 ≤ unseen seen n → length (rest inner.cursor) ≤ n →
    effort n seen' ((units ++ u ∷ []) ++ inner ∷ []) ≤ effort n seen units + left_in u
effort_entered n seen seen' units u inner fewer within =
    effort_by n (unseen seen n) (unseen seen' n) (sum_by left_in units) (left_in u) (length (rest inner.cursor)) (sum_by left_in ((units ++ u ∷ []) ++ inner ∷ [])) fewer within
    (sum_by-append left_in (units ++ u ∷ []) (inner ∷ []) ∙ ap (λ (k : ℕ). k + sum_by left_in (inner ∷ [])) (sum_by-append left_in units (u ∷ [])))

-- a unit was read whole
pub effort_ended : (n : ℕ) (seen seen' : BTreeMap ℕ Visit) (units units' : List OpenUnit) (u : OpenUnit) → unseen seen' n ≤ unseen seen n → sum_by left_in units' ≡ sum_by left_in units → effort n seen' units' ≤ effort n seen units + left_in u
effort_ended n seen seen' units units' u fewer same = ended_by n (unseen seen n) (unseen seen' n) (sum_by left_in units) (sum_by left_in units') (left_in u) fewer same

-- the innermost unit is taken from the list
pub effort_taken : (n : ℕ) (seen : BTreeMap ℕ Visit) (units : List OpenUnit) (u : OpenUnit) → effort n seen (units ++ u ∷ []) ≡ effort n seen units + left_in u
effort_taken n seen units u = taken_by (unseen seen n * (n + 2)) (sum_by left_in units) (left_in u) (sum_by left_in (units ++ u ∷ [])) (sum_by-append left_in units (u ∷ []))
