-- Lines are turned exactly where they are legal, and rejected with the fault that the trees say.
use Rattle.std.proofs.Common.{◌≡◌, ℕ, zero, suc, ◌+◌, ◌≤◌, ◌⊎◌, inl, inr, ◌↔◌, Bool, true, false, cond, List, [], ◌∷◌, ◌++◌, length, take, drop, IsOk, Result, Ok, Err, refl, sym, ap, ◌∙◌, subst, arith}
use Rattle.std.proofs.lemmas.List.{append-nil, take_all, take-append-drop}
use Rattle.mac_base.specs.Input.{◌>>=◌}
use Rattle.mac_base.proofs.Choices.{same_ok, guarded_not, bind_ok}
use Rattle.pp_directives.specs.declared.fault.StructFault.{StructFault}
use Rattle.pp_directives.specs.declared.fault.StructFault.TheVariants.{ElseAfterElse, ElifAfterElse}
use Rattle.pp_directives.specs.declared.conditional.open_section.OpenSection.{OpenSection}
use Rattle.pp_directives.specs.Groups.{LineRole, OtherLine, IfLine, ElifLine, ElseLine, EndifLine, Spot, CondLine, lines_of, HasTree, endifs, added}
use Rattle.pp_directives.specs.Structure.{CanClose, AllLegal, IsFaultOf, IsFaultAt}
use Rattle.pp_directives.specs.Conditions.{is_active, opened, after_elif, after_else, turned_by, turned, turned_all}
use Rattle.pp_directives.specs.Laws.{Refuses, HasDepth}
use Rattle.pp_directives.proofs.RunLemmas.{run_group}
use Rattle.pp_directives.proofs.StackLemmas.{stacked, closed_tree}

-- what the lines of a group leave pending is nothing
pub tree_run : (lines : List (CondLine Spot)) → HasTree lines → turned_all [] lines ≡ Ok []
tree_run lines (tree, is) = subst (λ x. turned_all [] x ≡ Ok []) is (ap (turned_all []) (sym (append-nil (lines_of tree))) ∙ run_group tree [] [])

-- lines in two parts
pub run_parts : (front back : List (CondLine Spot)) (s after : List OpenSection) → turned_all s (front ++ back) ≡ Ok after →
    (mid : List OpenSection) × (turned_all s front ≡ Ok mid) × (turned_all mid back ≡ Ok after)
run_parts [] back s after is = (s, refl, is)
run_parts (here ∷ front) back s after is =
    let b = bind_ok (turned s here) (λ next. turned_all next (front ++ back)) after is in
    let more = run_parts front back b.0 after b.2 in
    (more.0, ap (λ r. r >>= λ next. turned_all next front) b.1 ∙ more.1, more.2)

pub run_on : (front back : List (CondLine Spot)) (s mid : List OpenSection) → turned_all s front ≡ Ok mid → turned_all s (front ++ back) ≡ turned_all mid back
run_on [] back s mid is = ap (λ x. turned_all x back) (same_ok {E = StructFault} s mid is)
run_on (here ∷ front) back s mid is =
    let b = bind_ok (turned s here) (λ next. turned_all next front) mid is in
    ap (λ r. r >>= λ next. turned_all next (front ++ back)) b.1 ∙ run_on front back b.0 mid b.2

-- so many `#endif` close so many sections
pub endifs_run : (ending : Spot) (n : ℕ) (s : List OpenSection) → turned_all s (endifs ending n) ≡ Ok [] → length s ≡ n
endifs_run ending zero [] is = refl
endifs_run ending zero (o ∷ s) is = cc
endifs_run ending (suc n) [] is = cc
endifs_run ending (suc n) (o ∷ s) is = ap suc (endifs_run ending n s is)

pub endifs_all : (ending : Spot) (s : List OpenSection) → turned_all s (endifs ending (length s)) ≡ Ok []
endifs_all ending [] = refl
endifs_all ending (o ∷ s) = endifs_all ending s

-- a line opens one section at most
step_length : (role : LineRole) (spot : Spot) (s after : List OpenSection) → turned_by role spot s ≡ Ok after → length after ≤ suc (length s)
step_length OtherLine spot s after is = subst (λ x. length x ≤ suc (length s)) (same_ok {E = StructFault} s after is) (omega arith)
step_length IfLine spot s after is = subst (λ x. length x ≤ suc (length s)) (same_ok {E = StructFault} (opened (is_active s) spot ∷ s) after is) (omega arith)
step_length ElifLine spot [] after is = cc
step_length ElifLine spot (o ∷ s) after is =
    let g = guarded_not o.has_else (Ok (after_elif spot.answer o ∷ s)) after ElifAfterElse is in
    subst (λ x. length x ≤ suc (length (o ∷ s))) (same_ok {E = StructFault} (after_elif spot.answer o ∷ s) after g.1) (omega arith)
step_length ElseLine spot [] after is = cc
step_length ElseLine spot (o ∷ s) after is =
    let g = guarded_not o.has_else (Ok (after_else o ∷ s)) after ElseAfterElse is in
    subst (λ x. length x ≤ suc (length (o ∷ s))) (same_ok {E = StructFault} (after_else o ∷ s) after g.1) (omega arith)
step_length EndifLine spot [] after is = cc
step_length EndifLine spot (o ∷ s) after is = subst (λ x. length x ≤ suc (length (o ∷ s))) (same_ok {E = StructFault} s after is) (omega arith)

run_length : (lines : List (CondLine Spot)) (s after : List OpenSection) → turned_all s lines ≡ Ok after → length after ≤ length s + length lines
run_length [] s after is = subst (λ x. length x ≤ length s + 0) (same_ok {E = StructFault} s after is) (omega arith)
run_length (here ∷ lines) s after is =
    let b = bind_ok (turned s here) (λ next. turned_all next lines) after is in
    let one : length b.0 ≤ suc (length s) = step_length here.role here.item s b.0 b.1 in
    let more : length after ≤ length b.0 + length lines = run_length lines b.0 after b.2 in
    omega arith

-- as many sections are pending as `#endif` lack
pub tree_depth : (lines : List (CondLine Spot)) (n : ℕ) → HasTree (lines ++ endifs added n) → HasDepth lines n
tree_depth lines n tree =
    let p = run_parts lines (endifs added n) [] [] (tree_run (lines ++ endifs added n) tree) in
    record { pending = p.0; turns = p.1; depth = endifs_run added n p.0 p.2 }

pub depth_tree : (lines : List (CondLine Spot)) (n : ℕ) → HasDepth lines n → HasTree (lines ++ endifs added n)
depth_tree lines n d = subst (λ x. HasTree (lines ++ endifs added x)) d.depth (closed_tree d.pending lines (stacked lines d.pending d.turns))

-- lines that are turned and leave nothing pending are a group
pub run_tree : (lines : List (CondLine Spot)) → turned_all [] lines ≡ Ok [] → HasTree lines
run_tree lines is = subst HasTree (append-nil lines) (depth_tree lines 0 (record { pending = []; turns = is; depth = refl }))

-- lines that are turned
abbrev pub Turns : List (CondLine Spot) → Type 0
Turns lines = (s : List OpenSection) × (turned_all [] lines ≡ Ok s)

pub close_turns : (lines : List (CondLine Spot)) → CanClose lines → Turns lines
close_turns lines (n, few, tree) = let d = tree_depth lines n tree in (d.pending, d.turns)

pub turns_close : (lines : List (CondLine Spot)) → Turns lines → CanClose lines
turns_close lines (s, is) =
    let few : length s ≤ 0 + length lines = run_length lines [] s is in
    (length s, omega arith, depth_tree lines (length s) (record { pending = s; turns = is; depth = refl }))

pub legal_turns : (lines : List (CondLine Spot)) → AllLegal lines → Turns lines
legal_turns [] legal = ([], refl)
legal_turns (here ∷ lines) legal =
    subst Turns (take_all (suc (length lines)) (here ∷ lines) (omega arith))
    (close_turns (take (suc (length lines)) (here ∷ lines)) (legal (length lines) (omega arith)))

pub turns_legal : (lines : List (CondLine Spot)) → Turns lines → AllLegal lines
turns_legal lines (s, is) k below =
    let front = take (suc k) lines in
    let back = drop (suc k) lines in
    let p = run_parts front back [] s (ap (turned_all []) (take-append-drop (suc k) lines) ∙ is) in
    turns_close front (p.0, p.1)

ok_value : {A E : Type 0} (r : Result A E) → IsOk r → (x : A) × (r ≡ Ok x)
ok_value (Ok x) h = (x, refl)
ok_value (Err e) h = cc

pub legal_ok : (lines : List (CondLine Spot)) → AllLegal lines ↔ IsOk (turned_all [] lines)
legal_ok lines = (
  (λ legal. let t = legal_turns lines legal in subst (λ r. IsOk r) (sym t.1) refl),
  (λ ok. turns_legal lines (ok_value (turned_all [] lines) ok)),
)

pub depth_law : (lines : List (CondLine Spot)) (n : ℕ) → HasTree (lines ++ endifs added n) ↔ HasDepth lines n
depth_law lines n = (tree_depth lines n, depth_tree lines n)

-- where a section is pending the lines are no group
pub pending_no_tree : (lines : List (CondLine Spot)) (o : OpenSection) (s : List OpenSection) → turned_all [] lines ≡ Ok (o ∷ s) → HasTree lines → ⊥
pending_no_tree lines o s is tree =
    let none = tree_run lines tree in
    cc

-- the fault of a line that is rejected
fault_of : (before : List (CondLine Spot)) (role : LineRole) (spot : Spot) (s : List OpenSection) (fault : StructFault) → turned_all [] before ≡ Ok s → turned_by role spot s ≡ Err fault → IsFaultOf before role fault
fault_of before OtherLine spot s fault is refused = cc
fault_of before IfLine spot s fault is refused = cc
fault_of before ElifLine spot [] fault is refused = inl (run_tree before is, cc)
fault_of before ElifLine spot (o ∷ s) fault is refused = by_else o.has_else refused
  where
    by_else : (b : Bool) → cond {A = Result (List OpenSection) StructFault} b (Err ElifAfterElse) (Ok (after_elif spot.answer o ∷ s)) ≡ Err fault → IsFaultOf before ElifLine fault
    by_else true e = inr (pending_no_tree before o s is, cc)
    by_else false e = cc
fault_of before ElseLine spot [] fault is refused = inl (run_tree before is, cc)
fault_of before ElseLine spot (o ∷ s) fault is refused = by_else o.has_else refused
  where
    by_else : (b : Bool) → cond {A = Result (List OpenSection) StructFault} b (Err ElseAfterElse) (Ok (after_else o ∷ s)) ≡ Err fault → IsFaultOf before ElseLine fault
    by_else true e = inr (pending_no_tree before o s is, cc)
    by_else false e = cc
fault_of before EndifLine spot [] fault is refused = (run_tree before is, cc)
fault_of before EndifLine spot (o ∷ s) fault is refused = cc

one_of : {T : Type 0} {a b c d : StructFault} → (T × (c ≡ a)) ⊎ ((¬ T) × (c ≡ b)) → (T × (d ≡ a)) ⊎ ((¬ T) × (d ≡ b)) → c ≡ d
one_of (inl (t, p)) (inl (u, q)) = p ∙ sym q
one_of (inl (t, p)) (inr (u, q)) = absurd (u t)
one_of (inr (t, p)) (inl (u, q)) = absurd (t u)
one_of (inr (t, p)) (inr (u, q)) = p ∙ sym q

-- there is one fault at most
one_fault : (before : List (CondLine Spot)) (role : LineRole) (fault other : StructFault) → IsFaultOf before role fault → IsFaultOf before role other → fault ≡ other
one_fault before OtherLine fault other f g = absurd f
one_fault before IfLine fault other f g = absurd f
one_fault before ElifLine fault other f g = one_of f g
one_fault before ElseLine fault other f g = one_of f g
one_fault before EndifLine fault other f g = f.1 ∙ sym g.1

pub refuses_fault : (before : List (CondLine Spot)) (here : CondLine Spot) (fault : StructFault) → Refuses before here fault → IsFaultAt before here fault
refuses_fault before here fault r = record {
  legal = turns_legal before (r.pending, r.turns);
  illegal = λ close.
      let t = close_turns (before ++ here ∷ []) close in
      let p = run_parts before (here ∷ []) [] t.0 t.1 in
      let same : r.pending ≡ p.0 = same_ok {E = StructFault} r.pending p.0 (sym r.turns ∙ p.1) in
      let goes : turned_all r.pending (here ∷ []) ≡ Ok t.0 = ap (λ x. turned_all x (here ∷ [])) same ∙ p.2 in
      let stops : turned_all r.pending (here ∷ []) ≡ Err fault = ap (λ x. x >>= λ next. turned_all next []) r.refused in
      cc;
  kind = fault_of before here.role here.item r.pending fault r.turns r.refused;
}

pub fault_refuses : (before : List (CondLine Spot)) (here : CondLine Spot) (fault : StructFault) → IsFaultAt before here fault → Refuses before here fault
fault_refuses before here fault f = by_turn (turned t.0 here) refl
  where
    t : Turns before
    t = legal_turns before f.legal

    by_turn : (r : Result (List OpenSection) StructFault) → turned t.0 here ≡ r → Refuses before here fault
    by_turn (Ok s) e = absurd (f.illegal (turns_close (before ++ here ∷ []) (s, run_on before (here ∷ []) [] t.0 t.1 ∙ ap (λ x. x >>= λ next. turned_all next []) e)))
    by_turn (Err other) e = record {
      pending = t.0;
      turns = t.1;
      refused = e ∙ ap (λ x. Err x) (one_fault before here.role other fault (fault_of before here.role here.item t.0 other t.1 e) f.kind);
    }

pub refuses_law : (before : List (CondLine Spot)) (here : CondLine Spot) (fault : StructFault) → IsFaultAt before here fault ↔ Refuses before here fault
refuses_law before here fault = (fault_refuses before here fault, refuses_fault before here fault)
