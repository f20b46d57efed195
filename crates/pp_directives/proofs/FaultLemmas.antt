-- The fault in which lines end is the first.
use Rattle.std.proofs.Common.{◌≡◌, ℕ, ◌↔◌, ◌⊎◌, inl, inr, Bool, true, false, Option, List, [], ◌∷◌, ◌++◌, Some, None, Result, Ok, Err, refl, sym, ap, ◌∙◌, subst, append_assoc}
use Rattle.std.proofs.lemmas.List.{append-nil}
use Rattle.std.specs.Option.{option_map}
use Rattle.mac_base.specs.Input.{◌>>=◌}
use Rattle.mac_base.proofs.Choices.{same_ok, same_some, none_is_no_some, bind_ok}
use Rattle.pp_directives.specs.declared.fault.StructFault.{StructFault}
use Rattle.pp_directives.specs.declared.fault.StructFault.TheVariants.{OpenIf}
use Rattle.pp_directives.specs.declared.conditional.open_section.OpenSection.{OpenSection}
use Rattle.pp_directives.specs.Groups.{LineRole, OtherLine, IfLine, ElifLine, ElseLine, EndifLine, Spot, CondLine, line, HasTree}
use Rattle.pp_directives.specs.Structure.{IsFirstFault, in_line, at_end}
use Rattle.pp_directives.specs.Conditions.{is_active, is_due, opened, elif_turned, fault_or, fault_after, turned, turned_all}
use Rattle.pp_directives.proofs.StructureLemmas.{run_on, tree_run, run_tree, refuses_fault, fault_refuses}
use Rattle.pp_directives.proofs.InnermostLemmas.{ends_open, open_at_end}

-- the lines are a group, or have a first fault
abbrev Faulted : List (CondLine Spot) → Type 0
Faulted lines = HasTree lines ⊎ ((number : ℕ) × (fault : StructFault) × IsFirstFault lines number fault)

-- the next line is turned, or is the first that is not legal
faults_step : (lines whole before : List (CondLine Spot)) (here : CondLine Spot) (pending : List OpenSection) (r : Result (List OpenSection) StructFault) →
    turned_all [] before ≡ Ok pending → whole ≡ before ++ here ∷ lines → turned pending here ≡ r →
    ((next : List OpenSection) → turned_all [] (before ++ here ∷ []) ≡ Ok next → Faulted whole) → Faulted whole
faults_step lines whole before here pending (Ok next) turns is step go =
    go next (run_on before (here ∷ []) [] pending turns ∙ ap (λ x. x >>= λ after. turned_all after []) step)
faults_step lines whole before here pending (Err fault) turns is step go =
    inr (here.item.number, fault, in_line before lines here fault is (refuses_fault before here fault (record { pending = pending; turns = turns; refused = step })))

-- the first fault of lines that go on after those that were turned
faults_from : (lines whole before : List (CondLine Spot)) (pending : List OpenSection) → turned_all [] before ≡ Ok pending → whole ≡ before ++ lines → Faulted whole
faults_from [] whole before [] turns is = inl (subst HasTree (sym (is ∙ append-nil before)) (run_tree before turns))
faults_from [] whole before (o ∷ s) turns is =
    let e : whole ≡ before = is ∙ append-nil before in
    inr (o.line, OpenIf, at_end o.line (open_at_end whole o.line (o ∷ s) (ap (turned_all []) e ∙ turns) refl))
faults_from (here ∷ lines) whole before pending turns is =
    faults_step lines whole before here pending (turned pending here) turns is refl
    (λ next more. faults_from lines whole (before ++ here ∷ []) next more (is ∙ sym (append_assoc before (here ∷ []) lines)))

faulted : (lines : List (CondLine Spot)) → Faulted lines
faulted lines = faults_from lines lines [] [] refl refl

-- the fault of lines that go on after those that were turned
fault_on : (front back : List (CondLine Spot)) (s mid : List OpenSection) → turned_all s front ≡ Ok mid → fault_after s (front ++ back) ≡ fault_after mid back
fault_on [] back s mid is = ap (λ x. fault_after x back) (same_ok {E = StructFault} s mid is)
fault_on (here ∷ front) back s mid is =
    let b = bind_ok (turned s here) (λ next. turned_all next front) mid is in
    ap (λ r. fault_or here.item.number r (λ after. fault_after after (front ++ back))) b.1 ∙ fault_on front back b.0 mid b.2

tree_no_fault : (lines : List (CondLine Spot)) → HasTree lines → fault_after [] lines ≡ None
tree_no_fault lines tree = ap (fault_after []) (sym (append-nil lines)) ∙ fault_on lines [] [] [] (tree_run lines tree)

-- the first fault is that in which the lines end
fault_said : (lines : List (CondLine Spot)) (number : ℕ) (fault : StructFault) → IsFirstFault lines number fault → fault_after [] lines ≡ Some (number, fault)
fault_said lines number fault (in_line before after here f is at) =
    let r = fault_refuses before here fault at in
    ap (fault_after []) is ∙ fault_on before (here ∷ after) [] r.pending r.turns
    ∙ ap (λ x. fault_or here.item.number x (λ next. fault_after next after)) r.refused
fault_said lines number fault (at_end n at) =
    let e = ends_open lines number at in
    ap (fault_after []) (sym (append-nil lines)) ∙ fault_on lines [] [] e.pending e.turns ∙ ap (option_map (λ n. (n, OpenIf))) e.line

no_fault_tree : (lines : List (CondLine Spot)) → Faulted lines → fault_after [] lines ≡ None → HasTree lines
no_fault_tree lines (inl tree) none = tree
no_fault_tree lines (inr (number, fault, first)) none =
    let said = fault_said lines number fault first in
    absurd (none_is_no_some (number, fault) (sym none ∙ said))

said_fault : (lines : List (CondLine Spot)) (number : ℕ) (fault : StructFault) → Faulted lines → fault_after [] lines ≡ Some (number, fault) → IsFirstFault lines number fault
said_fault lines number fault (inl tree) some = absurd (none_is_no_some (number, fault) (sym (tree_no_fault lines tree) ∙ some))
said_fault lines number fault (inr (n, f, first)) some =
    let e = same_some (n, f) (number, fault) (sym (fault_said lines n f first) ∙ some) in
    subst (λ (p : ℕ × StructFault). IsFirstFault lines p.0 p.1) e first

pub whole_law : (lines : List (CondLine Spot)) → HasTree lines ↔ (fault_after [] lines ≡ None)
whole_law lines = (tree_no_fault lines, no_fault_tree lines (faulted lines))

pub faults_law : (lines : List (CondLine Spot)) (number : ℕ) (fault : StructFault) → IsFirstFault lines number fault ↔ (fault_after [] lines ≡ Some (number, fault))
faults_law lines number fault = (fault_said lines number fault, said_fault lines number fault (faulted lines))

or_fault : (lines : List (CondLine Spot)) (o : Option (ℕ × StructFault)) → fault_after [] lines ≡ o → HasTree lines ⊎ ((number : ℕ) × (fault : StructFault) × IsFirstFault lines number fault)
or_fault lines None is = inl ((whole_law lines).1 is)
or_fault lines (Some found) is = inr (found.0, found.1, (faults_law lines found.0 found.1).1 is)

-- lines have a tree, or a first fault
pub tree_or_fault : (lines : List (CondLine Spot)) → HasTree lines ⊎ ((number : ℕ) × (fault : StructFault) × IsFirstFault lines number fault)
tree_or_fault lines = or_fault lines (fault_after [] lines) refl

-- the answer does not count
if_answers : (taken : Bool) (number : ℕ) (answer other : Bool) → taken ≡ false → opened taken (record { number = number; answer = answer }) ≡ opened taken (record { number = number; answer = other })
if_answers true number answer other idle = cc
if_answers false number answer other idle = refl

elif_answers : (waiting has_else active : Bool) (number : ℕ) (answer other : Bool) (s : List OpenSection) → waiting ≡ false →
    let o : OpenSection = record { line = number; active = active; waiting = waiting; has_else = has_else } in
    elif_turned answer (o ∷ s) ≡ elif_turned other (o ∷ s)
elif_answers true has_else active number answer other s idle = cc
elif_answers false has_else active number answer other s idle = refl

pub answers_law : (role : LineRole) (number : ℕ) (answer other : Bool) (pending : List OpenSection) → is_due role pending ≡ false →
    turned pending (line role (record { number = number; answer = answer })) ≡ turned pending (line role (record { number = number; answer = other }))
answers_law OtherLine number answer other pending idle = refl
answers_law IfLine number answer other pending idle = ap (λ (o : OpenSection). Ok (o ∷ pending)) (if_answers (is_active pending) number answer other idle)
answers_law ElifLine number answer other [] idle = refl
answers_law ElifLine number answer other (o ∷ s) idle = elif_answers o.waiting o.has_else o.active o.line answer other s idle
answers_law ElseLine number answer other pending idle = refl
answers_law EndifLine number answer other pending idle = refl
