-- What is seen before the lines of a tree.
use Rattle.std.proofs.Common.{◌≡◌, true, List, [], ◌∷◌, ◌++◌, length, Some, Ok, sym, ap, ◌∙◌, slice_get}
use Rattle.std.proofs.lemmas.List.{append-nil}
use Rattle.mac_base.proofs.Choices.{same_ok, bind_ok}
use Rattle.pp_directives.specs.declared.fault.StructFault.{StructFault}
use Rattle.pp_directives.specs.declared.conditional.open_section.OpenSection.{OpenSection}
use Rattle.pp_directives.specs.Groups.{Spot, CondLine, Group, lines_of, Parses}
use Rattle.pp_directives.specs.Reached.{seen_in, reached, looked_at}
use Rattle.pp_directives.specs.Conditions.{sight_of, turned, turned_all}
use Rattle.pp_directives.proofs.RunLemmas.{after_turn, sights, see_group, look_group}

-- what is seen before a line after others
sight_at : (before after : List (CondLine Spot)) (here : CondLine Spot) (s pending : List OpenSection) → turned_all s before ≡ Ok pending →
    slice_get (sights s (before ++ here ∷ after)) (length before) ≡ Some (sight_of pending here)
sight_at [] after here s pending is = ap (λ x. Some (sight_of x here)) (same_ok {E = StructFault} s pending is)
sight_at (first ∷ before) after here s pending is =
    let b = bind_ok (turned s first) (λ next. turned_all next before) pending is in
    ap (λ r. slice_get (after_turn r (λ next. sights next (before ++ here ∷ after))) (length before)) b.1
    ∙ sight_at before after here b.0 pending b.2

-- what is seen in a whole tree
all_seen : (tree : Group Spot) → sights [] (lines_of tree) ≡ seen_in true tree
all_seen tree = ap (sights []) (sym (append-nil (lines_of tree))) ∙ see_group tree [] [] ∙ append-nil (seen_in true tree)

pub sees_law : (tree : Group Spot) (before after : List (CondLine Spot)) (here : CondLine Spot) (pending : List OpenSection) →
    Parses (before ++ here ∷ after) tree → turned_all [] before ≡ Ok pending →
    slice_get (seen_in true tree) (length before) ≡ Some (sight_of pending here)
sees_law tree before after here pending is turns =
    ap (λ x. slice_get x (length before)) (sym (all_seen tree) ∙ ap (sights []) is)
    ∙ sight_at before after here [] pending turns

pub reaches_law : (tree : Group Spot) → looked_at (lines_of tree) (seen_in true tree) ≡ reached tree
reaches_law tree =
    ap (λ x. looked_at x (seen_in true tree)) (sym (append-nil (lines_of tree)))
    ∙ ap (looked_at (lines_of tree ++ [])) (sym (append-nil (seen_in true tree)))
    ∙ look_group tree true [] []
    ∙ append-nil (reached tree)
