-- Legal lines that are completed to a tree.
use Rattle.std.proofs.Common.{◌≡◌, ◌↔◌, ℕ, zero, suc, List, [], ◌∷◌, ◌++◌, length, Result, Ok, Err, refl, sym, ap, ◌∙◌, subst}
use Rattle.std.proofs.lemmas.List.{append-nil, map-append}
use Rattle.mac_base.proofs.Choices.{same_ok}
use Rattle.pp_directives.specs.declared.fault.StructFault.{StructFault}
use Rattle.pp_directives.specs.declared.conditional.open_section.OpenSection.{OpenSection}
use Rattle.pp_directives.specs.Groups.{EndifLine, CondLine, line, Group, lines_of, Parses, HasTree, carried, endifs, Spot, added}
use Rattle.pp_directives.specs.Conditions.{turned_all}
use Rattle.pp_directives.specs.Following.{Ways, Then, Follows, spot_of}
use Rattle.pp_directives.proofs.StructureLemmas.{tree_depth, depth_tree}
use Rattle.pp_directives.proofs.TreeLemmas.{roles_decide}
use Rattle.pp_directives.proofs.ThenLemmas.{Same, same_self, same_back, ◌⨾◌}
use Rattle.pp_directives.proofs.IntoLemmas.{Into, into_on, endif_turns}
use Rattle.pp_directives.proofs.FollowLemmas.{follow_group}
use Rattle.pp_directives.proofs.AlikeLemmas.{alike_length, into_alike}

-- lines of which only what they do to groups is known
abbrev bare : {A : Type 0} → List (CondLine A) → List (CondLine Spot)
bare = carried (λ _. added)

bare_endifs : {A : Type 0} (ending : A) (n : ℕ) → bare (endifs ending n) ≡ endifs added n
bare_endifs ending zero = refl
bare_endifs ending (suc n) = ap (λ x. line EndifLine added ∷ x) (bare_endifs ending n)

bare_two : {A : Type 0} (lines : List (CondLine A)) (ending : A) (n : ℕ) → bare (lines ++ endifs ending n) ≡ bare lines ++ endifs added n
bare_two lines ending n = map-append (λ here. line here.role added) lines (endifs ending n) ∙ ap (λ x. bare lines ++ x) (bare_endifs ending n)

bare_tree : {A : Type 0} (lines : List (CondLine A)) (ending : A) (n : ℕ) → HasTree (lines ++ endifs ending n) ↔ HasTree (bare lines ++ endifs added n)
bare_tree lines ending n =
    let d = roles_decide (λ _. added) (lines ++ endifs ending n) in
    ((λ h. subst HasTree (bare_two lines ending n) (d.0 h)), (λ h. d.1 (subst HasTree (sym (bare_two lines ending n)) h)))

bare_carried : {A : Type 0} (view : A → Spot) (lines : List (CondLine A)) → bare (carried view lines) ≡ bare lines
bare_carried view [] = refl
bare_carried view (here ∷ lines) = ap (λ x. line here.role added ∷ x) (bare_carried view lines)

-- lines are completed as their spots are
completed : {A : Type 0} (view : A → Spot) (lines : List (CondLine A)) (ending : A) (n : ℕ) → HasTree (lines ++ endifs ending n) ↔ HasTree (carried view lines ++ endifs added n)
completed view lines ending n =
    let one = bare_tree lines ending n in
    let two = bare_tree (carried view lines) added n in
    let e = bare_carried view lines in (
      (λ h. two.1 (subst (λ x. HasTree (x ++ endifs added n)) (sym e) (one.0 h))),
      (λ h. one.1 (subst (λ x. HasTree (x ++ endifs added n)) e (two.0 h))),
    )

module _ {A S F : Type 0} (ways : Ways A S F) where
  -- the end where this fault is answered
  abbrev pub Answered : StructFault → ℕ → List OpenSection → S → Result S F → Type 0
  Answered fault number p t r = r ≡ Err (ways.breaks fault number)

  -- added lines change what no one sees
  added_into : (fault : StructFault) (number : ℕ) (ending : A) (n : ℕ) (p : List OpenSection) (s : S) → length p ≡ n →
      Same (Into ways (Answered fault number) p (endifs ending n) s) (Answered fault number p s)
  added_into fault number ending zero p s is = same_self (Answered fault number p s)
  added_into fault number ending (suc n) [] s is = cc
  added_into fault number ending (suc n) (o ∷ p) s is =
      endif_turns ways (Answered fault number) ending o p (endifs ending n) s ⨾ added_into fault number ending n p (ways.passes ending s) (cc is)

  -- so many sections are pending as lines were added
  completed_length : (lines : List (CondLine A)) (ending : A) (n : ℕ) (q : List OpenSection) → turned_all [] (carried (spot_of ways) lines) ≡ Ok q → HasTree (lines ++ endifs ending n) → length q ≡ n
  completed_length lines ending n q turns tree =
      let d = tree_depth (carried (spot_of ways) lines) n ((completed (spot_of ways) lines ending n).0 tree) in
      ap length (same_ok {E = StructFault} q d.pending (sym turns ∙ d.turns)) ∙ d.depth

  pub completes : (lines : List (CondLine A)) (ending : A) (q : List OpenSection) → turned_all [] (carried (spot_of ways) lines) ≡ Ok q → HasTree (lines ++ endifs ending (length q))
  completes lines ending q turns =
      (completed (spot_of ways) lines ending (length q)).1 (depth_tree (carried (spot_of ways) lines) (length q) (record { pending = q; turns = turns; depth = refl }))

  -- to follow the completed lines is to run them, where the fault is answered after both
  pub completed_same : (lines : List (CondLine A)) (ending : A) (n : ℕ) (tree : Group A) (q : List OpenSection) (s : S) (fault : StructFault) (number : ℕ) →
      turned_all [] (carried (spot_of ways) lines) ≡ Ok q → Parses (lines ++ endifs ending n) tree →
      Same (Then (Follows ways tree s) (λ t r. r ≡ Err (ways.breaks fault number))) (Into ways (Answered fault number) [] lines s)
  completed_same lines ending n tree q s fault number turns is =
      same_back (follow_group ways (Answered fault number) tree [] [] s refl)
      ⨾ subst (λ x. Same (Into ways (Answered fault number) [] (lines_of tree ++ []) s) (Into ways (Answered fault number) [] x s)) (append-nil (lines_of tree) ∙ is)
      (same_self (Into ways (Answered fault number) [] (lines_of tree ++ []) s))
      ⨾ into_on ways (Answered fault number) lines (endifs ending n) [] s
      ⨾ into_alike ways (λ p t. Into ways (Answered fault number) p (endifs ending n) t) (Answered fault number) lines [] [] q s tt turns
      (λ x t like. added_into fault number ending n x t (alike_length x q like ∙ completed_length lines ending n q turns (tree, is)))
