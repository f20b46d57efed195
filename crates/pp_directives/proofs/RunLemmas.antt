-- Turning the lines of a tree: what is pending after them, and what is seen on the way.
use Rattle.std.proofs.Common.{◌≡◌, Bool, true, false, cond, not, List, [], ◌∷◌, ◌++◌, Result, Ok, Err, refl, sym, ap, ◌∙◌, append_assoc}
use Rattle.mac_base.specs.Input.{◌>>=◌}
use Rattle.pp_directives.specs.declared.fault.StructFault.{StructFault}
use Rattle.pp_directives.specs.declared.fault.StructFault.TheVariants.{ElseAfterElse, ElifAfterElse}
use Rattle.pp_directives.specs.declared.conditional.open_section.OpenSection.{OpenSection}
use Rattle.pp_directives.specs.Groups.{OtherLine, IfLine, ElifLine, ElseLine, EndifLine, Spot, CondLine, line, Group, Empty, Other, Section, Tail, Elif, Else, Endif, lines_of, tail_lines}
use Rattle.pp_directives.specs.Reached.{Sight, sight, seen_in, seen_after, reached, reached_after, looked_at}
use Rattle.pp_directives.specs.Conditions.{is_active, sight_of, opened, after_elif, after_else, turned, turned_all}

-- four lists in a row
pub four : {A : Type 0} (a b c d : List A) → ((a ++ b) ++ c) ++ d ≡ a ++ (b ++ (c ++ d))
four a b c d = append_assoc (a ++ b) c d ∙ append_assoc a b (c ++ d)

-- an `#elif` where no `#else` was
pub elif_step : (o : OpenSection) (s : List OpenSection) (spot : Spot) (k : List (CondLine Spot)) → o.has_else ≡ false →
    turned_all (o ∷ s) (line ElifLine spot ∷ k) ≡ turned_all (after_elif spot.answer o ∷ s) k
elif_step o s spot k h = ap (λ (b : Bool). (cond {A = Result (List OpenSection) StructFault} b (Err ElifAfterElse) (Ok (after_elif spot.answer o ∷ s))) >>= λ after. turned_all after k) h

-- an `#else` where no `#else` was
pub else_step : (o : OpenSection) (s : List OpenSection) (spot : Spot) (k : List (CondLine Spot)) → o.has_else ≡ false →
    turned_all (o ∷ s) (line ElseLine spot ∷ k) ≡ turned_all (after_else o ∷ s) k
else_step o s spot k h = ap (λ (b : Bool). (cond {A = Result (List OpenSection) StructFault} b (Err ElseAfterElse) (Ok (after_else o ∷ s))) >>= λ after. turned_all after k) h

mutual
  -- a whole group leaves pending what was so before it
  pub run_group : (g : Group Spot) (s : List OpenSection) (k : List (CondLine Spot)) → turned_all s (lines_of g ++ k) ≡ turned_all s k
  run_group Empty s k = refl
  run_group (Other spot after) s k = run_group after s k
  run_group (Section opening group tail after) s k =
      let o = opened (is_active s) opening in
      ap (turned_all (o ∷ s)) (four (lines_of group) (tail_lines tail) (lines_of after) k)
      ∙ run_group group (o ∷ s) (tail_lines tail ++ (lines_of after ++ k))
      ∙ run_tail tail o s (lines_of after ++ k) refl
      ∙ run_group after s k

  -- the rest of a section closes it
  pub run_tail : (t : Tail Spot) (o : OpenSection) (s : List OpenSection) (k : List (CondLine Spot)) → o.has_else ≡ false → turned_all (o ∷ s) (tail_lines t ++ k) ≡ turned_all s k
  run_tail (Elif spot group tail) o s k h =
      elif_step o s spot ((lines_of group ++ tail_lines tail) ++ k) h
      ∙ ap (turned_all (after_elif spot.answer o ∷ s)) (append_assoc (lines_of group) (tail_lines tail) k)
      ∙ run_group group (after_elif spot.answer o ∷ s) (tail_lines tail ++ k)
      ∙ run_tail tail (after_elif spot.answer o) s k h
  run_tail (Else spot group ending) o s k h =
      else_step o s spot ((lines_of group ++ line EndifLine ending ∷ []) ++ k) h
      ∙ ap (turned_all (after_else o ∷ s)) (append_assoc (lines_of group) (line EndifLine ending ∷ []) k)
      ∙ run_group group (after_else o ∷ s) (line EndifLine ending ∷ k)
  run_tail (Endif ending) o s k h = refl

-- what is seen after a turn
abbrev pub after_turn : Result (List OpenSection) StructFault → (List OpenSection → List Sight) → List Sight
after_turn (Ok s) go = go s
after_turn (Err fault) go = []

-- what is seen before each line
abbrev pub sights : List OpenSection → List (CondLine Spot) → List Sight
sights s [] = []
sights s (here ∷ lines) = sight_of s here ∷ after_turn (turned s here) (λ after. sights after lines)

elif_seen : (o : OpenSection) (s : List OpenSection) (spot : Spot) (k : List (CondLine Spot)) → o.has_else ≡ false →
    sights (o ∷ s) (line ElifLine spot ∷ k) ≡ sight o.active o.waiting ∷ sights (after_elif spot.answer o ∷ s) k
elif_seen o s spot k h = ap (λ (b : Bool). sight o.active o.waiting ∷ after_turn (cond {A = Result (List OpenSection) StructFault} b (Err ElifAfterElse) (Ok (after_elif spot.answer o ∷ s))) (λ after. sights after k)) h

else_seen : (o : OpenSection) (s : List OpenSection) (spot : Spot) (k : List (CondLine Spot)) → o.has_else ≡ false →
    sights (o ∷ s) (line ElseLine spot ∷ k) ≡ sight o.active false ∷ sights (after_else o ∷ s) k
else_seen o s spot k h = ap (λ (b : Bool). sight o.active false ∷ after_turn (cond {A = Result (List OpenSection) StructFault} b (Err ElseAfterElse) (Ok (after_else o ∷ s))) (λ after. sights after k)) h

mutual
  -- what is seen in a group is what the tree says
  pub see_group : (g : Group Spot) (s : List OpenSection) (k : List (CondLine Spot)) → sights s (lines_of g ++ k) ≡ seen_in (is_active s) g ++ sights s k
  see_group Empty s k = refl
  see_group (Other spot after) s k = ap (λ x. sight (is_active s) false ∷ x) (see_group after s k)
  see_group (Section opening group tail after) s k =
      let o = opened (is_active s) opening in
      let first = seen_in o.active group in
      let others = seen_after o.active o.waiting tail in
      let more = seen_in (is_active s) after in
      ap (λ x. sight (is_active s) (is_active s) ∷ x)
      (ap (sights (o ∷ s)) (four (lines_of group) (tail_lines tail) (lines_of after) k)
      ∙ see_group group (o ∷ s) (tail_lines tail ++ (lines_of after ++ k))
      ∙ ap (λ x. first ++ x) (see_tail tail o s (lines_of after ++ k) refl)
      ∙ ap (λ x. first ++ (others ++ x)) (see_group after s k)
      ∙ sym (four first others more (sights s k)))

  pub see_tail : (t : Tail Spot) (o : OpenSection) (s : List OpenSection) (k : List (CondLine Spot)) → o.has_else ≡ false →
      sights (o ∷ s) (tail_lines t ++ k) ≡ seen_after o.active o.waiting t ++ sights s k
  see_tail (Elif spot group tail) o s k h =
      let p = after_elif spot.answer o in
      let first = seen_in p.active group in
      let others = seen_after p.active p.waiting tail in
      elif_seen o s spot ((lines_of group ++ tail_lines tail) ++ k) h
      ∙ ap (λ x. sight o.active o.waiting ∷ x)
      (ap (sights (p ∷ s)) (append_assoc (lines_of group) (tail_lines tail) k)
      ∙ see_group group (p ∷ s) (tail_lines tail ++ k)
      ∙ ap (λ x. first ++ x) (see_tail tail p s k h)
      ∙ sym (append_assoc first others (sights s k)))
  see_tail (Else spot group ending) o s k h =
      let p = after_else o in
      let first = seen_in p.active group in
      else_seen o s spot ((lines_of group ++ line EndifLine ending ∷ []) ++ k) h
      ∙ ap (λ x. sight o.active false ∷ x)
      (ap (sights (p ∷ s)) (append_assoc (lines_of group) (line EndifLine ending ∷ []) k)
      ∙ see_group group (p ∷ s) (line EndifLine ending ∷ k)
      ∙ sym (append_assoc first (sight o.waiting false ∷ []) (sights s k)))
  see_tail (Endif ending) o s k h = refl

-- a list, where the test is true
abbrev pub picked : Bool → List (CondLine Spot) → List (CondLine Spot)
picked true xs = xs
picked false xs = []

-- the three parts of a section in a taken group
joined : (answer : Bool) (a b c d : List (CondLine Spot)) → picked answer a ++ (picked (not answer) b ++ (c ++ d)) ≡ ((cond answer a b) ++ c) ++ d
joined true a b c d = sym (append_assoc a c d)
joined false a b c d = sym (append_assoc b c d)

-- the two parts after an `#elif` in a section that waits
either : (answer : Bool) (a b d : List (CondLine Spot)) → picked answer a ++ (picked (not answer) b ++ d) ≡ (cond answer a b) ++ d
either true a b d = refl
either false a b d = refl

-- lines, of which these are looked at by what is seen
abbrev Looks : List (CondLine Spot) → List Sight → List (CondLine Spot) → Type 0
Looks lines seen looked = (k : List (CondLine Spot)) (ss : List Sight) → looked_at (lines ++ k) (seen ++ ss) ≡ looked ++ looked_at k ss

looks_both : (a b : List (CondLine Spot)) (sa sb : List Sight) (la lb : List (CondLine Spot)) → Looks a sa la → Looks b sb lb →
    (k : List (CondLine Spot)) (ss : List Sight) → looked_at ((a ++ b) ++ k) ((sa ++ sb) ++ ss) ≡ la ++ (lb ++ looked_at k ss)
looks_both a b sa sb la lb ea eb k ss =
    ap (λ x. looked_at x ((sa ++ sb) ++ ss)) (append_assoc a b k) ∙ ap (looked_at (a ++ (b ++ k))) (append_assoc sa sb ss)
    ∙ ea (b ++ k) (sb ++ ss) ∙ ap (λ x. la ++ x) (eb k ss)

looks_three : (a b c : List (CondLine Spot)) (sa sb sc : List Sight) (la lb lc : List (CondLine Spot)) → Looks a sa la → Looks b sb lb → Looks c sc lc →
    (k : List (CondLine Spot)) (ss : List Sight) → looked_at (((a ++ b) ++ c) ++ k) (((sa ++ sb) ++ sc) ++ ss) ≡ la ++ (lb ++ (lc ++ looked_at k ss))
looks_three a b c sa sb sc la lb lc ea eb ec k ss =
    ap (λ x. looked_at x (((sa ++ sb) ++ sc) ++ ss)) (four a b c k) ∙ ap (looked_at (a ++ (b ++ (c ++ k)))) (four sa sb sc ss)
    ∙ ea (b ++ (c ++ k)) (sb ++ (sc ++ ss)) ∙ ap (λ x. la ++ x) (eb (c ++ k) (sc ++ ss)) ∙ ap (λ x. la ++ (lb ++ x)) (ec k ss)

-- an `#endif` is not looked at
looks_endif : (ending : Spot) (active : Bool) → Looks (line EndifLine ending ∷ []) (sight active false ∷ []) []
looks_endif ending active k ss = refl

mutual
  -- in a group that is taken the lines that it reaches are looked at, else none
  pub look_group : (g : Group Spot) (taken : Bool) (k : List (CondLine Spot)) (ss : List Sight) →
      looked_at (lines_of g ++ k) (seen_in taken g ++ ss) ≡ picked taken (reached g) ++ looked_at k ss
  look_group Empty true k ss = refl
  look_group Empty false k ss = refl
  look_group (Other spot after) true k ss = ap (λ x. line OtherLine spot ∷ x) (look_group after true k ss)
  look_group (Other spot after) false k ss = look_group after false k ss
  look_group (Section opening group tail after) true k ss =
      ap (λ x. line IfLine opening ∷ x)
      (looks_three (lines_of group) (tail_lines tail) (lines_of after)
      (seen_in opening.answer group) (seen_after opening.answer (not opening.answer) tail) (seen_in true after)
      (picked opening.answer (reached group)) (picked (not opening.answer) (reached_after tail)) (reached after)
      (look_group group opening.answer) (look_tail tail opening.answer (not opening.answer)) (look_group after true) k ss
      ∙ joined opening.answer (reached group) (reached_after tail) (reached after) (looked_at k ss))
  look_group (Section opening group tail after) false k ss =
      looks_three (lines_of group) (tail_lines tail) (lines_of after)
      (seen_in false group) (seen_after false false tail) (seen_in false after) [] [] []
      (look_group group false) (look_tail tail false false) (look_group after false) k ss

  pub look_tail : (t : Tail Spot) (before waiting : Bool) (k : List (CondLine Spot)) (ss : List Sight) →
      looked_at (tail_lines t ++ k) (seen_after before waiting t ++ ss) ≡ picked waiting (reached_after t) ++ looked_at k ss
  look_tail (Elif spot group tail) before true k ss =
      ap (λ x. line ElifLine spot ∷ x)
      (looks_both (lines_of group) (tail_lines tail) (seen_in spot.answer group) (seen_after spot.answer (not spot.answer) tail)
      (picked spot.answer (reached group)) (picked (not spot.answer) (reached_after tail))
      (look_group group spot.answer) (look_tail tail spot.answer (not spot.answer)) k ss
      ∙ either spot.answer (reached group) (reached_after tail) (looked_at k ss))
  look_tail (Elif spot group tail) before false k ss =
      looks_both (lines_of group) (tail_lines tail) (seen_in false group) (seen_after false false tail) [] []
      (look_group group false) (look_tail tail false false) k ss
  look_tail (Else spot group ending) before waiting k ss =
      looks_both (lines_of group) (line EndifLine ending ∷ []) (seen_in waiting group) (sight waiting false ∷ []) (picked waiting (reached group)) []
      (look_group group waiting) (looks_endif ending waiting) k ss
  look_tail (Endif ending) before true k ss = refl
  look_tail (Endif ending) before false k ss = refl
