-- What following the tree of a file's lines leaves, by what each line leaves.
use Rattle.std.proofs.Common.{◌≡◌, ℕ, Bool, true, false, List, [], ◌∷◌, ◌++◌, Result, Ok, refl, sym, ap, subst}
use Rattle.mac_base.proofs.Choices.{same_ok}
use Rattle.pp_tokens.specs.declared.line.Line.{Line}
use Rattle.pp_directives.specs.Groups.{CondLine, line, EndifLine, Group, Empty, Other, Section, Tail, Elif, Else, Endif, lines_of, tail_lines}
use Rattle.pp_directives.specs.Following.{Ways, Then, Goes, Chosen, passed_all, Passes, Decides, Follows, FollowsTail}
use Rattle.pp_unit.specs.declared.fault.PpFault.{PpFault}
use Rattle.pp_unit.specs.Seen.{Marked}
use Rattle.pp_unit.proofs.LeavesLemmas.{Leaves}

-- lines, as they are besides their roles, and then more
abbrev pub onto : List (CondLine Line) → List Line → List Line
onto [] more = more
onto (here ∷ lines) more = here.item ∷ onto lines more

onto_two : (a b : List (CondLine Line)) (more : List Line) → onto (a ++ b) more ≡ onto a (onto b more)
onto_two [] b more = refl
onto_two (here ∷ a) b more = ap (λ (list : List Line). here.item ∷ list) (onto_two a b more)

module _ (ways : Ways Line Marked PpFault) (c : List ℕ) (to : Marked)
    (passes : (here : Line) (lines : List Line) (m : Marked) → Leaves c to lines (ways.passes here m) → Leaves c to (here ∷ lines) m)
    (does : (here : Line) (lines : List Line) (m next : Marked) → ways.Does here m (Ok next) → Leaves c to lines next → Leaves c to (here ∷ lines) m) where
  -- what a group leaves before more
  abbrev OfGroup : Group Line → Type 0
  OfGroup g = (m next : Marked) (more : List Line) → Follows ways g m (Ok next) → Leaves c to more next → Leaves c to (onto (lines_of g) more) m

  abbrev OfTail : Tail Line → Type 0
  OfTail t = (m next : Marked) (more : List Line) → FollowsTail ways t m (Ok next) → Leaves c to more next → Leaves c to (onto (tail_lines t) more) m

  passed : (lines : List (CondLine Line)) (more : List Line) (m : Marked) → Leaves c to more (passed_all ways lines m) → Leaves c to (onto lines more) m
  passed [] more m leaves = leaves
  passed (here ∷ lines) more m leaves = passes here.item (onto lines more) m (passed lines more (ways.passes here.item m) leaves)

  -- lines that were passed, by the state after them
  passed_to : (lines : List (CondLine Line)) (more : List Line) (m next : Marked) → ◌≡◌ {A = Result Marked PpFault} (Ok next) (Ok (passed_all ways lines m)) → Leaves c to more next → Leaves c to (onto lines more) m
  passed_to lines more m next is leaves = passed lines more m (subst (Leaves c to more) (same_ok {E = PpFault} next (passed_all ways lines m) is) leaves)

  -- a group that is taken
  taken : (g : Group Line) (t : Tail Line) → OfGroup g → (m next : Marked) (more : List Line) →
      Then (Follows ways g m) (Passes ways (tail_lines t)) (Ok next) → Leaves c to more next → Leaves c to (onto (lines_of g ++ tail_lines t) more) m
  taken g t group m next more (Goes {s = middle} follows is) leaves =
      subst (λ (lines : List Line). Leaves c to lines m) (sym (onto_two (lines_of g) (tail_lines t) more))
      (group m middle (onto (tail_lines t) more) follows (passed_to (tail_lines t) more middle next is leaves))

  -- a group that is not taken
  left : (g : Group Line) (t : Tail Line) → OfTail t → (m next : Marked) (more : List Line) →
      FollowsTail ways t (passed_all ways (lines_of g) m) (Ok next) → Leaves c to more next → Leaves c to (onto (lines_of g ++ tail_lines t) more) m
  left g t tail m next more follows leaves =
      subst (λ (lines : List Line). Leaves c to lines m) (sym (onto_two (lines_of g) (tail_lines t) more))
      (passed (lines_of g) (onto (tail_lines t) more) m (tail (passed_all ways (lines_of g) m) next more follows leaves))

  chosen : (answer : Bool) (g : Group Line) (t : Tail Line) → OfGroup g → OfTail t → (m next : Marked) (more : List Line) →
      Chosen (Then (Follows ways g m) (Passes ways (tail_lines t))) (FollowsTail ways t (passed_all ways (lines_of g) m)) answer (Ok next) →
      Leaves c to more next → Leaves c to (onto (lines_of g ++ tail_lines t) more) m
  chosen true g t group tail m next more follows leaves = taken g t group m next more follows leaves
  chosen false g t group tail m next more follows leaves = left g t tail m next more follows leaves

  decided : (here : Line) (g : Group Line) (t : Tail Line) → OfGroup g → OfTail t → (m next : Marked) (more : List Line) →
      Decides ways here (λ u. Then (Follows ways g u) (Passes ways (tail_lines t))) (λ u. FollowsTail ways t (passed_all ways (lines_of g) u)) m (Ok next) →
      Leaves c to more next → Leaves c to (here ∷ onto (lines_of g ++ tail_lines t) more) m
  decided here g t group tail m next more (Goes {s = answer} asks follows) leaves =
      passes here (onto (lines_of g ++ tail_lines t) more) m (chosen answer g t group tail (ways.passes here m) next more follows leaves)

  -- a line that does something, and what comes after it
  other : (here : Line) (after : Group Line) → OfGroup after → (m next : Marked) (more : List Line) →
      Then (ways.Does here m) (Follows ways after) (Ok next) → Leaves c to more next → Leaves c to (here ∷ onto (lines_of after) more) m
  other here after rest m next more (Goes {s = middle} does_it follows) leaves =
      does here (onto (lines_of after) more) m middle does_it (rest middle next more follows leaves)

  -- a section, and what comes after it
  section : (opening : Line) (g : Group Line) (t : Tail Line) (after : Group Line) → OfGroup g → OfTail t → OfGroup after → (m next : Marked) (more : List Line) →
      Follows ways (Section opening g t after) m (Ok next) → Leaves c to more next → Leaves c to (onto (lines_of (Section opening g t after)) more) m
  section opening g t after group tail rest m next more (Goes {s = middle} first follows) leaves =
      subst (λ (lines : List Line). Leaves c to (opening ∷ lines) m) (sym (onto_two (lines_of g ++ tail_lines t) (lines_of after) more))
      (decided opening g t group tail m middle (onto (lines_of after) more) first (rest middle next more follows leaves))

  -- the last group of a section
  last : (here : Line) (g : Group Line) (ending : Line) → OfGroup g → (m next : Marked) (more : List Line) →
      Then (Follows ways g (ways.passes here m)) (λ t q. q ≡ Ok (ways.passes ending t)) (Ok next) → Leaves c to more next →
      Leaves c to (here ∷ onto (lines_of g ++ line EndifLine ending ∷ []) more) m
  last here g ending group m next more (Goes {s = middle} follows is) leaves =
      passes here (onto (lines_of g ++ line EndifLine ending ∷ []) more) m
      (subst (λ (lines : List Line). Leaves c to lines (ways.passes here m)) (sym (onto_two (lines_of g) (line EndifLine ending ∷ []) more))
      (group (ways.passes here m) middle (ending ∷ more) follows (passed_to (line EndifLine ending ∷ []) more middle next is leaves)))

  mutual
    pub of_group : (g : Group Line) → OfGroup g
    of_group Empty m next more follows leaves = subst (Leaves c to more) (same_ok {E = PpFault} next m follows) leaves
    of_group (Other here after) m next more follows leaves = other here after (of_group after) m next more follows leaves
    of_group (Section opening g t after) m next more follows leaves = section opening g t after (of_group g) (of_tail t) (of_group after) m next more follows leaves

    pub of_tail : (t : Tail Line) → OfTail t
    of_tail (Elif here g t) m next more follows leaves = decided here g t (of_group g) (of_tail t) m next more follows leaves
    of_tail (Else here g ending) m next more follows leaves = last here g ending (of_group g) m next more follows leaves
    of_tail (Endif ending) m next more follows leaves = passed_to (line EndifLine ending ∷ []) more m next follows leaves
