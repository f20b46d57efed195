-- How a file is followed by the tree of its lines (C17 6.10.1 p6): of each if-section that is reached the first group whose condition is true, then the fault of its structure.
use Rattle.std.specs.Prelude.{◌≡◌, ℕ, Bool, true, false, List, [], ◌∷◌, ◌++◌, Result, Ok, Err}
use Rattle.pp_directives.specs.declared.fault.StructFault.{StructFault}
use Rattle.pp_directives.specs.declared.fault.StructFault.TheVariants.{OpenIf}
use Rattle.pp_directives.specs.Groups.{CondLine, line, Group, Empty, Other, Section, Tail, Elif, Else, Endif, lines_of, tail_lines, Parses, carried, endifs, Spot}
use Rattle.pp_directives.specs.Structure.{IsFaultAt, IsOpenAtEnd}

-- what lines of this kind do to a state, and the faults that end all
pub record Ways (A S F : Type 0) : Type 1 where
  -- the state after a line that is only passed: it is a conditional directive, or is in a group that is not taken
  pub passes : A → S → S
  -- what a line of a taken group that is no conditional directive comes to
  pub Does : A → S → Result S F → Type 0
  -- what the condition of a line comes to
  pub Asks : A → S → Result Bool F → Type 0
  -- the fault where a line of this number breaks the structure
  pub breaks : StructFault → ℕ → F
  -- the number of a line
  pub spot : A → ℕ

-- the first, and where it ends without a fault the next
pub data Then {S T F : Type 0} (First : Result S F → Type 0) (Next : S → Result T F → Type 0) : Result T F → Type 0 where
  Stops : {fault : F} → First (Err fault) → Then First Next (Err fault)
  Goes : {s : S} {r : Result T F} → First (Ok s) → Next s r → Then First Next r

-- the one or the other, by an answer
abbrev pub Chosen : {R : Type 0} → (Taken Left : R → Type 0) → Bool → R → Type 0
Chosen Taken Left true r = Taken r
Chosen Taken Left false r = Left r

module _ {A S F : Type 0} (ways : Ways A S F) where
  -- the state after lines that are only passed
  abbrev pub passed_all : List (CondLine A) → S → S
  passed_all [] s = s
  passed_all (here ∷ lines) s = passed_all lines (ways.passes here.item s)

  -- these lines are passed
  abbrev pub Passes : List (CondLine A) → S → Result S F → Type 0
  Passes lines s r = r ≡ Ok (passed_all lines s)

  -- the condition of a line is asked in the state before it, and the line is passed; then comes the one or the other, by the answer
  abbrev pub Decides : A → (Taken Left : S → Result S F → Type 0) → S → Result S F → Type 0
  Decides here Taken Left s = Then (ways.Asks here s) (Chosen (Taken (ways.passes here s)) (Left (ways.passes here s)))

  abbrev mutual
    -- what a taken group comes to
    pub Follows : Group A → S → Result S F → Type 0
    Follows Empty s r = r ≡ Ok s
    Follows (Other here after) s r = Then (ways.Does here s) (Follows after) r
    Follows (Section opening group tail after) s r =
        Then
        (Decides opening
        (λ t. Then (Follows group t) (Passes (tail_lines tail)))
        (λ t. FollowsTail tail (passed_all (lines_of group) t)) s)
        (Follows after) r

    -- what the rest of an if-section comes to, of which no group was taken
    pub FollowsTail : Tail A → S → Result S F → Type 0
    FollowsTail (Elif here group tail) s r =
        Decides here
        (λ t. Then (Follows group t) (Passes (tail_lines tail)))
        (λ t. FollowsTail tail (passed_all (lines_of group) t)) s r
    FollowsTail (Else here group ending) s r = Then (Follows group (ways.passes here s)) (λ t q. q ≡ Ok (ways.passes ending t)) r
    FollowsTail (Endif ending) s r = r ≡ Ok (ways.passes ending s)

  -- a line as the structure sees it; no answer counts there
  abbrev pub spot_of : A → Spot
  spot_of here = record { number = ways.spot here; answer = false }

  -- Legal lines, completed to a tree, are followed; then comes this fault of the structure. The added lines `#endif` change a state that no one sees.
  pub data FollowsBroken (lines : List (CondLine A)) (s : S) (number : ℕ) (fault : StructFault) (r : Result S F) : Type 0 where
    Completed : (ending : A) (n : ℕ) (tree : Group A) → Parses (lines ++ endifs ending n) tree →
        Then (Follows tree s) (λ t q. q ≡ Err (ways.breaks fault number)) r → FollowsBroken lines s number fault r

  -- what a file of these lines comes to: they have a tree, or a first line that is not legal, or a section is open at their end
  pub data FollowsFile (lines : List (CondLine A)) (s : S) (r : Result S F) : Type 0 where
    Whole : (tree : Group A) → Parses lines tree → Follows tree s r → FollowsFile lines s r
    Broken : (before after : List (CondLine A)) (here : CondLine A) (fault : StructFault) →
        lines ≡ before ++ here ∷ after → IsFaultAt (carried spot_of before) (line here.role (spot_of here.item)) fault →
        FollowsBroken before s (ways.spot here.item) fault r → FollowsFile lines s r
    Unclosed : (number : ℕ) → IsOpenAtEnd (carried spot_of lines) number → FollowsBroken lines s number OpenIf r → FollowsFile lines s r
