-- To follow lines one after another, with what is pending, is to follow their tree (C17 6.10.1 p6).
use Rattle.std.specs.Prelude.{◌≡◌, ◌↔◌, List, [], Result}
use Rattle.pp_directives.specs.Groups.{CondLine}
use Rattle.pp_directives.specs.Following.{Ways, FollowsFile}
use Rattle.pp_directives.specs.Running.{Runs}

-- at most one result
abbrev pub HasOneAtMost : {A S R : Type 0} → (A → S → R → Type 0) → Type 0
HasOneAtMost {A} {S} {R} P = (here : A) (s : S) (r q : R) → P here s r → P here s q → r ≡ q

-- a result in each state
abbrev pub HasOne : {A S R : Type 0} → (A → S → R → Type 0) → Type 0
HasOne {A} {S} {R} P = (here : A) (s : S) → (r : R) × P here s r

-- lines in these ways come to the same by both, and to one thing where each of them does
pub record LinesRunAsTheirTree {A S F : Type 0} (ways : Ways A S F) : Type 0 where
  -- what lines come to one after another is what their file comes to
  pub same : (lines : List (CondLine A)) (s : S) (r : Result S F) → Runs ways [] lines s r ↔ FollowsFile ways lines s r
  -- where each line and each condition comes to one thing at most, so does a file
  pub one : HasOneAtMost ways.Does → HasOneAtMost ways.Asks → HasOneAtMost (FollowsFile ways)
  -- where each comes to something, so does a file
  pub some : HasOne ways.Does → HasOne ways.Asks → HasOne (FollowsFile ways)
