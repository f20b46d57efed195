-- Which groups of a tree are taken (C17 6.10.1 p6): of each if-section that is reached the first group whose condition is true, or that of `#else` where none is.
use Rattle.std.specs.Prelude.{Bool, true, false, not, ◌&&◌, ◌||◌, if◌then◌else◌, List, [], ◌∷◌, ◌++◌}
use Rattle.pp_directives.specs.Groups.{LineRole, OtherLine, IfLine, ElifLine, ElseLine, EndifLine, CondLine, line, Group, Empty, Other, Section, Tail, Elif, Else, Endif, Spot}

abbrev mutual
  -- the lines of a taken group that are looked at, in order: those that are no conditional directives, and the conditions that decide a group
  pub reached : Group Spot → List (CondLine Spot)
  reached Empty = []
  reached (Other spot after) = line OtherLine spot ∷ reached after
  reached (Section opening group tail after) = line IfLine opening ∷ (if opening.answer then reached group else reached_after tail) ++ reached after

  -- the same in the rest of an if-section of which no group was taken
  pub reached_after : Tail Spot → List (CondLine Spot)
  reached_after (Elif spot group tail) = line ElifLine spot ∷ (if spot.answer then reached group else reached_after tail)
  reached_after (Else spot group ending) = reached group
  reached_after (Endif ending) = []

-- what holds before a line: whether the group that is open there is taken, and whether the condition of the line decides a group
pub record Sight : Type 0 where
  pub active : Bool
  pub due : Bool

-- a sight by these two
abbrev pub sight : Bool → Bool → Sight
sight active due = record { active = active; due = due }

abbrev mutual
  -- what holds before each line of a group, which is taken or not
  pub seen_in : Bool → Group Spot → List Sight
  seen_in taken Empty = []
  seen_in taken (Other spot after) = sight taken false ∷ seen_in taken after
  seen_in taken (Section opening group tail after) =
      sight taken taken ∷ seen_in (taken && opening.answer) group
      ++ seen_after (taken && opening.answer) (taken && not opening.answer) tail
      ++ seen_in taken after

  -- The same in the rest of an if-section. `before` says whether the group before it was taken, `waiting` that the section is in a taken group and none of its own was taken yet.
  pub seen_after : (before waiting : Bool) → Tail Spot → List Sight
  seen_after before waiting (Elif spot group tail) =
      sight before waiting ∷ seen_in (waiting && spot.answer) group
      ++ seen_after (waiting && spot.answer) (waiting && not spot.answer) tail
  seen_after before waiting (Else spot group ending) = sight before false ∷ seen_in waiting group ++ sight waiting false ∷ []
  seen_after before waiting (Endif ending) = sight before false ∷ []

-- whether a line is no conditional directive
abbrev pub is_other : LineRole → Bool
is_other OtherLine = true
is_other IfLine = false
is_other ElifLine = false
is_other ElseLine = false
is_other EndifLine = false

-- the lines that are looked at, by what holds before each: in a taken group those that are no conditional directives, and conditions that decide a group
abbrev pub looked_at : List (CondLine Spot) → List Sight → List (CondLine Spot)
looked_at [] sights = []
looked_at (here ∷ lines) [] = []
looked_at (here ∷ lines) (s ∷ sights) = if (is_other here.role && s.active) || s.due then here ∷ looked_at lines sights else looked_at lines sights
