-- The conditions that are kept line by line say what the tree of the lines says (C17 6.10 p1, 6.10.1 p6).
use Rattle.std.specs.Prelude.{◌≡◌, ◌↔◌, ℕ, Bool, true, false, IsOk, List, [], ◌∷◌, ◌++◌, length, slice_get, Some, None, Ok, Err}
use Rattle.pp_directives.specs.declared.conditional.open_section.OpenSection.{OpenSection}
use Rattle.pp_directives.specs.declared.fault.StructFault.{StructFault}
use Rattle.pp_directives.specs.Groups.{LineRole, line, CondLine, Group, Parses, HasTree, carried, lines_of, Spot, endifs, added}
use Rattle.pp_directives.specs.Structure.{AllLegal, IsFaultAt, IsOpenAtEnd, IsFirstFault, Closes}
use Rattle.pp_directives.specs.Reached.{reached, seen_in, looked_at}
use Rattle.pp_directives.specs.Conditions.{fault_after, is_due, open_line, sight_of, turned, turned_all}

-- these lines are turned, and the next is rejected with this fault
pub record Refuses (before : List (CondLine Spot)) (here : CondLine Spot) (fault : StructFault) : Type 0 where
  pub pending : List OpenSection
  pub turns : turned_all [] before ≡ Ok pending
  pub refused : turned pending here ≡ Err fault

-- after these lines a condition is open that began on this line
pub record EndsOpen (lines : List (CondLine Spot)) (number : ℕ) : Type 0 where
  pub pending : List OpenSection
  pub turns : turned_all [] lines ≡ Ok pending
  pub line : open_line pending ≡ Some number

-- after these lines so many conditions are open
pub record HasDepth (lines : List (CondLine Spot)) (n : ℕ) : Type 0 where
  pub pending : List OpenSection
  pub turns : turned_all [] lines ≡ Ok pending
  pub depth : length pending ≡ n

-- what is kept line by line says what the tree of the lines says
pub record ConditionsFollowGroups : Type 0 where
  -- lines are turned exactly where each is legal
  pub turns : (lines : List (CondLine Spot)) → AllLegal lines ↔ IsOk (turned_all [] lines)
  -- as many conditions are open as lines `#endif` lack to make a group
  pub depth : (lines : List (CondLine Spot)) (n : ℕ) → HasTree (lines ++ endifs added n) ↔ HasDepth lines n
  -- a line is rejected exactly where it is the first that is not legal, with its fault
  pub refuses : (before : List (CondLine Spot)) (here : CondLine Spot) (fault : StructFault) → IsFaultAt before here fault ↔ Refuses before here fault
  -- what is open at the end is the innermost `#if` that is not closed
  pub opens : (lines : List (CondLine Spot)) (number : ℕ) → IsOpenAtEnd lines number ↔ EndsOpen lines number
  -- so lines end in no fault exactly where they are a group, and else in their first fault
  pub whole : (lines : List (CondLine Spot)) → HasTree lines ↔ (fault_after [] lines ≡ None)
  pub faults : (lines : List (CondLine Spot)) (number : ℕ) (fault : StructFault) → IsFirstFault lines number fault ↔ (fault_after [] lines ≡ Some (number, fault))
  -- the answer to a condition that decides no group changes nothing
  pub answers : (role : LineRole) (number : ℕ) (answer other : Bool) (pending : List OpenSection) → is_due role pending ≡ false →
      turned pending (line role (record { number = number; answer = answer })) ≡ turned pending (line role (record { number = number; answer = other }))
  -- before each line of a tree `active` and `due` are what the tree says there
  pub sees : (tree : Group Spot) (before after : List (CondLine Spot)) (here : CondLine Spot) (pending : List OpenSection) →
      Parses (before ++ here ∷ after) tree → turned_all [] before ≡ Ok pending →
      slice_get (seen_in true tree) (length before) ≡ Some (sight_of pending here)
  -- the lines that are looked at by what is seen are those that the tree reaches
  pub reaches : (tree : Group Spot) → looked_at (lines_of tree) (seen_in true tree) ≡ reached tree

-- of lines of which anything is known
pub record TreesAreOfRoles (A : Type 0) : Type 0 where
  -- they have one tree at most
  pub one : (lines : List (CondLine A)) (tree other : Group A) → Parses lines tree → Parses lines other → tree ≡ other
  -- whether they have one is said by what they do to groups alone
  pub roles : (view : A → Spot) (lines : List (CondLine A)) → HasTree lines ↔ HasTree (carried view lines)
  -- a file of them has a tree, closed where a condition is open, and it has only one
  pub closes : (view : A → Spot) (ending : A) (lines : List (CondLine A)) → (tree : Group A) × Closes view ending lines tree
  pub once : (view : A → Spot) (ending : A) (lines : List (CondLine A)) (tree other : Group A) → Closes view ending lines tree → Closes view ending lines other → tree ≡ other
