-- How lines break the structure of groups (C17 6.10 p1), and where they do so first.
use Rattle.std.specs.Prelude.{◌≡◌, ℕ, suc, ◌<◌, ◌≤◌, ◌⊎◌, List, [], ◌∷◌, ◌++◌, length, take}
use Rattle.pp_directives.specs.declared.fault.StructFault.{StructFault}
use Rattle.pp_directives.specs.declared.fault.StructFault.TheVariants.{StrayElse, StrayElif, StrayEndif, ElseAfterElse, ElifAfterElse, OpenIf}
use Rattle.pp_directives.specs.Groups.{LineRole, OtherLine, IfLine, ElifLine, ElseLine, EndifLine, CondLine, line, Group, Parses, HasTree, IsSection, carried, endifs, Spot, added}

-- lines `#endif`, no more of them than there are lines, complete the lines to a group
abbrev pub CanClose : List (CondLine Spot) → Type 0
CanClose lines = (n : ℕ) × (n ≤ length lines) × HasTree (lines ++ endifs added n)

-- each line is legal: the lines up to it can be completed
abbrev pub AllLegal : List (CondLine Spot) → Type 0
AllLegal lines = (k : ℕ) → k < length lines → CanClose (take (suc k) lines)

-- The fault of a line of this role that is not legal after these lines. Where the lines before are a group nothing is open, so it has no `#if`; else it comes after an `#else`.
abbrev pub IsFaultOf : List (CondLine Spot) → LineRole → StructFault → Type 0
IsFaultOf before ElseLine fault = (HasTree before × (fault ≡ StrayElse)) ⊎ ((¬ HasTree before) × (fault ≡ ElseAfterElse))
IsFaultOf before ElifLine fault = (HasTree before × (fault ≡ StrayElif)) ⊎ ((¬ HasTree before) × (fault ≡ ElifAfterElse))
IsFaultOf before EndifLine fault = HasTree before × (fault ≡ StrayEndif)
IsFaultOf before OtherLine fault = ⊥
IsFaultOf before IfLine fault = ⊥

-- after these lines, which are legal, comes the first line that is not, and this is its fault
pub record IsFaultAt (before : List (CondLine Spot)) (here : CondLine Spot) (fault : StructFault) : Type 0 where
  pub legal : AllLegal before
  pub illegal : ¬ CanClose (before ++ here ∷ [])
  pub kind : IsFaultOf before here.role fault

-- the innermost `#if` that is open after these lines has this number: from it on they are one if-section, but for its `#endif`
pub record IsInnermost (lines : List (CondLine Spot)) (number : ℕ) : Type 0 where
  pub front : List (CondLine Spot)
  pub opening : Spot
  pub inside : List (CondLine Spot)
  pub whole : lines ≡ front ++ line IfLine opening ∷ inside
  pub section : IsSection (line IfLine opening ∷ inside ++ endifs added 1)
  pub named : number ≡ opening.number

-- all lines are legal, but an `#if` is open at their end; it is on the line with this number
pub record IsOpenAtEnd (lines : List (CondLine Spot)) (number : ℕ) : Type 0 where
  pub legal : AllLegal lines
  pub unclosed : ¬ HasTree lines
  pub innermost : IsInnermost lines number

-- the first structural fault of a file of these lines, and the number of its line: at the first line that is not legal, or at the end
pub data IsFirstFault (lines : List (CondLine Spot)) : ℕ → StructFault → Type 0 where
  in_line : (before after : List (CondLine Spot)) (here : CondLine Spot) (fault : StructFault) →
      lines ≡ before ++ here ∷ after → IsFaultAt before here fault → IsFirstFault lines here.item.number fault
  at_end : (number : ℕ) → IsOpenAtEnd lines number → IsFirstFault lines number OpenIf

-- after these lines all ends, or the next line is not legal
abbrev pub Stops : (front after : List (CondLine Spot)) → Type 0
Stops front [] = Unit {0}
Stops front (here ∷ after) = ¬ CanClose (front ++ here ∷ [])

-- the tree of a file of these lines: that of the lines before the first that is not legal, or of all, and of the lines `#endif` that they lack
pub record Closes {A : Type 0} (view : A → Spot) (ending : A) (lines : List (CondLine A)) (tree : Group A) : Type 0 where
  pub front : List (CondLine A)
  pub after : List (CondLine A)
  pub lacking : ℕ
  pub whole : lines ≡ front ++ after
  pub legal : AllLegal (carried view front)
  pub stops : Stops (carried view front) (carried view after)
  pub parses : Parses (front ++ endifs ending lacking) tree
