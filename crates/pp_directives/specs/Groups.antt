-- The groups of a file as a tree, by the grammar of C17 6.10 p1.
use Rattle.std.specs.Prelude.{◌≡◌, ℕ, zero, suc, Bool, false, List, [], ◌∷◌, ◌++◌, map}
use Rattle.pp_directives.specs.declared.directive.Directive.{Directive}
use Rattle.pp_directives.specs.declared.directive.Directive.TheVariants.{Text, Null, If, Ifdef, Ifndef, Include, Define, Undef, LineNumber, Error, Pragma, Unknown}
use Rattle.pp_directives.specs.declared.directive.Directive.TheVariants.{Elif as ElifDirective, Else as ElseDirective, Endif as EndifDirective}

-- what a line does to the groups: nothing, or it is one of the conditional directives
pub data LineRole : Type 0 where
  OtherLine : LineRole
  IfLine : LineRole
  ElifLine : LineRole
  ElseLine : LineRole
  EndifLine : LineRole

-- `#if`, `#ifdef` and `#ifndef` begin an if-section alike
abbrev pub role_of : Directive → LineRole
role_of Text = OtherLine
role_of Null = OtherLine
role_of If = IfLine
role_of (Ifdef name) = IfLine
role_of (Ifndef name) = IfLine
role_of ElifDirective = ElifLine
role_of ElseDirective = ElseLine
role_of EndifDirective = EndifLine
role_of Include = OtherLine
role_of Define = OtherLine
role_of (Undef name) = OtherLine
role_of LineNumber = OtherLine
role_of Error = OtherLine
role_of Pragma = OtherLine
role_of Unknown = OtherLine

-- a line of a file, as its groups see it: what it does to them, and what it is besides
pub record CondLine (A : Type 0) : Type 0 where
  pub role : LineRole
  pub item : A

mutual
  -- a group: lines that are no conditional directives, and if-sections, in any number. An if-section begins with `#if` and a group
  pub data Group (A : Type 0) : Type 0 where
    Empty : Group A
    Other : (here : A) (after : Group A) → Group A
    Section : (opening : A) (group : Group A) (tail : Tail A) (after : Group A) → Group A

  -- the rest of an if-section: `#elif` and a group any number of times, `#else` and a group at most once, and `#endif`
  pub data Tail (A : Type 0) : Type 0 where
    Elif : (here : A) (group : Group A) (tail : Tail A) → Tail A
    Else : (here : A) (group : Group A) (ending : A) → Tail A
    Endif : (ending : A) → Tail A

-- a line with this role
abbrev pub line : {A : Type 0} → LineRole → A → CondLine A
line role item = record { role = role; item = item }

abbrev mutual
  -- the lines of a group, in order
  pub lines_of : {A : Type 0} → Group A → List (CondLine A)
  lines_of Empty = []
  lines_of (Other here after) = line OtherLine here ∷ lines_of after
  lines_of (Section opening group tail after) = line IfLine opening ∷ lines_of group ++ tail_lines tail ++ lines_of after

  -- the lines of the rest of an if-section, in order
  pub tail_lines : {A : Type 0} → Tail A → List (CondLine A)
  tail_lines (Elif here group tail) = line ElifLine here ∷ lines_of group ++ tail_lines tail
  tail_lines (Else here group ending) = line ElseLine here ∷ lines_of group ++ line EndifLine ending ∷ []
  tail_lines (Endif ending) = line EndifLine ending ∷ []

-- the lines are those of this tree
abbrev pub Parses : {A : Type 0} → List (CondLine A) → Group A → Type 0
Parses lines tree = lines_of tree ≡ lines

-- the lines are a group
abbrev pub HasTree : {A : Type 0} → List (CondLine A) → Type 0
HasTree {A} lines = (tree : Group A) × Parses lines tree

-- the lines are one if-section
abbrev pub IsSection : {A : Type 0} → List (CondLine A) → Type 0
IsSection {A} lines = (opening : A) × (group : Group A) × (tail : Tail A) × Parses lines (Section opening group tail Empty)

-- the same lines, where something else is said of each
abbrev pub carried : {A B : Type 0} → (A → B) → List (CondLine A) → List (CondLine B)
carried view = map (λ here. line here.role (view here.item))

-- so many lines `#endif`
abbrev pub endifs : {A : Type 0} → A → ℕ → List (CondLine A)
endifs ending zero = []
endifs ending (suc n) = line EndifLine ending ∷ endifs ending n

-- a line by its number, with the answer to its condition, which counts only where the condition decides a group
pub record Spot : Type 0 where
  pub number : ℕ
  pub answer : Bool

-- a line that was added; it has no number
abbrev pub added : Spot
added = record { number = 0; answer = false }
