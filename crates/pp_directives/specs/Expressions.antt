-- Conditional expressions (C17 6.5.1 to 6.5.15, 6.6): their symbols, their syntax trees, and which lists of symbols spell which tree. The project's own: a comma, an assignment and a call are rejected also where nothing evaluates them, which 6.6 p3 allows.
use Rattle.std.specs.Prelude.{◌≡◌, ℕ, suc, List, [], ◌∷◌, ◌++◌, Option, None, Some}
use Rattle.pp_directives.specs.declared.expression.number.Number.{Number}
use Rattle.pp_directives.specs.declared.expression.symbol.Symbol.{Symbol}
use Rattle.pp_directives.specs.declared.expression.symbol.Symbol.TheVariants.{Constant, Operator, Tilde, Bang, Open, Close, Question, Colon}
use Rattle.pp_directives.specs.declared.expression.symbol.Infix.{Infix}
use Rattle.pp_directives.specs.declared.expression.symbol.Infix.TheVariants.{LogicalOr, LogicalAnd, Or, Xor, And, Equal, Unequal, Less, Greater, AtMost, AtLeast, ShiftLeft, ShiftRight, Add, Subtract, Multiply, Divide, Remain}
use Rattle.pp_directives.specs.declared.expression.symbol.Prefix.{Prefix}
use Rattle.pp_directives.specs.declared.expression.symbol.Prefix.TheVariants.{Plus, Minus, Complement, Not}

-- A syntax tree. Parentheses leave no mark in it.
pub data Tree : Type 0 where
  -- a constant
  Leaf : Number → Tree
  -- an operator and its operand
  Unary : Prefix → Tree → Tree
  -- an operator and its operands
  Binary : Infix → Tree → Tree → Tree
  -- a condition, and the operands of `?` and `:`
  Choice : Tree → Tree → Tree → Tree

-- the operator that a symbol is before an operand (6.5.3)
abbrev pub prefix_of : Symbol → Option Prefix
prefix_of Tilde = Some Complement
prefix_of Bang = Some Not
prefix_of (Operator Add) = Some Plus
prefix_of (Operator Subtract) = Some Minus
prefix_of _ = None

-- The levels of the grammar. Conditional expressions (6.5.15) are at level 1, the operators between two operands at levels 2 to 11 (6.5.5 to 6.5.14), and what comes directly after a prefix operator at level 12 (6.5.1, 6.5.3 and 6.5.4).
abbrev pub level_of : Infix → ℕ
level_of LogicalOr = 2
level_of LogicalAnd = 3
level_of Or = 4
level_of Xor = 5
level_of And = 6
level_of Equal = 7
level_of Unequal = 7
level_of Less = 8
level_of Greater = 8
level_of AtMost = 8
level_of AtLeast = 8
level_of ShiftLeft = 9
level_of ShiftRight = 9
level_of Add = 10
level_of Subtract = 10
level_of Multiply = 11
level_of Divide = 11
level_of Remain = 11

-- IsExpr level list tree: the list spells the tree, as an expression of the level
pub data IsExpr : ℕ → List Symbol → Tree → Type 0 where
  -- a constant, or an expression in parentheses (6.5.1)
  Single : {n : Number} → IsExpr 12 (Constant n ∷ []) (Leaf n)
  Group : {list : List Symbol} {t : Tree} → IsExpr 1 list t → IsExpr 12 (Open ∷ list ++ Close ∷ []) t
  -- an operator before an operand (6.5.3)
  Prefixed : {s : Symbol} {op : Prefix} {list : List Symbol} {t : Tree} → prefix_of s ≡ Some op → IsExpr 12 list t → IsExpr 12 (s ∷ list) (Unary op t)
  -- an operator between two operands; the left one may be of the same level (6.5.5 to 6.5.14)
  Infixed : {op : Infix} {left right : List Symbol} {a b : Tree} →
      IsExpr (level_of op) left a → IsExpr (suc (level_of op)) right b → IsExpr (level_of op) (left ++ Operator op ∷ right) (Binary op a b)
  -- `?` and `:`; between them any expression, after them again a conditional expression (6.5.15)
  Chosen : {list middle right : List Symbol} {c a b : Tree} →
      IsExpr 2 list c → IsExpr 1 middle a → IsExpr 1 right b → IsExpr 1 (list ++ Question ∷ (middle ++ Colon ∷ right)) (Choice c a b)
  -- each expression of a level is one of the level before
  Higher : {level : ℕ} {list : List Symbol} {t : Tree} → IsExpr (suc level) list t → IsExpr level list t
