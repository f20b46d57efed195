-- The levels of operators and of contexts.
use Rattle.std.proofs.Common.{◌≡◌, ℕ, zero, suc, ◌+◌, ◌-◌, ◌<◌, ◌≤◌, List, [], ◌∷◌, subst, arith}
use Rattle.pp_directives.specs.declared.expression.operand_context.OperandContext.{OperandContext}
use Rattle.pp_directives.specs.declared.expression.operand_context.OperandContext.TheVariants.{Within, Before, After, Then, Else}
use Rattle.pp_directives.specs.declared.expression.symbol.Symbol.{Symbol}
use Rattle.pp_directives.specs.declared.expression.symbol.Symbol.TheVariants.{Constant, Operator, Tilde, Bang, Open, Close, Question, Colon, Other}
use Rattle.pp_directives.specs.declared.expression.symbol.Infix.{Infix}
use Rattle.pp_directives.specs.declared.expression.symbol.Infix.TheVariants.{LogicalOr, LogicalAnd, Or, Xor, And, Equal, Unequal, Less, Greater, AtMost, AtLeast, ShiftLeft, ShiftRight, Add, Subtract, Multiply, Divide, Remain}
use Rattle.pp_directives.specs.Expressions.{Tree, IsExpr, Higher, level_of}
use Rattle.pp_directives.specs.OperandContexts.{tightness, pull_of}

pub record Level (n : ℕ) : Type 0 where
  pub low : 2 ≤ n
  pub high : n ≤ 11

-- the operators between operands are at levels 2 to 11
pub level : (op : Infix) → Level (level_of op)
level LogicalOr = record { low = omega arith; high = omega arith }
level LogicalAnd = record { low = omega arith; high = omega arith }
level Or = record { low = omega arith; high = omega arith }
level Xor = record { low = omega arith; high = omega arith }
level And = record { low = omega arith; high = omega arith }
level Equal = record { low = omega arith; high = omega arith }
level Unequal = record { low = omega arith; high = omega arith }
level Less = record { low = omega arith; high = omega arith }
level Greater = record { low = omega arith; high = omega arith }
level AtMost = record { low = omega arith; high = omega arith }
level AtLeast = record { low = omega arith; high = omega arith }
level ShiftLeft = record { low = omega arith; high = omega arith }
level ShiftRight = record { low = omega arith; high = omega arith }
level Add = record { low = omega arith; high = omega arith }
level Subtract = record { low = omega arith; high = omega arith }
level Multiply = record { low = omega arith; high = omega arith }
level Divide = record { low = omega arith; high = omega arith }
level Remain = record { low = omega arith; high = omega arith }

-- the least level of an operand after these contexts
abbrev pub floor : {A : Type 0} → List (OperandContext A) → ℕ
floor [] = 1
floor (Within ∷ fs) = 1
floor (Before op ∷ fs) = 12
floor (After a op ∷ fs) = suc (level_of op)
floor (Then c ∷ fs) = 1
floor (Else c a ∷ fs) = 1

pub floor_most : {A : Type 0} (fs : List (OperandContext A)) → floor fs ≤ 12
floor_most [] = omega arith
floor_most (Within ∷ fs) = omega arith
floor_most (Before op ∷ fs) = omega arith
floor_most (After a op ∷ fs) = omega (arith, (level op).high)
floor_most (Then c ∷ fs) = omega arith
floor_most (Else c a ∷ fs) = omega arith

-- no floor is 2
pub floor_two : {A : Type 0} (fs : List (OperandContext A)) → floor fs ≤ 2 → floor fs ≤ 1
floor_two [] h = omega arith
floor_two (Within ∷ fs) h = omega arith
floor_two (Before op ∷ fs) h = absurd (omega arith)
floor_two (After a op ∷ fs) h = absurd (omega (arith, (level op).low))
floor_two (Then c ∷ fs) h = omega arith
floor_two (Else c a ∷ fs) h = omega arith

-- what doesn't bind tight stays below the floor
pub floor_under : {A : Type 0} (f : OperandContext A) (fs : List (OperandContext A)) (pull : ℕ) → pull ≤ 11 → tightness f < pull → floor (f ∷ fs) ≤ pull
floor_under Within fs pull most h = omega arith
floor_under (Before op) fs pull most h = absurd (omega arith)
floor_under (After a op) fs pull most h = omega arith
floor_under (Then c) fs pull most h = omega arith
floor_under (Else c a) fs pull most h = omega arith

-- below a floor no operator binds tight
pub under_floor : {A : Type 0} (f : OperandContext A) (fs : List (OperandContext A)) (pull : ℕ) → 2 ≤ pull → pull ≤ 11 → floor (f ∷ fs) ≤ pull → tightness f < pull
under_floor Within fs pull least most h = omega arith
under_floor (Before op) fs pull least most h = absurd (omega arith)
under_floor (After a op) fs pull least most h = omega arith
under_floor (Then c) fs pull least most h = omega arith
under_floor (Else c a) fs pull least most h = omega arith

-- the level of the left operand of a symbol
pub pull_low : (s : Symbol) → 1 ≤ pull_of s
pull_low (Constant n) = omega arith
pull_low (Operator op) = omega (arith, (level op).low)
pull_low Tilde = omega arith
pull_low Bang = omega arith
pull_low Open = omega arith
pull_low Close = omega arith
pull_low Question = omega arith
pull_low Colon = omega arith
pull_low Other = omega arith

pub pull_high : (s : Symbol) → pull_of s ≤ 11
pull_high (Constant n) = omega arith
pull_high (Operator op) = omega (arith, (level op).high)
pull_high Tilde = omega arith
pull_high Bang = omega arith
pull_high Open = omega arith
pull_high Close = omega arith
pull_high Question = omega arith
pull_high Colon = omega arith
pull_high Other = omega arith

lower_by : (k p : ℕ) {list : List Symbol} {t : Tree} → IsExpr (k + p) list t → IsExpr p list t
lower_by zero p {list} {t} d = let e : 0 + p ≡ p = omega arith in subst (λ n. IsExpr n list t) e d
lower_by (suc k) p {list} {t} d = let e : suc k + p ≡ suc (k + p) = omega arith in lower_by k p (Higher (subst (λ n. IsExpr n list t) e d))

-- an expression of a level is one of each lower level
pub lowered : (p q : ℕ) {list : List Symbol} {t : Tree} → p ≤ q → IsExpr q list t → IsExpr p list t
lowered p q {list} {t} h d = let e : q ≡ (q - p) + p = omega arith in lower_by (q - p) p (subst (λ n. IsExpr n list t) e d)
