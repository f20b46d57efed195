-- Cited only by contracts of private functions. How expressions are read from left to right: what comes before an operand as a list of contexts, the innermost first.
use Rattle.std.specs.Prelude.{◌≡◌, ℕ, nat_le, if◌then◌else◌, List, [], ◌∷◌, Option, None, Some, Result, Ok, Err, reverse, ◌⊎◌}
use Rattle.pp_directives.specs.declared.fault.ExprFault.{ExprFault}
use Rattle.pp_directives.specs.declared.fault.ExprFault.TheVariants.{Syntax, NoMemory as RanOut}
use Rattle.pp_directives.specs.declared.expression.number.Number.{Number}
use Rattle.pp_directives.specs.declared.expression.symbol.Symbol.{Symbol}
use Rattle.pp_directives.specs.declared.expression.symbol.Symbol.TheVariants.{Constant, Operator, Open, Close, Question, Colon}
use Rattle.pp_directives.specs.declared.expression.symbol.Infix.{Infix}
use Rattle.pp_directives.specs.declared.expression.symbol.Prefix.{Prefix}
use Rattle.pp_directives.specs.declared.expression.typed_value.TypedValue.{TypedValue}
use Rattle.pp_directives.specs.declared.expression.operand_context.OperandContext.{OperandContext}
use Rattle.pp_directives.specs.declared.expression.operand_context.OperandContext.TheVariants.{Within, Before, After, Then, Else}
use Rattle.pp_directives.specs.Expressions.{Tree, Leaf, Unary, Binary, Choice, prefix_of, level_of}
use Rattle.pp_directives.specs.TypedValues.{constant, with_prefix, with_infix, with_choice}

-- What is made of an expression: something for each form of trees.
pub record Algebra (A : Type 0) : Type 0 where
  pub of_constant : Number → A
  pub of_prefix : Prefix → A → A
  pub of_infix : Infix → A → A → A
  pub of_choice : A → A → A → A

-- what is made of a tree
abbrev pub made_of : {A : Type 0} → Algebra A → Tree → A
made_of alg (Leaf n) = alg.of_constant n
made_of alg (Unary op a) = alg.of_prefix op (made_of alg a)
made_of alg (Binary op a b) = alg.of_infix op (made_of alg a) (made_of alg b)
made_of alg (Choice c a b) = alg.of_choice (made_of alg c) (made_of alg a) (made_of alg b)

-- trees are made into what they mean
abbrev pub meanings : Algebra TypedValue
meanings = record { of_constant = constant; of_prefix = with_prefix; of_infix = with_infix; of_choice = with_choice }

-- trees are made into themselves
abbrev pub trees : Algebra Tree
trees = record { of_constant = Leaf; of_prefix = Unary; of_infix = Binary; of_choice = Choice }

-- the level of the expression that a context and its operand are; 0 for those that another symbol closes
abbrev pub tightness : {A : Type 0} → OperandContext A → ℕ
tightness Within = 0
tightness (Before op) = 12
tightness (After a op) = level_of op
tightness (Then c) = 0
tightness (Else c a) = 1

-- the level of the left operand of a symbol after an operand
abbrev pub pull_of : Symbol → ℕ
pull_of (Operator op) = level_of op
pull_of Question = 2
pull_of _ = 1

-- a context and its operand
abbrev pub closed : {A : Type 0} → Algebra A → OperandContext A → A → A
closed alg Within m = m
closed alg (Before op) m = alg.of_prefix op m
closed alg (After a op) m = alg.of_infix op a m
closed alg (Then c) m = m
closed alg (Else c a) m = alg.of_choice c a m

-- what comes before an operand, and the operand, where it was read
pub record State (A : Type 0) : Type 0 where
  pub contexts : List (OperandContext A)
  pub operand : Option A

-- what comes before an operand that is not read
abbrev pub waiting : {A : Type 0} → List (OperandContext A) → Option (State A)
waiting contexts = Some (record { contexts = contexts; operand = None })

-- what comes before an operand that is read
abbrev pub ready : {A : Type 0} → List (OperandContext A) → A → Option (State A)
ready contexts m = Some (record { contexts = contexts; operand = Some m })

-- an operand and the contexts before it
pub record Reduced (A : Type 0) : Type 0 where
  pub contexts : List (OperandContext A)
  pub operand : A

-- contexts of this level and above are closed, the innermost first
abbrev pub reduced : {A : Type 0} → Algebra A → ℕ → List (OperandContext A) → A → Reduced A
reduced alg pull [] m = record { contexts = []; operand = m }
reduced alg pull (f ∷ fs) m = if nat_le pull (tightness f) then reduced alg pull fs (closed alg f m) else record { contexts = f ∷ fs; operand = m }

-- a symbol where an operand is due, which may be an operator before it
abbrev pub begun : {A : Type 0} → Algebra A → List (OperandContext A) → Option Prefix → Symbol → Option (State A)
begun alg contexts (Some op) s = waiting (Before op ∷ contexts)
begun alg contexts None (Constant n) = ready contexts (alg.of_constant n)
begun alg contexts None Open = waiting (Within ∷ contexts)
begun alg contexts None s = None

-- a symbol after an operand, when what binds it tighter is closed
abbrev pub placed : {A : Type 0} → Symbol → List (OperandContext A) → A → Option (State A)
placed (Operator op) contexts m = waiting (After m op ∷ contexts)
placed Question contexts m = waiting (Then m ∷ contexts)
placed Colon (Then c ∷ contexts) m = waiting (Else c m ∷ contexts)
placed Close (Within ∷ contexts) m = ready contexts m
placed _ contexts m = None

-- a symbol, where an operand is due or was read
abbrev pub step : {A : Type 0} → Algebra A → List (OperandContext A) → Symbol → Option A → Option (State A)
step alg contexts s None = begun alg contexts (prefix_of s) s
step alg contexts s (Some m) = let r = reduced alg (pull_of s) contexts m in placed s r.contexts r.operand

-- the operand, where no context is open
abbrev pub whole : {A : Type 0} → List (OperandContext A) → A → Option A
whole [] m = Some m
whole (f ∷ fs) m = None

-- the operand when all contexts are closed, if they can be
abbrev pub finished : {A : Type 0} → Algebra A → List (OperandContext A) → Option A → Option A
finished alg contexts None = None
finished alg contexts (Some m) = let r = reduced alg 1 contexts m in whole r.contexts r.operand

-- what is read in all, where the symbols end in this state
abbrev pub ended : {A : Type 0} → Algebra A → Option (State A) → Option A
ended alg None = None
ended alg (Some s) = finished alg s.contexts s.operand

-- the state after one more symbol
abbrev pub stepped : {A : Type 0} → Algebra A → Symbol → Option (State A) → Option (State A)
stepped alg x None = None
stepped alg x (Some s) = step alg s.contexts x s.operand

-- what is read in all, where the rest of the symbols follows this state
abbrev pub run : {A : Type 0} → Algebra A → List Symbol → Option (State A) → Option A
run alg [] o = ended alg o
run alg (x ∷ xs) o = run alg xs (stepped alg x o)

-- what a list of symbols spells
abbrev pub spelled_by : {A : Type 0} → Algebra A → List Symbol → Option A
spelled_by alg list = run alg list (waiting [])

-- What a step says about the contexts that it leaves in a vector, the innermost last: with the operand that is read then they are that state; or there is none. Want of memory is free.
abbrev pub Steps : List (OperandContext TypedValue) → Result (Option TypedValue) ExprFault → Option (State TypedValue) → Type 0
Steps items (Ok operand) o = o ≡ Some (record { contexts = reverse items; operand = operand })
Steps items (Err fault) o = (fault ≡ RanOut) ⊎ ((fault ≡ Syntax) × (o ≡ None))

-- what is read in all is that meaning, or there is none
abbrev pub Spells : Result TypedValue ExprFault → Option TypedValue → Type 0
Spells (Ok m) o = o ≡ Some m
Spells (Err fault) o = (fault ≡ RanOut) ⊎ ((fault ≡ Syntax) × (o ≡ None))
