-- Laws of conditions: what the grammar, the values of trees and the answers of lists of tokens have in common.
use Rattle.std.specs.Prelude.{◌≡◌, Bool, true, false, List, Result, Ok, Err}
use Rattle.pp_tokens.specs.declared.token.Token.{Token}
use Rattle.pp_directives.specs.declared.fault.ExprFault.{ExprFault}
use Rattle.pp_directives.specs.declared.fault.ExprFault.TheVariants.{Syntax, Overflow, ZeroDivisor, BadShift, BadNumber, BadChar, DefinedFromMacro}
use Rattle.pp_directives.specs.declared.expression.number.Number.{Number}
use Rattle.pp_directives.specs.declared.expression.symbol.Symbol.{Symbol}
use Rattle.pp_directives.specs.Numbers.{is_unsigned}
use Rattle.pp_directives.specs.Expressions.{Tree, IsExpr}
use Rattle.pp_directives.specs.Values.{type_of, value_of, condition_symbols, IsCondition}

-- the faults of tokens
abbrev pub is_token_fault : ExprFault → Bool
is_token_fault DefinedFromMacro = true
is_token_fault BadNumber = true
is_token_fault BadChar = true
is_token_fault _ = false

-- the faults of an evaluation
abbrev pub is_value_fault : ExprFault → Bool
is_value_fault Overflow = true
is_value_fault ZeroDivisor = true
is_value_fault BadShift = true
is_value_fault _ = false

-- the tokens have symbols, which spell no tree
pub record SpellNothing (tokens : List Token) : Type 0 where
  pub list : List Symbol
  pub symbols : condition_symbols tokens ≡ Ok list
  pub no_tree : (t : Tree) → IsExpr 1 list t → ⊥

-- Tokens have exactly one answer, symbols at most one tree, and each fault tells the step that it comes from.
pub record ConditionsAreExact : Type 0 where
  -- a list spells at most one tree
  pub one_tree : (list : List Symbol) (t u : Tree) → IsExpr 1 list t → IsExpr 1 list u → t ≡ u
  -- tokens have an answer
  pub an_answer : (tokens : List Token) → (answer : Result Bool ExprFault) × IsCondition tokens answer
  -- and no other
  pub one_answer : (tokens : List Token) (answer other : Result Bool ExprFault) → IsCondition tokens answer → IsCondition tokens other → answer ≡ other
  -- the value of a tree is of the tree's type
  pub has_type : (t : Tree) (n : Number) → value_of t ≡ Ok n → is_unsigned n ≡ type_of t
  -- the faults of trees are those of an evaluation
  pub value_fault : (t : Tree) (fault : ExprFault) → value_of t ≡ Err fault → is_value_fault fault ≡ true
  -- the faults of tokens are others
  pub token_fault : (tokens : List Token) (fault : ExprFault) → condition_symbols tokens ≡ Err fault → is_token_fault fault ≡ true
  -- so the answer is `Syntax` only where no token has a fault and there is no tree
  pub syntax_fault : (tokens : List Token) → IsCondition tokens (Err Syntax) → SpellNothing tokens
