-- `defined` in a condition (C17 6.10.1 p1): each use of it stands for 1 or 0.
use Rattle.std.specs.Prelude.{ℕ, Bool, ◌||◌, if◌then◌else◌, is_some, List, [], ◌∷◌, Result, Ok, Err}
use Rattle.std.specs.FinMap as finite
use lib.Chars.{codes}
use Rattle.mac_base.specs.Input.{◌>>=◌}
use Rattle.pp_tokens.specs.Kinds.{same}
use Rattle.pp_tokens.specs.declared.token.Token.{Token}
use Rattle.pp_tokens.specs.declared.token.Kind.TheVariants.{Number}
use Rattle.macro_table.specs.Definitions.{is_identifier, is_spelled}
use Rattle.macro_table.specs.Tables.{TableOf}
use Rattle.pp_directives.specs.declared.fault.ExprFault.{ExprFault}
use Rattle.pp_directives.specs.declared.fault.ExprFault.TheVariants.{Syntax}

-- a name that is always defined (6.10.8.1 p1)
abbrev pub is_built_in : List ℕ → Bool
is_built_in name = same name (codes "__LINE__") || same name (codes "__FILE__")

-- whether a name is defined as a macro
abbrev pub is_defined : TableOf ℕ → List ℕ → Bool
is_defined table name = is_built_in name || is_some (finite.get table name)

-- the number in the place of a `defined`, with its mark of white space
abbrev pub truth : Token → Bool → Token
truth t held = record { kind = Number; text = if held then codes "1" else codes "0"; space = t.space }

-- one token more, at the head of the list
abbrev pub before : Token → Result (List Token) ExprFault → Result (List Token) ExprFault
before t rest = rest >>= λ ts. Ok (t ∷ ts)

abbrev mutual
  -- the tokens with a number in place of each `defined NAME` and each `defined ( NAME )`; another use of `defined` is rejected
  pub resolved : (List ℕ → Bool) → List Token → Result (List Token) ExprFault
  resolved defined [] = Ok []
  resolved defined (t ∷ ts) = if is_spelled (codes "defined") t then after_defined defined t ts else before t (resolved defined ts)

  -- after `defined` comes a name, or `(`
  pub after_defined : (List ℕ → Bool) → Token → List Token → Result (List Token) ExprFault
  after_defined defined t [] = Err Syntax
  after_defined defined t (n ∷ ts) =
      if is_identifier n then before (truth t (defined n.text)) (resolved defined ts)
      else (if is_spelled (codes "(") n then after_parenthesis defined t ts else Err Syntax)

  -- after `(` comes a name
  pub after_parenthesis : (List ℕ → Bool) → Token → List Token → Result (List Token) ExprFault
  after_parenthesis defined t [] = Err Syntax
  after_parenthesis defined t (n ∷ ts) = if is_identifier n then after_name defined t n ts else Err Syntax

  -- after the name comes `)`
  pub after_name : (List ℕ → Bool) → Token → Token → List Token → Result (List Token) ExprFault
  after_name defined t n [] = Err Syntax
  after_name defined t n (c ∷ ts) = if is_spelled (codes ")") c then before (truth t (defined n.text)) (resolved defined ts) else Err Syntax
