-- What a condition comes to: the value of a syntax tree (C17 6.5, 6.6), and from there true, false or a fault for a list of tokens (6.10.1 p3 and p4).
use Rattle.std.specs.Prelude.{◌≡◌, ℕ, Bool, true, false, not, ◌&&◌, ◌||◌, if◌then◌else◌, List, [], ◌∷◌, Option, None, Some, Result, Ok, Err, bit_and, bit_or, bit_xor, pos}
use Rattle.std.specs.List.{list_any}
use lib.Chars.{codes}
use Rattle.mac_base.specs.Input.{◌>>=◌}
use Rattle.pp_tokens.specs.Kinds.{same}
use Rattle.pp_tokens.specs.Tokens.{is_identifier, is_spelled}
use Rattle.pp_tokens.specs.declared.token.Token.{Token}
use Rattle.pp_tokens.specs.declared.token.Kind.{Kind}
use Rattle.pp_tokens.specs.declared.token.Kind.TheVariants.{Identifier, Number as NumberKind, Char, Punct}
use Rattle.pp_directives.specs.declared.fault.ExprFault.{ExprFault}
use Rattle.pp_directives.specs.declared.fault.ExprFault.TheVariants.{Syntax, BadNumber, BadChar, DefinedFromMacro}
use Rattle.pp_directives.specs.declared.expression.number.Number.{Number}
use Rattle.pp_directives.specs.declared.expression.number.Number.TheVariants.{Signed}
use Rattle.pp_directives.specs.declared.expression.symbol.Symbol.{Symbol}
use Rattle.pp_directives.specs.declared.expression.symbol.Symbol.TheVariants.{Constant, Operator, Tilde, Bang, Open, Close, Question, Colon, Other}
use Rattle.pp_directives.specs.declared.expression.symbol.Infix.{Infix}
use Rattle.pp_directives.specs.declared.expression.symbol.Infix.TheVariants.{LogicalOr, LogicalAnd, Or, Xor, And, Equal, Unequal, Less, Greater, AtMost, AtLeast, ShiftLeft, ShiftRight, Add, Subtract, Multiply, Divide, Remain}
use Rattle.pp_directives.specs.declared.expression.symbol.Prefix.{Prefix}
use Rattle.pp_directives.specs.declared.expression.symbol.Prefix.TheVariants.{Plus, Minus, Complement, Not}
use Rattle.pp_directives.specs.Numbers.{Computed, is_unsigned, is_zero, converted, truth, sum_of, difference_of, product_of, quotient_of, remainder_of, bitwise, is_less, is_equal, left_shift_of, right_shift_of, negated, complement_of}
use Rattle.pp_directives.specs.Constants.{number_of, character_of}
use Rattle.pp_directives.specs.Expressions.{Tree, Leaf, Unary, Binary, Choice, IsExpr}

-- an operator before an operand that has a value
abbrev pub prefixed : Prefix → Number → Computed
prefixed Plus x = Ok x
prefixed Minus x = negated x
prefixed Complement x = complement_of x
prefixed Not x = truth (is_zero x)

-- whether the result of an operator is of the unsigned type, by its operand's type; that of `!` is signed (6.5.3.3 p5)
abbrev pub prefixed_type : Prefix → Bool → Bool
prefixed_type Plus a = a
prefixed_type Minus a = a
prefixed_type Complement a = a
prefixed_type Not a = false

-- 1 where the operand has another value than 0, else 0
abbrev pub truth_of : Computed → Computed
truth_of b = b >>= λ y. truth (not (is_zero y))

-- An operator between operands, of which the left one has a value. The right one is evaluated after it; after `||` only where the left one is 0, and after `&&` only where it isn't (6.5.13 p4, 6.5.14 p4).
abbrev pub infixed : Infix → Number → Computed → Computed
infixed LogicalOr x b = if is_zero x then truth_of b else truth true
infixed LogicalAnd x b = if is_zero x then truth false else truth_of b
infixed Or x b = b >>= bitwise bit_or x
infixed Xor x b = b >>= bitwise bit_xor x
infixed And x b = b >>= bitwise bit_and x
infixed Equal x b = b >>= λ y. truth (is_equal x y)
infixed Unequal x b = b >>= λ y. truth (not (is_equal x y))
infixed Less x b = b >>= λ y. truth (is_less x y)
infixed Greater x b = b >>= λ y. truth (is_less y x)
infixed AtMost x b = b >>= λ y. truth (not (is_less y x))
infixed AtLeast x b = b >>= λ y. truth (not (is_less x y))
infixed ShiftLeft x b = b >>= left_shift_of x
infixed ShiftRight x b = b >>= right_shift_of x
infixed Add x b = b >>= sum_of x
infixed Subtract x b = b >>= difference_of x
infixed Multiply x b = b >>= product_of x
infixed Divide x b = b >>= quotient_of x
infixed Remain x b = b >>= remainder_of x

-- Whether the result of an operator is of the unsigned type, by its operands' types: it is of their common type (6.3.1.8), that of a shift has the type of the left one (6.5.7 p3), and that of a comparison or a logical operator is signed (6.5.8 p6, 6.5.9 p3, 6.5.13 p3, 6.5.14 p3).
abbrev pub infixed_type : Infix → Bool → Bool → Bool
infixed_type LogicalOr a b = false
infixed_type LogicalAnd a b = false
infixed_type Or a b = a || b
infixed_type Xor a b = a || b
infixed_type And a b = a || b
infixed_type Equal a b = false
infixed_type Unequal a b = false
infixed_type Less a b = false
infixed_type Greater a b = false
infixed_type AtMost a b = false
infixed_type AtLeast a b = false
infixed_type ShiftLeft a b = a
infixed_type ShiftRight a b = a
infixed_type Add a b = a || b
infixed_type Subtract a b = a || b
infixed_type Multiply a b = a || b
infixed_type Divide a b = a || b
infixed_type Remain a b = a || b

-- whether a tree is of the unsigned type; this needs no evaluation
abbrev pub type_of : Tree → Bool
type_of (Leaf n) = is_unsigned n
type_of (Unary op a) = prefixed_type op (type_of a)
type_of (Binary op a b) = infixed_type op (type_of a) (type_of b)
type_of (Choice c a b) = type_of a || type_of b

-- the second where the condition isn't 0, else the third; only that one is evaluated, and it is converted to that type (6.5.15 p4 and p5)
abbrev pub chosen : Bool → Number → Computed → Computed → Computed
chosen unsigned x a b = (if is_zero x then b else a) >>= λ y. Ok (converted unsigned y)

-- the value of a tree, or the first fault: operands before their operator, the left one before the right one
abbrev pub value_of : Tree → Computed
value_of (Leaf n) = Ok n
value_of (Unary op a) = value_of a >>= prefixed op
value_of (Binary op a b) = value_of a >>= λ x. infixed op x (value_of b)
value_of (Choice c a b) = value_of c >>= λ x. chosen (type_of a || type_of b) x (value_of a) (value_of b)

-- a constant that has a value
abbrev pub constant_or : ExprFault → Option Number → Result Symbol ExprFault
constant_or fault None = Err fault
constant_or fault (Some n) = Ok (Constant n)

-- the symbol of a punctuator between operands
abbrev pub operator_of : List ℕ → Symbol
operator_of text =
    if same text (codes "||") then Operator LogicalOr
    else (if same text (codes "&&") then Operator LogicalAnd
    else (if same text (codes "|") then Operator Or
    else (if same text (codes "^") then Operator Xor
    else (if same text (codes "&") then Operator And
    else (if same text (codes "==") then Operator Equal
    else (if same text (codes "!=") then Operator Unequal
    else (if same text (codes "<") then Operator Less
    else (if same text (codes ">") then Operator Greater
    else (if same text (codes "<=") then Operator AtMost
    else (if same text (codes ">=") then Operator AtLeast
    else (if same text (codes "<<") then Operator ShiftLeft
    else (if same text (codes ">>") then Operator ShiftRight
    else (if same text (codes "+") then Operator Add
    else (if same text (codes "-") then Operator Subtract
    else (if same text (codes "*") then Operator Multiply
    else (if same text (codes "/") then Operator Divide
    else (if same text (codes "%") then Operator Remain
    else Other)))))))))))))))))

-- the symbol of a punctuator
abbrev pub punctuator : List ℕ → Symbol
punctuator text =
    if same text (codes "(") then Open
    else (if same text (codes ")") then Close
    else (if same text (codes "!") then Bang
    else (if same text (codes "~") then Tilde
    else (if same text (codes "?") then Question
    else (if same text (codes ":") then Colon
    else operator_of text)))))

-- the symbol of a token by its kind: each identifier is 0 (6.10.1 p4), and what is no number, character constant or operator is in no expression
abbrev pub symbol_by : Kind → List ℕ → Result Symbol ExprFault
symbol_by Identifier text = Ok (Constant (Signed (pos 0)))
symbol_by NumberKind text = constant_or BadNumber (number_of text)
symbol_by Char text = constant_or BadChar (character_of text)
symbol_by Punct text = Ok (punctuator text)
symbol_by _ text = Ok Other

-- the symbol of a token
abbrev pub symbol_of : Token → Result Symbol ExprFault
symbol_of t = symbol_by t.kind t.text

-- the symbols of the tokens, or the first fault from the left
abbrev pub symbols_of : List Token → Result (List Symbol) ExprFault
symbols_of [] = Ok []
symbols_of (t ∷ ts) = symbol_of t >>= λ s. symbols_of ts >>= λ rest. Ok (s ∷ rest)

-- the operator `defined`, which is resolved before macros are expanded
abbrev pub is_defined : Token → Bool
is_defined t = is_identifier t && is_spelled (codes "defined") t

-- The symbols of a condition whose macros are expanded. A `defined` that is there came from a macro, which 6.10.1 p4 leaves undefined; to reject it is the project's own.
abbrev pub condition_symbols : List Token → Result (List Symbol) ExprFault
condition_symbols tokens = if list_any is_defined tokens then Err DefinedFromMacro else symbols_of tokens

-- a condition is true where its value isn't 0 (6.10.1 p3)
abbrev pub holds : Computed → Result Bool ExprFault
holds value = value >>= λ n. Ok (not (is_zero n))

-- IsCondition tokens answer: what a condition whose macros are expanded comes to
pub data IsCondition (tokens : List Token) : Result Bool ExprFault → Type 0 where
  -- a token has a fault
  Refused : {fault : ExprFault} → condition_symbols tokens ≡ Err fault → IsCondition tokens (Err fault)
  -- the symbols spell no expression
  Unspelled : {list : List Symbol} → condition_symbols tokens ≡ Ok list → ((t : Tree) → IsExpr 1 list t → ⊥) → IsCondition tokens (Err Syntax)
  -- they spell a tree
  Spelled : {list : List Symbol} {t : Tree} → condition_symbols tokens ≡ Ok list → IsExpr 1 list t → IsCondition tokens (holds (value_of t))
