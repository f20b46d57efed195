-- Cited only by contracts of private functions. What trees mean, put together from what their parts mean: the type and the value of each, whether it is evaluated in the end or not.
use Rattle.std.specs.Prelude.{◌||◌, Ok}
use Rattle.mac_base.specs.Input.{◌>>=◌}
use Rattle.pp_directives.specs.declared.expression.number.Number.{Number}
use Rattle.pp_directives.specs.declared.expression.symbol.Infix.{Infix}
use Rattle.pp_directives.specs.declared.expression.symbol.Prefix.{Prefix}
use Rattle.pp_directives.specs.declared.expression.typed_value.TypedValue.{TypedValue}
use Rattle.pp_directives.specs.Numbers.{is_unsigned}
use Rattle.pp_directives.specs.Expressions.{Tree}
use Rattle.pp_directives.specs.Values.{prefixed, prefixed_type, infixed, infixed_type, chosen, type_of, value_of}

-- the type and the value of a tree
abbrev pub meaning_of : Tree → TypedValue
meaning_of t = record { unsigned = type_of t; value = value_of t }

-- a constant
abbrev pub constant : Number → TypedValue
constant n = record { unsigned = is_unsigned n; value = Ok n }

-- an operator before an operand
abbrev pub with_prefix : Prefix → TypedValue → TypedValue
with_prefix op a = record { unsigned = prefixed_type op a.unsigned; value = a.value >>= prefixed op }

-- an operator between two operands
abbrev pub with_infix : Infix → TypedValue → TypedValue → TypedValue
with_infix op a b = record { unsigned = infixed_type op a.unsigned b.unsigned; value = a.value >>= λ x. infixed op x b.value }

-- a condition with two operands
abbrev pub with_choice : TypedValue → TypedValue → TypedValue → TypedValue
with_choice c a b = record { unsigned = a.unsigned || b.unsigned; value = c.value >>= λ x. chosen (a.unsigned || b.unsigned) x a.value b.value }
