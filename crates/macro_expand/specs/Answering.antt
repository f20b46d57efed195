-- What a call answers by the rules.
use Rattle.std.specs.Prelude.{List, Result, Ok, Err}
use Rattle.pp_tokens.specs.declared.token.Token.{Token}
use Rattle.macro_expand.specs.declared.fault.ExpandFault.{ExpandFault}
use Rattle.macro_expand.specs.declared.fault.ExpandFault.TheVariants.{NoMemory, OpenCall, ArgCount, BadPaste, BadString, BadDefinition, LoneQuote, TooLong}

-- the answer is one of the rules, or memory ran out
abbrev pub IsAnswer : (Result (List Token) ExpandFault → Type 0) → Result (List Token) ExpandFault → Type 0
IsAnswer Rules (Ok tokens) = Rules (Ok tokens)
IsAnswer Rules (Err NoMemory) = Unit {0}
IsAnswer Rules (Err (OpenCall name)) = Rules (Err (OpenCall name))
IsAnswer Rules (Err (ArgCount name got)) = Rules (Err (ArgCount name got))
IsAnswer Rules (Err (BadPaste left right)) = Rules (Err (BadPaste left right))
IsAnswer Rules (Err (BadString name)) = Rules (Err (BadString name))
IsAnswer Rules (Err (BadDefinition name)) = Rules (Err (BadDefinition name))
IsAnswer Rules (Err LoneQuote) = Rules (Err LoneQuote)
IsAnswer Rules (Err TooLong) = Rules (Err TooLong)
