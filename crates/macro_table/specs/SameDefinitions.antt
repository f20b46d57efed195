-- When a macro may be defined again: the two definitions are identical (C17 6.10.3 p1 and p2).
use Rattle.std.specs.Prelude.{ℕ, Bool, true, false, ◌&&◌, List, [], ◌∷◌, Option, None, Some}
use Rattle.std.specs.Bool.{beq}
use lib.Pointwise.{pointwise}
use Rattle.pp_tokens.specs.Kinds.{same}
use Rattle.pp_tokens.specs.declared.token.Token.{Token}
use Rattle.macro_table.specs.Definitions.{DefValue}

-- the same spelling after the same separation; all white space is the same
abbrev pub same_token : Token → Token → Bool
same_token t u = beq t.space u.space && same t.text u.text

-- the same replacement list; white space before it is none of it (6.10.3 p7)
abbrev pub same_body : List Token → List Token → Bool
same_body [] [] = true
same_body [] (u ∷ us) = false
same_body (t ∷ ts) [] = false
same_body (t ∷ ts) (u ∷ us) = same t.text u.text && pointwise same_token ts us

-- both object-like, or the same number and spelling of parameters
abbrev pub same_params : Option (List (List ℕ)) → Option (List (List ℕ)) → Bool
same_params None None = true
same_params None (Some others) = false
same_params (Some names) None = false
same_params (Some names) (Some others) = pointwise same names others

-- the same definition
abbrev pub same_def : DefValue → DefValue → Bool
same_def a b = same a.name b.name && same_params a.params b.params && beq a.variadic b.variadic && same_body a.body b.body
