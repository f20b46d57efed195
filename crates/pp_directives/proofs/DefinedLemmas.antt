-- Tokens that are done, and those that the rest comes to.
use Rattle.std.proofs.Common.{List, ◌++◌, Result, Ok, Err}
use Rattle.pp_tokens.specs.declared.token.Token.{Token}
use Rattle.pp_directives.specs.declared.fault.ExprFault.{ExprFault}

-- the tokens that are done before those that the rest comes to
abbrev pub onto : List Token → Result (List Token) ExprFault → Result (List Token) ExprFault
onto done (Ok ts) = Ok (done ++ ts)
onto done (Err fault) = Err fault
