-- What there is to be said of a text in a scope: what it expands to, printed as one line, or the first fault.
use Rattle.std.specs.Prelude.{◌≡◌, ℕ, List, ◌++◌, codes, Result, Ok, Err}
use Rattle.pp_tokens.specs.declared.token.Token.{Token}
use Rattle.pp_tokens.specs.declared.fault.LexFault.{LexFault}
use Rattle.pp_tokens.specs.Printing.{Prints}
use Rattle.macro_table.specs.Texts.{tokens_of}
use Rattle.macro_expand.specs.declared.here.Here.{Here}
use Rattle.macro_expand.specs.declared.fault.ExpandFault.{ExpandFault}
use Rattle.macro_expand.specs.Macros.{Macros, macros_of}
use Rattle.macro_query.specs.declared.fault.QueryFault.{QueryFault}
use Rattle.macro_query.specs.declared.fault.QueryFault.TheVariants.{Text, Expand}
use Rattle.position_table.specs.Scopes.{Scope}

-- where a text is expanded, as `__LINE__` and `__FILE__` tell it (C17 6.10.8.1)
abbrev pub here_of : Scope → Here
here_of scope = record { line = scope.line; file = scope.path }

-- tokens as one line, or why there are none
abbrev pub PrintsLine : Result (List Token) ExpandFault → Result (List ℕ) QueryFault → Type 0
PrintsLine (Ok tokens) said = (text : List ℕ) × Prints tokens text × (said ≡ Ok (text ++ codes "\n"))
PrintsLine (Err fault) said = said ≡ Err (Expand fault)

-- what these tokens expand to by such rules, or why a text has no tokens
abbrev pub ByTokens : (List Token → Result (List Token) ExpandFault → Type 0) → Result (List Token) LexFault → Result (List ℕ) QueryFault → Type 0
ByTokens Rules (Ok tokens) said = (found : Result (List Token) ExpandFault) × Rules tokens found × PrintsLine found said
ByTokens Rules (Err fault) said = said ≡ Err (Text fault)

-- what a text expands to in a scope by these rules
abbrev pub TextSays : (Macros → Here → List Token → Result (List Token) ExpandFault → Type 0) → List ℕ → Scope → Result (List ℕ) QueryFault → Type 0
TextSays Rules text scope said = ByTokens (Rules (macros_of scope.table) (here_of scope)) (tokens_of text) said
