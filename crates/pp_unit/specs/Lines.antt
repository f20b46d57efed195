-- What a line of a taken group comes to that is neither an inclusion nor a conditional directive (C17 6.10).
use Rattle.std.specs.Prelude.{◌≡◌, ℕ, Bool, false, if◌then◌else◌, List, [], ◌∷◌, Option, None, Some, Result, Ok, Err}
use lib.Chars.{codes}
use Rattle.pp_tokens.specs.declared.token.Token.{Token}
use Rattle.pp_tokens.specs.declared.line.Line.{Line}
use Rattle.macro_table.specs.Definitions.{def_of, is_spelled}
use Rattle.pp_directives.specs.declared.directive.Directive.{Directive}
use Rattle.pp_directives.specs.declared.directive.Directive.TheVariants.{Text, Null, Define, Undef, LineNumber, Error, Pragma, Unknown}
use Rattle.pp_unit.specs.declared.open_file.OpenFile.{OpenFile}
use Rattle.pp_unit.specs.declared.fault.PpKind.{PpKind}
use Rattle.pp_unit.specs.declared.fault.PpKind.TheVariants.{ErrorDirective, Directive as BadDirective}
use Rattle.pp_unit.specs.declared.fault.DirectiveFault.TheVariants.{NoName, UnknownName}
use Rattle.pp_unit.specs.Seen.{Seen, macros, with_once}
use Rattle.pp_unit.specs.Definitions.{defined_by, undefined}
use Rattle.pp_unit.specs.LineNumbers.{HasLine}
use Rattle.pp_unit.specs.LineConditions.{operands, here_of}

-- the pragma `once`, alone
abbrev pub is_once_pragma : List Token → Bool
is_once_pragma [] = false
is_once_pragma (t ∷ []) = is_spelled (codes "once") t
is_once_pragma (t ∷ u ∷ ts) = false

-- After `#pragma once` the file contributes nothing where it is included; other pragmas have no effect. Both are the project's own (6.10.6 leaves pragmas to the implementation).
abbrev pub pragma_seen : OpenFile → List Token → Seen → Seen
pragma_seen open_file tokens seen = if is_once_pragma tokens then with_once seen open_file.id else seen

-- an `#undef`, which must have a name (6.10.3.5 p2); of a name that is not defined it is an event too
abbrev pub undefined_by : Seen → ℕ → Option (List ℕ) → Result Seen PpKind
undefined_by seen line None = Err (BadDirective NoName)
undefined_by seen line (Some name) = undefined seen line name

-- By the directive that the line is; inclusions and conditional directives do nothing by themselves. The project's own: a name that is no directive's is rejected (a non-directive of 6.10 p1).
abbrev pub Directs : OpenFile → Line → Directive → Seen → Result Seen PpKind → Type 0
Directs open_file here Text seen answer = answer ≡ Ok seen
Directs open_file here Null seen answer = answer ≡ Ok seen
Directs open_file here Define seen answer = answer ≡ defined_by seen here.number (def_of (operands here))
Directs open_file here (Undef name) seen answer = answer ≡ undefined_by seen here.number name
Directs open_file here LineNumber seen answer = HasLine (macros seen) (here_of open_file here) (operands here) seen answer
Directs open_file here Error seen answer = answer ≡ Err ErrorDirective
Directs open_file here Pragma seen answer = answer ≡ Ok (pragma_seen open_file (operands here) seen)
Directs open_file here Unknown seen answer = answer ≡ Err (BadDirective UnknownName)
Directs open_file here _ seen answer = answer ≡ Ok seen
