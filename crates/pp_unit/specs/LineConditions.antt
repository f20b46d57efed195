-- What the condition of a line comes to (C17 6.10.1).
use Rattle.std.specs.Prelude.{◌≡◌, ℕ, Bool, false, not, List, Option, None, Some, drop, Result, Ok, Err}
use Rattle.pp_tokens.specs.declared.token.Token.{Token}
use Rattle.pp_tokens.specs.declared.line.Line.{Line}
use Rattle.macro_expand.specs.declared.here.Here.{Here}
use Rattle.macro_expand.specs.declared.fault.ExpandFault.{ExpandFault}
use Rattle.macro_expand.specs.Rules.{ExpandsTo}
use Rattle.pp_directives.specs.declared.directive.Directive.{Directive}
use Rattle.pp_directives.specs.declared.directive.Directive.TheVariants.{If, Ifdef, Ifndef, Elif}
use Rattle.pp_directives.specs.declared.fault.ExprFault.{ExprFault}
use Rattle.pp_directives.specs.Directives.{directive_of}
use Rattle.pp_directives.specs.Defined.{is_defined, resolved}
use Rattle.pp_directives.specs.Values.{IsCondition}
use Rattle.pp_unit.specs.declared.open_file.OpenFile.{OpenFile}
use Rattle.pp_unit.specs.declared.fault.PpKind.{PpKind}
use Rattle.pp_unit.specs.declared.fault.PpKind.TheVariants.{Expr, Expand, Directive as BadDirective}
use Rattle.pp_unit.specs.declared.fault.DirectiveFault.TheVariants.{NoName}
use Rattle.pp_unit.specs.Seen.{Seen, table, macros}

-- the tokens after the name of a directive
abbrev pub operands : Line → List Token
operands here = drop 2 here.tokens

-- a line of a file, as `__LINE__` and `__FILE__` tell it there
abbrev pub here_of : OpenFile → Line → Here
here_of open_file here = record { line = here.number; file = open_file.path }

-- HasValue seen here tokens answer: each `defined` is resolved, the tokens are expanded, and the value of the expression says whether the condition holds (6.10.1 p4)
pub data HasValue (seen : Seen) (here : Here) (tokens : List Token) : Result Bool PpKind → Type 0 where
  Unresolved : {fault : ExprFault} → resolved (is_defined (table seen)) tokens ≡ Err fault → HasValue seen here tokens (Err (Expr fault))
  Unexpanded : {list : List Token} {fault : ExpandFault} →
      resolved (is_defined (table seen)) tokens ≡ Ok list → ExpandsTo (macros seen) here list (Err fault) → HasValue seen here tokens (Err (Expand fault))
  Faulty : {list expanded : List Token} {fault : ExprFault} →
      resolved (is_defined (table seen)) tokens ≡ Ok list → ExpandsTo (macros seen) here list (Ok expanded) → IsCondition expanded (Err fault) →
      HasValue seen here tokens (Err (Expr fault))
  Decided : {list expanded : List Token} {answer : Bool} →
      resolved (is_defined (table seen)) tokens ≡ Ok list → ExpandsTo (macros seen) here list (Ok expanded) → IsCondition expanded (Ok answer) →
      HasValue seen here tokens (Ok answer)

-- whether the name after `#ifdef` is defined; there must be one (6.10.1 p5)
abbrev pub defined_answer : Seen → Option (List ℕ) → Result Bool PpKind
defined_answer seen None = Err (BadDirective NoName)
defined_answer seen (Some name) = Ok (is_defined (table seen) name)

-- the same for `#ifndef`
abbrev pub undefined_answer : Seen → Option (List ℕ) → Result Bool PpKind
undefined_answer seen None = Err (BadDirective NoName)
undefined_answer seen (Some name) = Ok (not (is_defined (table seen) name))

-- the condition of a directive (6.10.1 p3 to p5); the others have none
abbrev pub AnswersBy : OpenFile → Line → Seen → Directive → Result Bool PpKind → Type 0
AnswersBy open_file here seen If answer = HasValue seen (here_of open_file here) (operands here) answer
AnswersBy open_file here seen Elif answer = HasValue seen (here_of open_file here) (operands here) answer
AnswersBy open_file here seen (Ifdef name) answer = answer ≡ defined_answer seen name
AnswersBy open_file here seen (Ifndef name) answer = answer ≡ undefined_answer seen name
AnswersBy open_file here seen _ answer = answer ≡ Ok false

-- the condition of a line
abbrev pub HasAnswer : OpenFile → Line → Seen → Result Bool PpKind → Type 0
HasAnswer open_file here seen answer = AnswersBy open_file here seen (directive_of here.tokens) answer
