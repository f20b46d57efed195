-- How an answer of a part is handed on by `?`, with its kind.
use Rattle.std.proofs.Common.{◌≡◌, ◌⊎◌, inl, inr, List, Result, Ok, Err, refl, sym, subst}
use Rattle.std.specs.Result.{IsErrAnd}
use Rattle.pp_tokens.specs.declared.token.Token.{Token}
use Rattle.mac_base.specs.Answers.{Answers}
use Rattle.macro_expand.specs.Answering.{IsAnswer}
use Rattle.macro_expand.specs.declared.fault.ExpandFault.{ExpandFault}
use Rattle.macro_expand.specs.declared.fault.ExpandFault.TheVariants.{OpenCall, ArgCount, BadPaste, BadString, BadDefinition, LoneQuote, TooLong}
use Rattle.macro_expand.specs.declared.fault.ExpandFault.TheVariants.{NoMemory as ExpandRanOut}
use Rattle.pp_directives.specs.declared.fault.ExprFault.{ExprFault}
use Rattle.pp_directives.specs.declared.fault.ExprFault.TheVariants.{Syntax, Overflow, ZeroDivisor, BadShift, BadNumber, BadChar, DefinedFromMacro}
use Rattle.pp_directives.specs.declared.fault.ExprFault.TheVariants.{NoMemory as ExprRanOut}
use Rattle.pp_unit.specs.declared.fault.PpKind.{PpKind}
use Rattle.pp_unit.specs.declared.fault.PpKind.TheVariants.{Expr, Expand, NoMemory}
use Rattle.pp_unit.specs.Kinds.{expand_kind, expr_kind}
use Rattle.pp_unit.specs.Recorded.{ComesTo}

-- a fault that was handed on as this kind
pub come_by : {A : Type 0} (Rules : Result A PpKind → Type 0) (kind : PpKind) (r : Result A PpKind) → (kind ≡ NoMemory) ⊎ Rules (Err kind) → IsErrAnd r (λ found. found ≡ kind) → ComesTo Rules r
come_by Rules kind (Ok x) h e = absurd e
come_by Rules kind (Err found) h e = subst (λ (k : PpKind). (k ≡ NoMemory) ⊎ Rules (Err k)) (sym e) h

-- a fault of an expansion
pub from_expand : {A : Type 0} (Rules : Result (List Token) ExpandFault → Type 0) (Out : Result A PpKind → Type 0) (fault : ExpandFault)
    → ((f : ExpandFault) → Rules (Err f) → Out (Err (Expand f))) → IsAnswer Rules (Err fault) → (expand_kind fault ≡ NoMemory) ⊎ Out (Err (expand_kind fault))
from_expand Rules Out ExpandRanOut next h = inl refl
from_expand Rules Out (OpenCall name) next h = inr (next (OpenCall name) h)
from_expand Rules Out (ArgCount name got) next h = inr (next (ArgCount name got) h)
from_expand Rules Out (BadPaste left right) next h = inr (next (BadPaste left right) h)
from_expand Rules Out (BadString name) next h = inr (next (BadString name) h)
from_expand Rules Out (BadDefinition name) next h = inr (next (BadDefinition name) h)
from_expand Rules Out LoneQuote next h = inr (next LoneQuote h)
from_expand Rules Out TooLong next h = inr (next TooLong h)

either : {P : ExprFault → Type 0} {A : Type 0} (Out : Result A PpKind → Type 0) (f : ExprFault) → (f ≡ ExprRanOut → ⊥) → ((g : ExprFault) → P g → Out (Err (Expr g))) → (f ≡ ExprRanOut) ⊎ P f → (Expr f ≡ NoMemory) ⊎ Out (Err (Expr f))
either Out f other next (inl is) = absurd (other is)
either Out f other next (inr h) = inr (next f h)

-- a fault of a condition
pub from_expr : {A : Type 0} (P : ExprFault → Type 0) (Out : Result A PpKind → Type 0) (fault : ExprFault)
    → ((f : ExprFault) → P f → Out (Err (Expr f))) → (fault ≡ ExprRanOut) ⊎ P fault → (expr_kind fault ≡ NoMemory) ⊎ Out (Err (expr_kind fault))
from_expr P Out ExprRanOut next h = inl refl
from_expr P Out Syntax next h = either {P = P} Out Syntax (λ is. cc) next h
from_expr P Out Overflow next h = either {P = P} Out Overflow (λ is. cc) next h
from_expr P Out ZeroDivisor next h = either {P = P} Out ZeroDivisor (λ is. cc) next h
from_expr P Out BadShift next h = either {P = P} Out BadShift (λ is. cc) next h
from_expr P Out BadNumber next h = either {P = P} Out BadNumber (λ is. cc) next h
from_expr P Out BadChar next h = either {P = P} Out BadChar (λ is. cc) next h
from_expr P Out DefinedFromMacro next h = either {P = P} Out DefinedFromMacro (λ is. cc) next h

-- an answer that a function gives is one of the rules, where they say so of the function
pub by_reading : {A : Type 0} (Rules : Result A PpKind → Type 0) (reading r : Result A PpKind) → Rules reading → Answers NoMemory r reading → ComesTo Rules r
by_reading Rules reading (Ok x) h e = subst Rules e h
by_reading Rules reading (Err kind) h (inl is) = inl is
by_reading Rules reading (Err kind) h (inr e) = inr (subst Rules e h)

-- want of memory aside, a call that says one of two things says the second
pub second_of : {A : Type 0} (x : A) {P : Type 0} → ((◌≡◌ {A = Result A ExprFault} (Ok x) (Err ExprRanOut)) ⊎ P) → P
second_of x (inl e) = cc
second_of x (inr p) = p

pub err_out : {A P : Type 0} (f : ExprFault) → ((◌≡◌ {A = Result A ExprFault} (Err f) (Err ExprRanOut)) ⊎ P) → (f ≡ ExprRanOut) ⊎ P
err_out f (inl e) = inl cc
err_out f (inr p) = inr p
