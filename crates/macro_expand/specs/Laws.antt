-- What holds of the rules: they give each text exactly one answer, and an argument is expanded where the standard says so.
use Rattle.std.specs.Prelude.{◌≡◌, ◌↔◌, ℕ, Bool, true, false, List, ◌∷◌, ◌++◌, Result, is_some}
use Rattle.pp_tokens.specs.declared.token.Token.{Token}
use Rattle.macro_expand.specs.declared.here.Here.{Here}
use Rattle.macro_expand.specs.declared.fault.ExpandFault.{ExpandFault}
use Rattle.macro_table.specs.Definitions.{DefValue}
use Rattle.macro_expand.specs.Marked.{Names, Marked}
use Rattle.macro_expand.specs.Macros.{Macros}
use Rattle.macro_expand.specs.Calls.{stands_free}
use Rattle.macro_expand.specs.Substituted.{Argument, substituted}
use Rattle.macro_expand.specs.Expansion.{Answer, expansion, single_level, whole}
use Rattle.macro_expand.specs.Rules.{Expands, ExpandsOnce, ExpandsTo, ExpandsOnceTo}

-- a list expands to its expansion, and to nothing else
abbrev pub ListsHaveOneAnswer : Type 0
ListsHaveOneAnswer = (macros : Macros) (here : Here) (list : List Marked) (work : ℕ) (answer : Answer) →
    Expands macros here list work answer ↔ (expansion macros here list work ≡ answer)

-- the same of a single level
abbrev pub LevelsHaveOneAnswer : Type 0
LevelsHaveOneAnswer = (macros : Macros) (here : Here) (list : List Marked) (work : ℕ) (answer : Answer) →
    ExpandsOnce macros here list work answer ↔ (single_level macros here list work ≡ answer)

-- a text expands to exactly one answer
abbrev pub TextsHaveOneAnswer : Type 0
TextsHaveOneAnswer = (macros : Macros) (here : Here) (tokens : List Token) (answer : Result (List Token) ExpandFault) →
    ExpandsTo macros here tokens answer ↔ (whole (expansion macros here) tokens ≡ answer)

-- a text has exactly one answer at a single level
abbrev pub TextsHaveOneLevel : Type 0
TextsHaveOneLevel = (macros : Macros) (here : Here) (tokens : List Token) (answer : Result (List Token) ExpandFault) →
    ExpandsOnceTo macros here tokens answer ↔ (whole (single_level macros here) tokens ≡ answer)

-- Where a parameter of a function-like macro is always directly after `#` or `##` or directly before `##`, what its argument expands to makes no difference to the list that replaces the name (6.10.3.1 p1). So an operator is the same to the list and to the test whether an expansion is wanted.
abbrev pub OnlyFreeParametersExpand : Type 0
OnlyFreeParametersExpand = (d : DefValue) (macro : List ℕ) (space : Bool) (hides : Names) (before more : List Argument) (one other : Argument) →
    other.name ≡ one.name → other.plain ≡ one.plain → is_some d.params ≡ true → stands_free one.name false d.body ≡ false →
    substituted d macro space hides (before ++ one ∷ more) ≡ substituted d macro space hides (before ++ other ∷ more)
