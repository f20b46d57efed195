-- The answers of lists of tokens: there is one, and it is what the machine gives.
use Rattle.std.proofs.Common.{◌≡◌, ◌⊎◌, inl, inr, Bool, true, List, Option, Some, None, Result, Ok, Err, refl, sym, ap, ◌∙◌, subst}
use Rattle.pp_tokens.specs.declared.token.Token.{Token}
use Rattle.pp_directives.specs.declared.fault.ExprFault.{ExprFault}
use Rattle.pp_directives.specs.declared.fault.ExprFault.TheVariants.{Syntax, NoMemory as RanOut}
use Rattle.pp_directives.specs.declared.expression.typed_value.TypedValue.{TypedValue}
use Rattle.pp_directives.specs.declared.expression.symbol.Symbol.{Symbol}
use Rattle.pp_directives.specs.Expressions.{Tree, Leaf, Unary, Binary, Choice, IsExpr}
use Rattle.pp_directives.specs.Values.{value_of, holds, condition_symbols, IsCondition, Refused, Unspelled, Spelled}
use Rattle.pp_directives.specs.Numbers.{Computed}
use Rattle.pp_directives.specs.ValueLaws.{is_token_fault, is_value_fault, SpellNothing}
use Rattle.pp_directives.specs.TypedValues.{meaning_of, with_prefix, with_infix, with_choice}
use Rattle.pp_directives.specs.OperandContexts.{made_of, meanings, trees, spelled_by}
use Rattle.pp_directives.proofs.SymbolLemmas.{token_fault}
use Rattle.pp_directives.proofs.TypeLemmas.{value_fault}
use Rattle.pp_directives.proofs.Complete.{complete}
use Rattle.pp_directives.proofs.Sound.{Has, Found, sound}

-- what is made of a tree is what it means
made_of-meanings : (t : Tree) → made_of meanings t ≡ meaning_of t
made_of-meanings (Leaf n) = refl
made_of-meanings (Unary op a) = ap (with_prefix op) (made_of-meanings a)
made_of-meanings (Binary op a b) = ap (λ x. with_infix op x (made_of meanings b)) (made_of-meanings a) ∙ ap (with_infix op (meaning_of a)) (made_of-meanings b)
made_of-meanings (Choice c a b) =
    ap (λ x. with_choice x (made_of meanings a) (made_of meanings b)) (made_of-meanings c)
    ∙ ap (λ x. with_choice (meaning_of c) x (made_of meanings b)) (made_of-meanings a)
    ∙ ap (with_choice (meaning_of c) (meaning_of a)) (made_of-meanings b)

made_of-trees : (t : Tree) → made_of trees t ≡ t
made_of-trees (Leaf n) = refl
made_of-trees (Unary op a) = ap (Unary op) (made_of-trees a)
made_of-trees (Binary op a b) = ap (λ x. Binary op x (made_of trees b)) (made_of-trees a) ∙ ap (Binary op a) (made_of-trees b)
made_of-trees (Choice c a b) =
    ap (λ x. Choice x (made_of trees a) (made_of trees b)) (made_of-trees c) ∙ ap (λ x. Choice c x (made_of trees b)) (made_of-trees a) ∙ ap (Choice c a) (made_of-trees b)

-- a list spells at most one tree
pub one_tree : (list : List Symbol) (t u : Tree) → IsExpr 1 list t → IsExpr 1 list u → t ≡ u
one_tree list t u d e =
    let first = complete trees d in let second = complete trees e in let same : made_of trees t ≡ made_of trees u = cc in
    sym (made_of-trees t) ∙ same ∙ made_of-trees u

-- what is spelled means what the tree means
means : (list : List Symbol) (t : Tree) → IsExpr 1 list t → spelled_by meanings list ≡ Some (meaning_of t)
means list t d = complete meanings d ∙ ap Some (made_of-meanings t)

refuted : (list : List Symbol) (t : Tree) → spelled_by meanings list ≡ None → IsExpr 1 list t → ⊥
refuted list t none d = let some = means list t d in cc

found_at : (list : List Symbol) (o : Option TypedValue) (m : TypedValue) → o ≡ Some m → Found meanings list o → Has meanings 1 list m
found_at list o m e h = subst (Found meanings list) e h

-- where nothing is read there is no tree
pub answer_unspelled : (tokens : List Token) (list : List Symbol) → condition_symbols tokens ≡ Ok list → spelled_by meanings list ≡ None → IsCondition tokens (Err Syntax)
answer_unspelled tokens list e none = Unspelled e (λ t d. refuted list t none d)

-- where something is read its value is that of a tree
pub answer_spelled : (tokens : List Token) (list : List Symbol) (m : TypedValue) → condition_symbols tokens ≡ Ok list → spelled_by meanings list ≡ Some m → IsCondition tokens (holds m.value)
answer_spelled tokens list m e some =
    let has = found_at list (spelled_by meanings list) m some (sound meanings list) in
    let is = sym (made_of-meanings has.tree) ∙ has.makes in
    subst (λ (n : TypedValue). IsCondition tokens (holds n.value)) is (Spelled e has.spells)

-- the answer by what is read
abbrev answer_read : Option TypedValue → Result Bool ExprFault
answer_read None = Err Syntax
answer_read (Some m) = holds m.value

-- the answer by the symbols
abbrev answer_by : Result (List Symbol) ExprFault → Result Bool ExprFault
answer_by (Err fault) = Err fault
answer_by (Ok list) = answer_read (spelled_by meanings list)

nothing_read : (list : List Symbol) (o : Option TypedValue) → Found meanings list o → ((t : Tree) → IsExpr 1 list t → ⊥) → o ≡ None
nothing_read list None h no_tree = refl
nothing_read list (Some m) h no_tree = absurd (no_tree h.tree h.spells)

-- an answer is what the machine gives
answer_is : (tokens : List Token) (answer : Result Bool ExprFault) → IsCondition tokens answer → answer ≡ answer_by (condition_symbols tokens)
answer_is tokens _ (Refused e) = sym (ap answer_by e)
answer_is tokens _ (Unspelled {list} e no_tree) = sym (ap answer_by e ∙ ap answer_read (nothing_read list (spelled_by meanings list) (sound meanings list) no_tree))
answer_is tokens _ (Spelled {list} {t} e d) = sym (ap answer_by e ∙ ap answer_read (means list t d))

pub one_answer : (tokens : List Token) (answer other : Result Bool ExprFault) → IsCondition tokens answer → IsCondition tokens other → answer ≡ other
one_answer tokens answer other p q = answer_is tokens answer p ∙ sym (answer_is tokens other q)

an_answer_read : (tokens : List Token) (list : List Symbol) (o : Option TypedValue) → condition_symbols tokens ≡ Ok list → spelled_by meanings list ≡ o → IsCondition tokens (answer_read o)
an_answer_read tokens list None e r = answer_unspelled tokens list e r
an_answer_read tokens list (Some m) e r = answer_spelled tokens list m e r

an_answer_by : (tokens : List Token) (r : Result (List Symbol) ExprFault) → condition_symbols tokens ≡ r → IsCondition tokens (answer_by r)
an_answer_by tokens (Err fault) e = Refused e
an_answer_by tokens (Ok list) e = an_answer_read tokens list (spelled_by meanings list) e refl

-- each list has an answer
pub an_answer : (tokens : List Token) → (answer : Result Bool ExprFault) × IsCondition tokens answer
an_answer tokens = (answer_by (condition_symbols tokens), an_answer_by tokens (condition_symbols tokens) refl)

-- a fault of the machine is the answer, or memory ran out
pub answer_fault : (tokens : List Token) (list : List Symbol) (fault : ExprFault) → condition_symbols tokens ≡ Ok list → (fault ≡ RanOut) ⊎ ((fault ≡ Syntax) × (spelled_by meanings list ≡ None)) →
    ◌⊎◌ (◌≡◌ {A = Result Bool ExprFault} (Err fault) (Err RanOut)) (IsCondition tokens (Err fault))
answer_fault tokens list fault e (inl out) = inl (ap (λ f. Err f) out)
answer_fault tokens list fault e (inr (is, none)) = inr (subst (λ f. IsCondition tokens (Err f)) (sym is) (answer_unspelled tokens list e none))

-- a fault of the tokens is the answer, or memory ran out
pub answer_refused : (tokens : List Token) (fault : ExprFault) → (fault ≡ RanOut) ⊎ (condition_symbols tokens ≡ Err fault) →
    ◌⊎◌ (◌≡◌ {A = Result Bool ExprFault} (Err fault) (Err RanOut)) (IsCondition tokens (Err fault))
answer_refused tokens fault (inl out) = inl (ap (λ f. Err f) out)
answer_refused tokens fault (inr e) = inr (Refused e)

same_fault : {f g : ExprFault} → ◌≡◌ {A = Result Bool ExprFault} (Err f) (Err g) → f ≡ g
same_fault e = cc

no_token_fault : (f : ExprFault) → is_token_fault f ≡ true → f ≡ Syntax → ⊥
no_token_fault f h e = let bad : is_token_fault Syntax ≡ true = subst (λ g. is_token_fault g ≡ true) e h in cc

no_value_fault : (value : Computed) → ((f : ExprFault) → value ≡ Err f → is_value_fault f ≡ true) → holds value ≡ Err Syntax → ⊥
no_value_fault (Ok n) h e = cc
no_value_fault (Err f) h e =
    let is : f ≡ Syntax = same_fault e in let bad : is_value_fault Syntax ≡ true = subst (λ g. is_value_fault g ≡ true) is (h f refl) in cc

-- an answer that is `Syntax` has no tree
nothing_at : (tokens : List Token) (answer : Result Bool ExprFault) → IsCondition tokens answer → answer ≡ Err Syntax → SpellNothing tokens
nothing_at tokens _ (Refused {fault} e) is = absurd (no_token_fault fault (token_fault tokens fault e) (same_fault is))
nothing_at tokens _ (Unspelled {list} e no_tree) is = record { list = list; symbols = e; no_tree = no_tree }
nothing_at tokens _ (Spelled {list} {t} e d) is = absurd (no_value_fault (value_of t) (value_fault t) is)

pub syntax_fault : (tokens : List Token) → IsCondition tokens (Err Syntax) → SpellNothing tokens
syntax_fault tokens h = nothing_at tokens (Err Syntax) h refl
