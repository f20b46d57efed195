-- Lemmas on contexts as they are kept in a vector, the innermost last.
use Rattle.std.proofs.Common.{◌⊎◌, inl, inr, subst, drop, ◌+◌, Err, ◌≡◌, ℕ, ◌-◌, ◌<◌, ◌≤◌, Bool, true, false, if◌then◌else◌, List, [], ◌∷◌, ◌++◌, reverse, length, get_or, Option, Some, None, refl, sym, ap, ◌∙◌, arith, nat_le}
use Rattle.std.specs.Prelude.{slice_get}
use Rattle.std.specs.Option.{option_to_list}
use Rattle.std.proofs.lemmas.Option.{slice_get_within, get_or_from_slice_get}
use Rattle.std.proofs.lemmas.List.{reverse-append, at_drop_more}
use Rattle.std.proofs.lemmas.Bool.{le-leb}
use Rattle.pp_directives.specs.declared.expression.operand_context.OperandContext.{OperandContext}
use Rattle.pp_directives.specs.declared.expression.typed_value.TypedValue.{TypedValue}
use Rattle.pp_directives.specs.declared.expression.symbol.Symbol.{Symbol}
use Rattle.pp_directives.specs.declared.fault.ExprFault.{ExprFault}
use Rattle.pp_directives.specs.declared.fault.ExprFault.TheVariants.{Syntax, NoMemory as RanOut}
use Rattle.pp_directives.specs.OperandContexts.{Algebra, State, Reduced, tightness, closed, reduced, meanings, run, step, Spells}

-- a list that ends in x, from the back
pub reverse-last : {X : Type 0} (items front : List X) (x : X) → items ≡ front ++ x ∷ [] → reverse items ≡ x ∷ reverse front
reverse-last items front x e = ap reverse e ∙ reverse-append front (x ∷ [])

-- what was popped is what was seen last
pub popped : {X : Type 0} (items front : List X) (r : Option X) (x : X) (n : ℕ) → n ≡ length items → items ≡ front ++ option_to_list r →
    (0 < n → r ≡ Some (get_or items (n - 1) x)) → Some x ≡ slice_get items (length items - 1) → reverse items ≡ x ∷ reverse front
popped items front r x n len e value seen =
    let within = slice_get_within items (length items - 1) x (sym seen) in
    let is = value (omega arith) ∙ ap Some (ap (λ k. get_or items (k - 1) x) len ∙ get_or_from_slice_get items (length items - 1) x x (sym seen)) in
    reverse-last items front x (e ∙ ap (λ o. front ++ option_to_list o) is)

by_test : {A : Type 0} (alg : Algebra A) (pull : ℕ) (f : OperandContext A) (fs : List (OperandContext A)) (m : A) (test : Bool) → test ≡ true →
    ◌≡◌ {A = Reduced A} (if test then reduced alg pull fs (closed alg f m) else record { contexts = f ∷ fs; operand = m }) (reduced alg pull fs (closed alg f m))
by_test alg pull f fs m true e = refl
by_test alg pull f fs m false e = cc

-- a context that binds tight is closed
pub reduced-closes : {A : Type 0} (alg : Algebra A) (pull : ℕ) (f : OperandContext A) (fs : List (OperandContext A)) (m : A) → pull ≤ tightness f → reduced alg pull (f ∷ fs) m ≡ reduced alg pull fs (closed alg f m)
reduced-closes alg pull f fs m h = by_test alg pull f fs m (nat_le pull (tightness f)) (le-leb pull (tightness f) h)

-- no state, no expression
pub run-none : {A : Type 0} (alg : Algebra A) (xs : List Symbol) → run alg xs None ≡ None
run-none alg [] = refl
run-none alg (x ∷ xs) = run-none alg xs

at_fault : (o : Option (State TypedValue)) (xs : List Symbol) (fault : ExprFault) → (fault ≡ RanOut) ⊎ ((fault ≡ Syntax) × (o ≡ None)) → Spells (Err fault) (run meanings xs o)
at_fault o xs fault (inl e) = inl e
at_fault o xs fault (inr (e, none)) = inr (e, ap (run meanings xs) none ∙ run-none meanings xs)

-- where a step has a fault the whole has it
pub step-fault : (fs : List (OperandContext TypedValue)) (operand : Option TypedValue) (symbols : List Symbol) (i : ℕ) (d : Symbol) (whole : Option TypedValue) (fault : ExprFault) → i < length symbols →
    (fault ≡ RanOut) ⊎ ((fault ≡ Syntax) × (step meanings fs (get_or symbols i d) operand ≡ None)) →
    run meanings (drop i symbols) (Some (record { contexts = fs; operand = operand })) ≡ whole → Spells (Err fault) whole
step-fault fs operand symbols i d whole fault lt h e =
    subst (λ o. Spells (Err fault) o) (sym (at_drop_more (λ xs. run meanings xs (Some (record { contexts = fs; operand = operand }))) symbols i d lt) ∙ e)
    (at_fault (step meanings fs (get_or symbols i d) operand) (drop (i + 1) symbols) fault h)
