-- What is spelled is read: the machine makes of a list what is made of its tree, so that a list has at most one.
use Rattle.std.proofs.Common.{◌≡◌, ℕ, ◌≤◌, Bool, true, false, if◌then◌else◌, List, [], ◌∷◌, ◌++◌, Some, refl, sym, ap, ◌∙◌, arith, nat_le, append_assoc, append-nil}
use Rattle.std.proofs.lemmas.Bool.{lt-leb}
use Rattle.pp_directives.specs.declared.expression.operand_context.OperandContext.{OperandContext}
use Rattle.pp_directives.specs.declared.expression.operand_context.OperandContext.TheVariants.{Within, Before, After, Then, Else}
use Rattle.pp_directives.specs.declared.expression.symbol.Symbol.{Symbol}
use Rattle.pp_directives.specs.declared.expression.symbol.Symbol.TheVariants.{Operator, Close, Question, Colon}
use Rattle.pp_directives.specs.declared.expression.symbol.Infix.{Infix}
use Rattle.pp_directives.specs.declared.expression.symbol.Prefix.{Prefix}
use Rattle.pp_directives.specs.Expressions.{Tree, IsExpr, Single, Group, Prefixed, Infixed, Chosen, Higher, prefix_of, level_of}
use Rattle.pp_directives.specs.OperandContexts.{Algebra, Reduced, made_of, tightness, pull_of, closed, waiting, ready, reduced, begun, placed, whole, run, spelled_by}
use Rattle.pp_directives.proofs.OperandContextLemmas.{reduced-closes}
use Rattle.pp_directives.proofs.LevelLemmas.{level, floor, under_floor}

-- the level of the left operand of what comes next
abbrev pull_at : List Symbol → ℕ
pull_at [] = 1
pull_at (x ∷ xs) = pull_of x

-- a context that what comes next closes is closed
shift : {A : Type 0} (alg : Algebra A) (f : OperandContext A) (fs : List (OperandContext A)) (m : A) (rest : List Symbol) → pull_at rest ≤ tightness f →
    run alg rest (ready (f ∷ fs) m) ≡ run alg rest (ready fs (closed alg f m))
shift {A} alg f fs m [] h = ap (λ (r : Reduced A). whole r.contexts r.operand) (reduced-closes alg 1 f fs m h)
shift {A} alg f fs m (x ∷ xs) h = ap (λ (r : Reduced A). run alg xs (placed x r.contexts r.operand)) (reduced-closes alg (pull_of x) f fs m h)

stays_by : {A : Type 0} (alg : Algebra A) (pull : ℕ) (f : OperandContext A) (fs : List (OperandContext A)) (m : A) (test : Bool) → test ≡ false →
    ◌≡◌ {A = Reduced A} (if test then reduced alg pull fs (closed alg f m) else record { contexts = f ∷ fs; operand = m }) (record { contexts = f ∷ fs; operand = m })
stays_by alg pull f fs m true e = cc
stays_by alg pull f fs m false e = refl

-- an operator at a level that may come after the contexts closes none
stays : {A : Type 0} (alg : Algebra A) (pull : ℕ) (fs : List (OperandContext A)) (m : A) → 2 ≤ pull → pull ≤ 11 → floor fs ≤ pull →
    ◌≡◌ {A = Reduced A} (reduced alg pull fs m) (record { contexts = fs; operand = m })
stays alg pull [] m least most h = refl
stays alg pull (f ∷ fs) m least most h = stays_by alg pull f fs m (nat_le pull (tightness f)) (lt-leb pull (tightness f) (under_floor f fs pull least most h))

-- an operator after an operand
operator : {A : Type 0} (alg : Algebra A) (fs : List (OperandContext A)) (m : A) (op : Infix) (rest : List Symbol) → floor fs ≤ level_of op →
    run alg (Operator op ∷ rest) (ready fs m) ≡ run alg rest (waiting (After m op ∷ fs))
operator {A} alg fs m op rest h =
    ap (λ (r : Reduced A). run alg rest (placed (Operator op) r.contexts r.operand)) (stays alg (level_of op) fs m (level op).low (level op).high h)

-- `?` after an operand
question : {A : Type 0} (alg : Algebra A) (fs : List (OperandContext A)) (m : A) (rest : List Symbol) → floor fs ≤ 1 →
    run alg (Question ∷ rest) (ready fs m) ≡ run alg rest (waiting (Then m ∷ fs))
question {A} alg fs m rest h =
    ap (λ (r : Reduced A). run alg rest (placed Question r.contexts r.operand)) (stays alg 2 fs m (omega arith) (omega arith) (omega arith))

-- an operator before an operand
prefix : {A : Type 0} (alg : Algebra A) (fs : List (OperandContext A)) (s : Symbol) (op : Prefix) (rest : List Symbol) → prefix_of s ≡ Some op →
    run alg (s ∷ rest) (waiting fs) ≡ run alg rest (waiting (Before op ∷ fs))
prefix alg fs s op rest e = ap (λ o. run alg rest (begun alg fs o s)) e

-- an expression that may come after the contexts, where what comes next ends it
reads : {A : Type 0} (alg : Algebra A) {p : ℕ} {list : List Symbol} {t : Tree} → IsExpr p list t → (fs : List (OperandContext A)) (rest : List Symbol) → floor fs ≤ p → pull_at rest ≤ p →
    run alg (list ++ rest) (waiting fs) ≡ run alg rest (ready fs (made_of alg t))
reads alg Single fs rest low next = refl
reads alg (Group {list} {t} d) fs rest low next =
    ap (λ xs. run alg xs (waiting (Within ∷ fs))) (append_assoc list (Close ∷ []) rest)
    ∙ reads alg d (Within ∷ fs) (Close ∷ rest) (omega arith) (omega arith)
reads alg (Prefixed {s} {op} {list} {t} e d) fs rest low next =
    prefix alg fs s op (list ++ rest) e
    ∙ reads alg d (Before op ∷ fs) rest (omega arith) next
    ∙ shift alg (Before op) fs (made_of alg t) rest next
reads alg (Infixed {op} {left} {right} {a} {b} da db) fs rest low next =
    ap (λ xs. run alg xs (waiting fs)) (append_assoc left (Operator op ∷ right) rest)
    ∙ reads alg da fs (Operator op ∷ (right ++ rest)) low (omega arith)
    ∙ operator alg fs (made_of alg a) op (right ++ rest) low
    ∙ reads alg db (After (made_of alg a) op ∷ fs) rest (omega arith) (omega arith)
    ∙ shift alg (After (made_of alg a) op) fs (made_of alg b) rest next
reads alg (Chosen {list} {middle} {right} {c} {a} {b} dc da db) fs rest low next =
    ap (λ xs. run alg xs (waiting fs)) (append_assoc list (Question ∷ (middle ++ Colon ∷ right)) rest)
    ∙ reads alg dc fs (Question ∷ ((middle ++ Colon ∷ right) ++ rest)) (omega arith) (omega arith)
    ∙ question alg fs (made_of alg c) ((middle ++ Colon ∷ right) ++ rest) low
    ∙ ap (λ xs. run alg xs (waiting (Then (made_of alg c) ∷ fs))) (append_assoc middle (Colon ∷ right) rest)
    ∙ reads alg da (Then (made_of alg c) ∷ fs) (Colon ∷ (right ++ rest)) (omega arith) (omega arith)
    ∙ reads alg db (Else (made_of alg c) (made_of alg a) ∷ fs) rest (omega arith) next
    ∙ shift alg (Else (made_of alg c) (made_of alg a)) fs (made_of alg b) rest next
reads alg (Higher d) fs rest low next = reads alg d fs rest (omega arith) (omega arith)

-- the machine reads what is spelled
pub complete : {A : Type 0} (alg : Algebra A) {list : List Symbol} {t : Tree} → IsExpr 1 list t → spelled_by alg list ≡ Some (made_of alg t)
complete {A} alg {list} {t} d =
    ap (λ xs. run alg xs (waiting [])) (sym (append-nil list)) ∙ reads alg d [] [] (omega arith) (omega arith)
