-- What is read is spelled: where the machine ends with something, the list spells a tree of which that is made.
use Rattle.std.proofs.Common.{◌≡◌, ℕ, suc, ◌≤◌, Bool, true, false, if◌then◌else◌, List, [], ◌∷◌, ◌++◌, Option, Some, None, refl, sym, ap, ◌∙◌, subst, arith, nat_le, append_assoc, append-nil}
use Rattle.std.proofs.lemmas.Bool.{leb-true, leb-false}
use Rattle.pp_directives.specs.declared.expression.number.Number.{Number}
use Rattle.pp_directives.specs.declared.expression.operand_context.OperandContext.{OperandContext}
use Rattle.pp_directives.specs.declared.expression.operand_context.OperandContext.TheVariants.{Within, Before, After, Then, Else}
use Rattle.pp_directives.specs.declared.expression.symbol.Symbol.{Symbol}
use Rattle.pp_directives.specs.declared.expression.symbol.Symbol.TheVariants.{Constant, Operator, Tilde, Bang, Open, Close, Question, Colon, Other}
use Rattle.pp_directives.specs.declared.expression.symbol.Infix.{Infix}
use Rattle.pp_directives.specs.declared.expression.symbol.Prefix.{Prefix}
use Rattle.pp_directives.specs.Expressions.{Tree, Leaf, Unary, Binary, Choice, IsExpr, Single, Group, Prefixed, Infixed, Chosen, prefix_of, level_of}
use Rattle.pp_directives.specs.OperandContexts.{Algebra, State, Reduced, made_of, tightness, pull_of, closed, waiting, reduced, begun, placed, step, whole, finished, run, spelled_by}
use Rattle.pp_directives.proofs.LevelLemmas.{floor, floor_most, floor_two, floor_under, pull_low, pull_high, lowered}

-- the list spells, at that level, a tree of which m is made
pub record Has {A : Type 0} (alg : Algebra A) (p : ℕ) (list : List Symbol) (m : A) : Type 0 where
  pub tree : Tree
  pub spells : IsExpr p list tree
  pub makes : made_of alg tree ≡ m

low : {A : Type 0} {alg : Algebra A} (p q : ℕ) {list : List Symbol} {m : A} → p ≤ q → Has alg q list m → Has alg p list m
low p q h has = record { tree = has.tree; spells = lowered p q h has.spells; makes = has.makes }

single : {A : Type 0} (alg : Algebra A) (n : Number) → Has alg 12 (Constant n ∷ []) (alg.of_constant n)
single alg n = record { tree = Leaf n; spells = Single; makes = refl }

group : {A : Type 0} {alg : Algebra A} {list : List Symbol} {m : A} → Has alg 1 list m → Has alg 12 (Open ∷ list ++ Close ∷ []) m
group has = record { tree = has.tree; spells = Group has.spells; makes = has.makes }

prefixed : {A : Type 0} {alg : Algebra A} {s : Symbol} {op : Prefix} {list : List Symbol} {m : A} → prefix_of s ≡ Some op → Has alg 12 list m → Has alg 12 (s ∷ list) (alg.of_prefix op m)
prefixed {A} {alg} {s} {op} e has = record { tree = Unary op has.tree; spells = Prefixed e has.spells; makes = ap (alg.of_prefix op) has.makes }

infixed : {A : Type 0} {alg : Algebra A} {op : Infix} {left right : List Symbol} {a b : A} → Has alg (level_of op) left a → Has alg (suc (level_of op)) right b →
    Has alg (level_of op) (left ++ Operator op ∷ right) (alg.of_infix op a b)
infixed {A} {alg} {op} {left} {right} {a} {b} ha hb = record {
  tree = Binary op ha.tree hb.tree;
  spells = Infixed ha.spells hb.spells;
  makes = ap (λ x. alg.of_infix op x (made_of alg hb.tree)) ha.makes ∙ ap (alg.of_infix op a) hb.makes;
}

chosen : {A : Type 0} {alg : Algebra A} {list middle right : List Symbol} {c a b : A} → Has alg 2 list c → Has alg 1 middle a → Has alg 1 right b →
    Has alg 1 (list ++ Question ∷ (middle ++ Colon ∷ right)) (alg.of_choice c a b)
chosen {A} {alg} {list} {middle} {right} {c} {a} {b} hc ha hb = record {
  tree = Choice hc.tree ha.tree hb.tree;
  spells = Chosen hc.spells ha.spells hb.spells;
  makes = ap (λ x. alg.of_choice x (made_of alg ha.tree) (made_of alg hb.tree)) hc.makes ∙ ap (λ x. alg.of_choice c x (made_of alg hb.tree)) ha.makes ∙ ap (alg.of_choice c a) hb.makes;
}

-- Opened alg all frames rest: the contexts were read from the list, of which the rest is left
abbrev Opened : {A : Type 0} → Algebra A → List Symbol → List (OperandContext A) → List Symbol → Type 0
Opened alg all [] rest = all ≡ rest
Opened alg all (Within ∷ fs) rest = Opened alg all fs (Open ∷ rest)
Opened alg all (Before op ∷ fs) rest = (s : Symbol) × (prefix_of s ≡ Some op) × Opened alg all fs (s ∷ rest)
Opened alg all (After a op ∷ fs) rest = (left : List Symbol) × Has alg (level_of op) left a × (floor fs ≤ level_of op) × Opened alg all fs (left ++ Operator op ∷ rest)
Opened alg all (Then c ∷ fs) rest = (list : List Symbol) × Has alg 2 list c × (floor fs ≤ 1) × Opened alg all fs (list ++ Question ∷ rest)
Opened alg all (Else c a ∷ fs) rest =
    (list : List Symbol) × (middle : List Symbol) × Has alg 2 list c × Has alg 1 middle a × (floor fs ≤ 1) × Opened alg all fs (list ++ Question ∷ (middle ++ Colon ∷ rest))

-- an operand was read after the contexts, of a level that may be there and that is a symbol's left operand
record Held {A : Type 0} (alg : Algebra A) (all : List Symbol) (fs : List (OperandContext A)) (m : A) (pull : ℕ) (rest : List Symbol) : Type 0 where
  list : List Symbol
  opened : Opened alg all fs (list ++ rest)
  at : ℕ
  has : Has alg at list m
  fits : floor fs ≤ at
  pulls : pull ≤ at

close : {A : Type 0} (alg : Algebra A) (all : List Symbol) (f : OperandContext A) (fs : List (OperandContext A)) (m : A) (pull : ℕ) (rest : List Symbol) → 1 ≤ pull → pull ≤ tightness f →
    Held alg all (f ∷ fs) m pull rest → Held alg all fs (closed alg f m) pull rest
close alg all Within fs m pull rest least tight h = absurd (omega arith)
close alg all (Then c) fs m pull rest least tight h = absurd (omega arith)
close alg all (Before op) fs m pull rest least tight h = record {
  list = h.opened.0 ∷ h.list;
  opened = h.opened.2;
  at = 12;
  has = prefixed h.opened.1 (low 12 h.at h.fits h.has);
  fits = floor_most fs;
  pulls = tight;
}
close alg all (After a op) fs m pull rest least tight h = record {
  list = h.opened.0 ++ Operator op ∷ h.list;
  opened = subst (Opened alg all fs) (sym (append_assoc h.opened.0 (Operator op ∷ h.list) rest)) h.opened.3;
  at = level_of op;
  has = infixed h.opened.1 (low (suc (level_of op)) h.at h.fits h.has);
  fits = h.opened.2;
  pulls = tight;
}
close alg all (Else c a) fs m pull rest least tight h =
    let list = h.opened.0 in let middle = h.opened.1 in
    let joined = append_assoc list (Question ∷ (middle ++ Colon ∷ h.list)) rest ∙ ap (λ xs. list ++ Question ∷ xs) (append_assoc middle (Colon ∷ h.list) rest) in
    record {
      list = list ++ Question ∷ (middle ++ Colon ∷ h.list);
      opened = subst (Opened alg all fs) (sym joined) h.opened.5;
      at = 1;
      has = chosen h.opened.2 h.opened.3 (low 1 h.at h.fits h.has);
      fits = h.opened.4;
      pulls = tight;
    }

-- the same, with contexts that may be below the symbol
record Left {A : Type 0} (alg : Algebra A) (all : List Symbol) (r : Reduced A) (pull : ℕ) (rest : List Symbol) : Type 0 where
  held : Held alg all r.contexts r.operand pull rest
  under : floor r.contexts ≤ pull

left_by : {A : Type 0} (alg : Algebra A) (all : List Symbol) (f : OperandContext A) (fs : List (OperandContext A)) (m : A) (pull : ℕ) (rest : List Symbol) (test : Bool) →
    (test ≡ true → Left alg all (reduced alg pull fs (closed alg f m)) pull rest) → (test ≡ false → Left alg all (record { contexts = f ∷ fs; operand = m }) pull rest) →
    Left alg all (if test then reduced alg pull fs (closed alg f m) else record { contexts = f ∷ fs; operand = m }) pull rest
left_by alg all f fs m pull rest true if_so if_not = if_so refl
left_by alg all f fs m pull rest false if_so if_not = if_not refl

-- when what binds tighter is closed, an operand is still held
left : {A : Type 0} (alg : Algebra A) (all : List Symbol) (fs : List (OperandContext A)) (m : A) (pull : ℕ) (rest : List Symbol) → 1 ≤ pull → pull ≤ 11 →
    Held alg all fs m pull rest → Left alg all (reduced alg pull fs m) pull rest
left alg all [] m pull rest least most h = record { held = h; under = least }
left alg all (f ∷ fs) m pull rest least most h =
    left_by alg all f fs m pull rest (nat_le pull (tightness f))
    (λ e. left alg all fs (closed alg f m) pull rest least most (close alg all f fs m pull rest least (leb-true pull (tightness f) e) h))
    (λ e. record { held = h; under = floor_under f fs pull most (leb-false pull (tightness f) e) })

-- an operand that is read
record Read {A : Type 0} (alg : Algebra A) (all : List Symbol) (fs : List (OperandContext A)) (m : A) (rest : List Symbol) : Type 0 where
  list : List Symbol
  opened : Opened alg all fs (list ++ rest)
  has : Has alg 12 list m

held : {A : Type 0} (alg : Algebra A) (all : List Symbol) (fs : List (OperandContext A)) (m : A) (pull : ℕ) (rest : List Symbol) → pull ≤ 11 → Read alg all fs m rest → Held alg all fs m pull rest
held alg all fs m pull rest most h = record { list = h.list; opened = h.opened; at = 12; has = h.has; fits = floor_most fs; pulls = omega arith }

abbrev IsOperand : {A : Type 0} → Algebra A → List Symbol → List (OperandContext A) → Option A → List Symbol → Type 0
IsOperand alg all fs None rest = Opened alg all fs rest
IsOperand alg all fs (Some m) rest = Read alg all fs m rest

-- the state was read from the list, of which the rest is left
abbrev Holds : {A : Type 0} → Algebra A → List Symbol → Option (State A) → List Symbol → Type 0
Holds alg all None rest = Unit {0}
Holds alg all (Some s) rest = IsOperand alg all s.contexts s.operand rest

begins : {A : Type 0} (alg : Algebra A) (all : List Symbol) (fs : List (OperandContext A)) (op : Option Prefix) (s : Symbol) (rest : List Symbol) → prefix_of s ≡ op → Opened alg all fs (s ∷ rest) →
    Holds alg all (begun alg fs op s) rest
begins alg all fs (Some op) s rest e h = (s, e, h)
begins alg all fs None (Constant n) rest e h = record { list = Constant n ∷ []; opened = h; has = single alg n }
begins alg all fs None Open rest e h = h
begins alg all fs None (Operator op) rest e h = tt
begins alg all fs None Tilde rest e h = tt
begins alg all fs None Bang rest e h = tt
begins alg all fs None Close rest e h = tt
begins alg all fs None Question rest e h = tt
begins alg all fs None Colon rest e h = tt
begins alg all fs None Other rest e h = tt

turns : {A : Type 0} (alg : Algebra A) (all : List Symbol) (fs : List (OperandContext A)) (m : A) (rest : List Symbol) → Held alg all fs m 1 (Colon ∷ rest) → Holds alg all (placed Colon fs m) rest
turns alg all [] m rest h = tt
turns alg all (Within ∷ fs) m rest h = tt
turns alg all (Before op ∷ fs) m rest h = tt
turns alg all (After a op ∷ fs) m rest h = tt
turns alg all (Then c ∷ fs) m rest h = (h.opened.0, h.list, h.opened.1, low 1 h.at h.pulls h.has, h.opened.2, h.opened.3)
turns alg all (Else c a ∷ fs) m rest h = tt

leaves : {A : Type 0} (alg : Algebra A) (all : List Symbol) (fs : List (OperandContext A)) (m : A) (rest : List Symbol) → Held alg all fs m 1 (Close ∷ rest) → Holds alg all (placed Close fs m) rest
leaves alg all [] m rest h = tt
leaves alg all (Within ∷ fs) m rest h = record {
  list = Open ∷ h.list ++ Close ∷ [];
  opened = subst (λ xs. Opened alg all fs (Open ∷ xs)) (sym (append_assoc h.list (Close ∷ []) rest)) h.opened;
  has = group (low 1 h.at h.pulls h.has);
}
leaves alg all (Before op ∷ fs) m rest h = tt
leaves alg all (After a op ∷ fs) m rest h = tt
leaves alg all (Then c ∷ fs) m rest h = tt
leaves alg all (Else c a ∷ fs) m rest h = tt

places : {A : Type 0} (alg : Algebra A) (all : List Symbol) (s : Symbol) (r : Reduced A) (rest : List Symbol) → Left alg all r (pull_of s) (s ∷ rest) → Holds alg all (placed s r.contexts r.operand) rest
places alg all (Operator op) r rest h = (h.held.list, low (level_of op) h.held.at h.held.pulls h.held.has, h.under, h.held.opened)
places alg all Question r rest h = (h.held.list, low 2 h.held.at h.held.pulls h.held.has, floor_two r.contexts h.under, h.held.opened)
places alg all Colon r rest h = turns alg all r.contexts r.operand rest h.held
places alg all Close r rest h = leaves alg all r.contexts r.operand rest h.held
places alg all (Constant n) r rest h = tt
places alg all Tilde r rest h = tt
places alg all Bang r rest h = tt
places alg all Open r rest h = tt
places alg all Other r rest h = tt

steps : {A : Type 0} (alg : Algebra A) (all : List Symbol) (fs : List (OperandContext A)) (operand : Option A) (s : Symbol) (rest : List Symbol) → IsOperand alg all fs operand (s ∷ rest) →
    Holds alg all (step alg fs s operand) rest
steps alg all fs None s rest h = begins alg all fs (prefix_of s) s rest refl h
steps alg all fs (Some m) s rest h =
    places alg all s (reduced alg (pull_of s) fs m) rest (left alg all fs m (pull_of s) (s ∷ rest) (pull_low s) (pull_high s) (held alg all fs m (pull_of s) (s ∷ rest) (pull_high s) h))

-- what was read in all, if anything was
abbrev pub Found : {A : Type 0} → Algebra A → List Symbol → Option A → Type 0
Found alg all None = Unit {0}
Found alg all (Some m) = Has alg 1 all m

wholly : {A : Type 0} (alg : Algebra A) (all : List Symbol) (fs : List (OperandContext A)) (m : A) → Held alg all fs m 1 [] → Found alg all (whole fs m)
wholly alg all [] m h = subst (λ xs. Has alg 1 xs m) (sym (h.opened ∙ append-nil h.list)) (low 1 h.at h.pulls h.has)
wholly alg all (f ∷ fs) m h = tt

finishes : {A : Type 0} (alg : Algebra A) (all : List Symbol) (fs : List (OperandContext A)) (operand : Option A) → IsOperand alg all fs operand [] → Found alg all (finished alg fs operand)
finishes alg all fs None h = tt
finishes alg all fs (Some m) h =
    let l = left alg all fs m 1 [] (omega arith) (omega arith) (held alg all fs m 1 [] (omega arith) h) in
    wholly alg all (reduced alg 1 fs m).contexts (reduced alg 1 fs m).operand l.held

runs : {A : Type 0} (alg : Algebra A) (all rest : List Symbol) (o : Option (State A)) → Holds alg all o rest → Found alg all (run alg rest o)
runs alg all [] None h = tt
runs alg all [] (Some s) h = finishes alg all s.contexts s.operand h
runs alg all (x ∷ xs) None h = runs alg all xs None tt
runs alg all (x ∷ xs) (Some s) h = runs alg all xs (step alg s.contexts x s.operand) (steps alg all s.contexts s.operand x xs h)

-- what the machine reads is spelled
pub sound : {A : Type 0} (alg : Algebra A) (list : List Symbol) → Found alg list (spelled_by alg list)
sound alg list = runs alg list list (waiting []) refl
