-- Marks that don't count for some chains, and what is left there of the look-up of a table.
use Rattle.std.proofs.Common.{◌≡◌, ◌<◌, ◌≤◌, ℕ, suc, ◌+◌, Bool, true, false, cond, ◌&&◌, ◌||◌, List, [], ◌∷◌, ◌++◌, Some, None, Result, refl, sym, ap, ◌∙◌, subst, append_assoc, arith}
use Rattle.std.proofs.lemmas.List.{append-nil, append_cancel_left}
use Rattle.std.proofs.lemmas.Cmp.{nat_list_eq_equiv}
use Rattle.std.specs.Option.{option_map, ok_or}
use Rattle.std.specs.List.{list_any, find, filter}
use Rattle.std.specs.Cmp.Lexicographic.{same_text}
use Rattle.pp_tokens.specs.Kinds.{same}
use Rattle.pp_unit.specs.Seen.{Mark}
use Rattle.pp_unit.specs.PreTables.{is_of, is_reached, is_at, files_walked}
use Rattle.pp_unit.proofs.Traces.{Trace, Done, Silent, Defines, Undefines, Includes, size, mark, marks_onto, Rises}

pub same_self : (c : List ℕ) → same c c ≡ true
same_self c = nat_list_eq_equiv.refl c

-- two lists that differ
differs : (c d : List ℕ) → (c ≡ d → ⊥) → same c d ≡ false
differs c d other = by (same c d) refl
  where
    by : (b : Bool) → b ≡ same c d → same c d ≡ false
    by true is = absurd (other (same_text c d is))
    by false is = sym is

-- all chains that begin with this prefix
abbrev pub below : List ℕ → List ℕ → List ℕ
below front rest = front ++ rest

-- this chain alone
abbrev pub only : List ℕ → List ℕ → List ℕ
only chain rest = chain

-- no file whose chain begins with this one has one of these
abbrev pub IsApart : List ℕ → (List ℕ → List ℕ) → Type 0
IsApart d chains = (suffix rest : List ℕ) → same (d ++ suffix) (chains rest) ≡ false

head_differs : (c : List ℕ) (m n : ℕ) (suffix rest : List ℕ) → (m ≡ n → ⊥) → c ++ m ∷ suffix ≡ c ++ n ∷ rest → ⊥
head_differs c m n suffix rest other is =
    let tails : m ∷ suffix ≡ n ∷ rest = append_cancel_left c (m ∷ suffix) (n ∷ rest) is in
    other cc

shorter : (c : List ℕ) (n : ℕ) (rest : List ℕ) → c ≡ c ++ n ∷ rest → ⊥
shorter [] n rest is = cc
shorter (x ∷ c) n rest is = shorter c n rest cc

-- the files that two lines of one file include
pub other_lines : (c : List ℕ) (m n : ℕ) → (m ≡ n → ⊥) → IsApart (c ++ m ∷ []) (below (c ++ n ∷ []))
other_lines c m n other suffix rest =
    differs _ _ (λ is. head_differs c m n suffix rest other (sym (append_assoc c (m ∷ []) suffix) ∙ is ∙ append_assoc c (n ∷ []) rest))

-- a file that is included, and the file itself
pub included : (c : List ℕ) (n : ℕ) → IsApart (c ++ n ∷ []) (only c)
included c n suffix rest = differs _ _ (λ is. shorter c n suffix (sym is ∙ append_assoc c (n ∷ []) suffix))

-- a file, and those that a line of it includes
pub not_inside : (c : List ℕ) (n : ℕ) (rest : List ℕ) → same c (below (c ++ n ∷ []) rest) ≡ false
not_inside c n rest = differs _ _ (λ is. shorter c n rest (is ∙ append_assoc c (n ∷ []) rest))

-- marks that say the same of all files with these chains
pub record Alike (chains : List ℕ → List ℕ) (marks others : List Mark) : Type 0 where
  pub any : (rest : List ℕ) → list_any (is_of (chains rest)) marks ≡ list_any (is_of (chains rest)) others
  pub first : (rest : List ℕ) (l : ℕ) → find (is_at (chains rest) l) marks ≡ find (is_at (chains rest) l) others
  pub all : (rest : List ℕ) → filter (is_of (chains rest)) marks ≡ filter (is_of (chains rest)) others

pub alike_self : (chains : List ℕ → List ℕ) (marks : List Mark) → Alike chains marks marks
alike_self chains marks = record { any = λ rest. refl; first = λ rest l. refl; all = λ rest. refl }

infixr 30 ◌⨾◌
pub ◌⨾◌ : {chains : List ℕ → List ℕ} {a b c : List Mark} → Alike chains a b → Alike chains b c → Alike chains a c
s ⨾ t = record { any = λ rest. s.any rest ∙ t.any rest; first = λ rest l. s.first rest l ∙ t.first rest l; all = λ rest. s.all rest ∙ t.all rest }

-- one mark that is of none of these files
pub past_mark : (chains : List ℕ → List ℕ) (here : Mark) (marks : List Mark) → ((rest : List ℕ) → same here.chain (chains rest) ≡ false) → Alike chains (here ∷ marks) marks
past_mark chains here marks other = record {
  any = λ rest. ap (λ b. b || list_any (is_of (chains rest)) marks) (other rest);
  first = λ rest l. λ i. cond (other rest i && is_reached l here.line) (Some here) (find (is_at (chains rest) l) marks);
  all = λ rest. λ i. cond (other rest i) (here ∷ filter (is_of (chains rest)) marks) (filter (is_of (chains rest)) marks);
}

-- the same below a file that the one includes
pub deeper : (c : List ℕ) (n : ℕ) (marks others : List Mark) → Alike (below c) marks others → Alike (below (c ++ n ∷ [])) marks others
deeper c n marks others s = record {
  any = λ rest. subst (λ chain. list_any (is_of chain) marks ≡ list_any (is_of chain) others) (sym (append_assoc c (n ∷ []) rest)) (s.any (n ∷ rest));
  first = λ rest l. subst (λ chain. find (is_at chain l) marks ≡ find (is_at chain l) others) (sym (append_assoc c (n ∷ []) rest)) (s.first (n ∷ rest) l);
  all = λ rest. subst (λ chain. filter (is_of chain) marks ≡ filter (is_of chain) others) (sym (append_assoc c (n ∷ []) rest)) (s.all (n ∷ rest));
}

-- a file itself is apart, where all below it are
pub here_apart : (d : List ℕ) (chains : List ℕ → List ℕ) → IsApart d chains → (rest : List ℕ) → same d (chains rest) ≡ false
here_apart d chains apart rest = subst (λ chain. same chain (chains rest) ≡ false) (append-nil d) (apart [] rest)

inner_apart : (d : List ℕ) (chains : List ℕ → List ℕ) (n : ℕ) → IsApart d chains → IsApart (d ++ n ∷ []) chains
inner_apart d chains n apart suffix rest = subst (λ chain. same chain (chains rest) ≡ false) (sym (append_assoc d (n ∷ []) suffix)) (apart (n ∷ suffix) rest)

module _ (chains : List ℕ → List ℕ) where
  -- all marks of a file that is apart
  pub past_marks : (t : Trace) (d : List ℕ) (e : ℕ) (marks : List Mark) → IsApart d chains → Alike chains (marks_onto d e t marks) marks
  past_marks Done d e marks apart = alike_self chains marks
  past_marks (Silent n t) d e marks apart =
      past_mark chains (mark d (Some n) e) (marks_onto d e t marks) (here_apart d chains apart) ⨾ past_marks t d e marks apart
  past_marks (Defines n text t) d e marks apart =
      past_mark chains (mark d (Some n) e) (marks_onto d (suc e) t marks) (here_apart d chains apart) ⨾ past_marks t d (suc e) marks apart
  past_marks (Undefines n name t) d e marks apart =
      past_mark chains (mark d (Some n) e) (marks_onto d (suc e) t marks) (here_apart d chains apart) ⨾ past_marks t d (suc e) marks apart
  past_marks (Includes n path inner t) d e marks apart =
      let inside = d ++ n ∷ [] in
      let more = marks_onto d (suc (suc e + size inner)) t marks in
      let inside_apart = inner_apart d chains n apart in
      past_mark chains (mark d (Some n) e) (marks_onto inside (suc e) inner (mark inside None (suc e + size inner) ∷ more)) (here_apart d chains apart)
      ⨾ past_marks inner inside (suc e) (mark inside None (suc e + size inner) ∷ more) inside_apart
      ⨾ past_mark chains (mark inside None (suc e + size inner)) more (here_apart inside chains inside_apart)
      ⨾ past_marks t d (suc (suc e + size inner)) marks apart

  -- a whole file that is apart
  pub past_file : (inner : Trace) (d : List ℕ) (e end : ℕ) (marks : List Mark) → IsApart d chains → Alike chains (marks_onto d e inner (mark d None end ∷ marks)) marks
  past_file inner d e end marks apart = past_marks inner d e (mark d None end ∷ marks) apart ⨾ past_mark chains (mark d None end) marks (here_apart d chains apart)

-- after a line of a file no line includes the same file again
pub past_lines : (t : Trace) (c : List ℕ) (n low e : ℕ) (marks : List Mark) → n ≤ low → Rises low t → Alike (below (c ++ n ∷ [])) (marks_onto c e t marks) marks
past_lines Done c n low e marks above rises = alike_self (below (c ++ n ∷ [])) marks
past_lines (Silent m t) c n low e marks above rises =
    past_mark (below (c ++ n ∷ [])) (mark c (Some m) e) (marks_onto c e t marks) (not_inside c n) ⨾ past_lines t c n m e marks (let up = rises.0 in omega arith) rises.1
past_lines (Defines m text t) c n low e marks above rises =
    past_mark (below (c ++ n ∷ [])) (mark c (Some m) e) (marks_onto c (suc e) t marks) (not_inside c n) ⨾ past_lines t c n m (suc e) marks (let up = rises.0 in omega arith) rises.1
past_lines (Undefines m name t) c n low e marks above rises =
    past_mark (below (c ++ n ∷ [])) (mark c (Some m) e) (marks_onto c (suc e) t marks) (not_inside c n) ⨾ past_lines t c n m (suc e) marks (let up = rises.0 in omega arith) rises.1
past_lines (Includes m path inner t) c n low e marks above rises =
    let inside = c ++ m ∷ [] in
    let more = marks_onto c (suc (suc e + size inner)) t marks in
    let up : low < m = rises.0 in
    past_mark (below (c ++ n ∷ [])) (mark c (Some m) e) (marks_onto inside (suc e) inner (mark inside None (suc e + size inner) ∷ more)) (not_inside c n)
    ⨾ past_file (below (c ++ n ∷ [])) inner inside (suc e) (suc e + size inner) more (other_lines c m n (λ is. omega arith))
    ⨾ past_lines t c n m (suc (suc e + size inner)) marks (omega arith) rises.2

-- as many files were walked
as_many : (rest front : List ℕ) (marks others : List Mark) → Alike (below front) marks others → files_walked marks front rest ≡ files_walked others front rest
as_many [] front marks others s = ap (λ b. cond b 1 0) (subst (λ chain. list_any (is_of chain) marks ≡ list_any (is_of chain) others) (append-nil front) (s.any []))
as_many (n ∷ rest) front marks others s =
    let here : list_any (is_of front) marks ≡ list_any (is_of front) others = subst (λ chain. list_any (is_of chain) marks ≡ list_any (is_of chain) others) (append-nil front) (s.any []) in
    λ i. cond (here i) (1 + as_many rest (front ++ n ∷ []) marks others (deeper front n marks others s) i) 0

-- what the marks give at a line, from the file on that a prefix of the chain names, where so many files are around it
abbrev pub by_marks : {X : Type 0} → (ℕ → X) → List Mark → ℕ → List ℕ → List ℕ → ℕ → Result X ℕ
by_marks table marks depth front rest l = ok_or (option_map (λ (found : Mark). table found.events) (find (is_at (below front rest) l) marks)) (depth + files_walked marks front rest)

pub gives_alike : {X : Type 0} (table : ℕ → X) (marks others : List Mark) (depth : ℕ) (front rest : List ℕ) (l : ℕ) → Alike (below front) marks others →
    by_marks table marks depth front rest l ≡ by_marks table others depth front rest l
gives_alike table marks others depth front rest l s =
    λ i. ok_or (option_map (λ (found : Mark). table found.events) (s.first rest l i)) (depth + as_many rest front marks others s i)
