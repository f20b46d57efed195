-- The marks of a file are in the order of its lines, its end last; so there is one at each line or after it.
use Rattle.std.proofs.Common.{◌≡◌, ℕ, suc, ◌+◌, Bool, true, false, cond, ◌&&◌, eqb, leb, List, [], ◌∷◌, ◌++◌, map, Option, Some, None, refl, sym, ap, ◌∙◌, subst, append_assoc, arith}
use Rattle.std.proofs.lemmas.List.{append-nil}
use Rattle.std.proofs.lemmas.Bool.{eqb-true, eqb-false, or_parts}
use Rattle.std.specs.Option.{is_some}
use Rattle.std.specs.List.{list_any, find, filter}
use Rattle.pp_tokens.specs.Kinds.{same}
use Rattle.pp_unit.specs.Seen.{Mark}
use Rattle.pp_unit.specs.PreTables.{is_of, is_reached, is_at}
use Rattle.pp_unit.specs.TableLaws.{RiseToEnd}
use Rattle.pp_unit.proofs.Traces.{Trace, Done, Silent, Defines, Undefines, Includes, size, mark, marks_onto, Rises}
use Rattle.pp_unit.proofs.MarkLemmas.{same_self, below, only, included, other_lines, not_inside, Alike, ◌⨾◌, past_mark, past_file, past_lines, deeper}

-- where the marks of a file are
abbrev pub lines_at : List ℕ → List Mark → List (Option ℕ)
lines_at chain marks = map (λ (m : Mark). m.line) (filter (is_of chain) marks)

-- they are in order, if there are any
abbrev pub InOrder : List ℕ → List Mark → Type 0
InOrder chain marks = list_any (is_of chain) marks ≡ true → RiseToEnd 0 (lines_at chain marks)

one_first : (c : List ℕ) (line : Option ℕ) (e : ℕ) (marks : List Mark) → lines_at c (mark c line e ∷ marks) ≡ line ∷ lines_at c marks
one_first c line e marks = λ i. map (λ (m : Mark). m.line) (cond (same_self c i) (mark c line e ∷ filter (is_of c) marks) (filter (is_of c) marks))

-- the marks of the file itself
own_order : (t : Trace) (c : List ℕ) (low e end : ℕ) (marks : List Mark) → Rises low t → lines_at c marks ≡ [] → RiseToEnd low (lines_at c (marks_onto c e t (mark c None end ∷ marks)))
own_order Done c low e end marks rises none = subst (RiseToEnd low) (sym (one_first c None end marks)) none
own_order (Silent n t) c low e end marks rises none =
    subst (RiseToEnd low) (sym (one_first c (Some n) e (marks_onto c e t (mark c None end ∷ marks)))) (rises.0, own_order t c n e end marks rises.1 none)
own_order (Defines n text t) c low e end marks rises none =
    subst (RiseToEnd low) (sym (one_first c (Some n) e (marks_onto c (suc e) t (mark c None end ∷ marks)))) (rises.0, own_order t c n (suc e) end marks rises.1 none)
own_order (Undefines n name t) c low e end marks rises none =
    subst (RiseToEnd low) (sym (one_first c (Some n) e (marks_onto c (suc e) t (mark c None end ∷ marks)))) (rises.0, own_order t c n (suc e) end marks rises.1 none)
own_order (Includes n path inner t) c low e end marks rises none =
    let inside = c ++ n ∷ [] in
    let next = suc (suc e + size inner) in
    let after = marks_onto c next t (mark c None end ∷ marks) in
    let passed = past_file (only c) inner inside (suc e) (suc e + size inner) after (included c n) in
    subst (RiseToEnd low)
    (sym (one_first c (Some n) e (marks_onto inside (suc e) inner (mark inside None (suc e + size inner) ∷ after)) ∙ ap (λ (list : List Mark). Some n ∷ map (λ (m : Mark). m.line) list) (passed.all [])))
    (rises.0, own_order t c n next end marks rises.2 none)

in_order_alike : (chains : List ℕ → List ℕ) (rest : List ℕ) (marks others : List Mark) → Alike chains marks others → InOrder (chains rest) others → InOrder (chains rest) marks
in_order_alike chains rest marks others s order some =
    subst (RiseToEnd 0) (ap (λ (list : List Mark). map (λ (m : Mark). m.line) list) (sym (s.all rest))) (order (sym (s.any rest) ∙ some))

pub none_in_order : (chain : List ℕ) → InOrder chain []
none_in_order chain some = cc

-- in all files below one
abbrev pub WholeOrder : Trace → Type 0
WholeOrder t = (c rest : List ℕ) (e end : ℕ) (marks : List Mark) → Rises 0 t → Alike (below c) marks [] → InOrder (below c rest) (marks_onto c e t (mark c None end ∷ marks))

-- in all files below those that these lines include
abbrev pub AfterOrder : Trace → Type 0
AfterOrder t = (c : List ℕ) (n : ℕ) (rest : List ℕ) (low e end : ℕ) (marks : List Mark) → Rises low t → Alike (below (c ++ n ∷ [])) marks [] →
    InOrder (below (c ++ n ∷ []) rest) (marks_onto c e t (mark c None end ∷ marks))

pub whole_order : (t : Trace) → AfterOrder t → WholeOrder t
whole_order t order c [] e end marks rises alike some =
    let none : lines_at c marks ≡ [] = ap (λ (chain : List ℕ). lines_at chain marks) (sym (append-nil c)) ∙ ap (λ (list : List Mark). map (λ (m : Mark). m.line) list) (alike.all []) in
    subst (λ (chain : List ℕ). RiseToEnd 0 (lines_at chain (marks_onto c e t (mark c None end ∷ marks)))) (sym (append-nil c)) (own_order t c 0 e end marks rises none)
whole_order t order c (n ∷ rest) e end marks rises alike some =
    subst (λ (chain : List ℕ). InOrder chain (marks_onto c e t (mark c None end ∷ marks))) (append_assoc c (n ∷ []) rest)
    (order c n rest 0 e end marks rises (deeper c n marks [] alike)) some

-- a line that includes a file of the chain, or another
by_line : (here : Bool) (inner t : Trace) (m path : ℕ) (c : List ℕ) (n : ℕ) (rest : List ℕ) (e end : ℕ) (marks : List Mark) → eqb m n ≡ here → Rises 0 inner → Rises m t →
    Alike (below (c ++ n ∷ [])) marks [] → WholeOrder inner → AfterOrder t → InOrder (below (c ++ n ∷ []) rest) (marks_onto c e (Includes m path inner t) (mark c None end ∷ marks))
by_line true inner t m path c n rest e end marks same inner_rises rises alike order more =
    let is : m ≡ n = eqb-true m n same in
    let inside = c ++ m ∷ [] in
    let next = suc (suc e + size inner) in
    let after = marks_onto c next t (mark c None end ∷ marks) in
    let file = marks_onto inside (suc e) inner (mark inside None (suc e + size inner) ∷ after) in
    subst (λ (k : ℕ). InOrder (below (c ++ k ∷ []) rest) (mark c (Some m) e ∷ file)) is
    (in_order_alike (below inside) rest (mark c (Some m) e ∷ file) file (past_mark (below inside) (mark c (Some m) e) file (not_inside c m))
    (order inside rest (suc e) (suc e + size inner) after inner_rises
    (past_lines t c m m next (mark c None end ∷ marks) (omega arith) rises
    ⨾ past_mark (below inside) (mark c None end) marks (not_inside c m)
    ⨾ subst (λ (k : ℕ). Alike (below (c ++ k ∷ [])) marks []) (sym is) alike)))
by_line false inner t m path c n rest e end marks other inner_rises rises alike order more =
    let inside = c ++ m ∷ [] in
    let next = suc (suc e + size inner) in
    let after = marks_onto c next t (mark c None end ∷ marks) in
    let file = marks_onto inside (suc e) inner (mark inside None (suc e + size inner) ∷ after) in
    in_order_alike (below (c ++ n ∷ [])) rest (mark c (Some m) e ∷ file) after
    (past_mark (below (c ++ n ∷ [])) (mark c (Some m) e) file (not_inside c n)
    ⨾ past_file (below (c ++ n ∷ [])) inner inside (suc e) (suc e + size inner) after (other_lines c m n (eqb-false m n other)))
    (more c n rest m next end marks rises alike)

pub after_order : (t : Trace) → AfterOrder t
after_order Done c n rest low e end marks rises alike =
    in_order_alike (below (c ++ n ∷ [])) rest (mark c None end ∷ marks) [] (past_mark (below (c ++ n ∷ [])) (mark c None end) marks (not_inside c n) ⨾ alike) (none_in_order (below (c ++ n ∷ []) rest))
after_order (Silent m t) c n rest low e end marks rises alike =
    let after = marks_onto c e t (mark c None end ∷ marks) in
    in_order_alike (below (c ++ n ∷ [])) rest (mark c (Some m) e ∷ after) after (past_mark (below (c ++ n ∷ [])) (mark c (Some m) e) after (not_inside c n)) (after_order t c n rest m e end marks rises.1 alike)
after_order (Defines m text t) c n rest low e end marks rises alike =
    let after = marks_onto c (suc e) t (mark c None end ∷ marks) in
    in_order_alike (below (c ++ n ∷ [])) rest (mark c (Some m) e ∷ after) after (past_mark (below (c ++ n ∷ [])) (mark c (Some m) e) after (not_inside c n)) (after_order t c n rest m (suc e) end marks rises.1 alike)
after_order (Undefines m name t) c n rest low e end marks rises alike =
    let after = marks_onto c (suc e) t (mark c None end ∷ marks) in
    in_order_alike (below (c ++ n ∷ [])) rest (mark c (Some m) e ∷ after) after (past_mark (below (c ++ n ∷ [])) (mark c (Some m) e) after (not_inside c n)) (after_order t c n rest m (suc e) end marks rises.1 alike)
after_order (Includes m path inner t) c n rest low e end marks rises alike =
    by_line (eqb m n) inner t m path c n rest e end marks refl rises.1 rises.2 alike (whole_order inner (after_order inner)) (after_order t)

-- where the end comes last, some mark is at each line or after it
here_or_later : (reached : Bool) (line : ℕ) (low : ℕ) (here later : Option Mark) (lines : List (Option ℕ)) → (RiseToEnd line lines → is_some later ≡ true) → RiseToEnd low (Some line ∷ lines) → is_some here ≡ true →
    is_some (cond reached here later) ≡ true
here_or_later true line low here later lines rest order some = some
here_or_later false line low here later lines rest order some = rest order.1

found_by : (own : Bool) (here : Mark) (line : Option ℕ) (low l : ℕ) (later : Option Mark) (marks : List Mark) → ((low : ℕ) → RiseToEnd low (map (λ (m : Mark). m.line) marks) → is_some later ≡ true) →
    RiseToEnd low (map (λ (m : Mark). m.line) (cond own (record here { line = line } ∷ marks) marks)) → is_some (cond (own && is_reached l line) (Some here) later) ≡ true
found_by true here None low l later marks rest order = refl
found_by true here (Some line) low l later marks rest order =
    here_or_later (leb l line) line low (Some here) later (map (λ (m : Mark). m.line) marks) (rest line) order refl
found_by false here line low l later marks rest order = rest low order

pub some_found : (chain : List ℕ) (l low : ℕ) (marks : List Mark) → RiseToEnd low (lines_at chain marks) → is_some (find (is_at chain l) marks) ≡ true
some_found chain l low [] order = absurd order
some_found chain l low (here ∷ marks) order =
    found_by (is_of chain here) here here.line low l (find (is_at chain l) marks) (filter (is_of chain) marks) (λ low order. some_found chain l low marks order) order

pub none_found : (chain : List ℕ) (l : ℕ) (marks : List Mark) → list_any (is_of chain) marks ≡ false → is_some (find (is_at chain l) marks) ≡ false
none_found chain l [] none = refl
none_found chain l (here ∷ marks) none =
    let parts = or_parts (is_of chain here) (list_any (is_of chain) marks) none in
    (λ i. is_some (cond (parts.0 i && is_reached l here.line) (Some here) (find (is_at chain l) marks))) ∙ none_found chain l marks parts.1
