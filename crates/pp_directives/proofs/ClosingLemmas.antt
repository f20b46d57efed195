-- A file of lines has one tree, closed where a condition is open.
use Rattle.std.proofs.Common.{◌≡◌, ℕ, zero, suc, List, [], ◌∷◌, ◌++◌, length, Result, Ok, Err, refl, sym, ap, ◌∙◌, subst}
use Rattle.std.proofs.lemmas.List.{map-append}
use Rattle.mac_base.specs.Input.{◌>>=◌}
use Rattle.mac_base.proofs.Choices.{same_ok, bind_ok}
use Rattle.pp_directives.specs.declared.fault.StructFault.{StructFault}
use Rattle.pp_directives.specs.declared.conditional.open_section.OpenSection.{OpenSection}
use Rattle.pp_directives.specs.Groups.{EndifLine, CondLine, line, Group, HasTree, carried, endifs, Spot}
use Rattle.pp_directives.specs.Structure.{Stops, Closes}
use Rattle.pp_directives.specs.Conditions.{turned, turned_all}
use Rattle.pp_directives.proofs.StructureLemmas.{run_on, tree_run, run_tree, endifs_run, endifs_all, close_turns, turns_close, legal_turns, turns_legal}
use Rattle.pp_directives.proofs.TreeLemmas.{one_tree, roles_decide}

-- the next line, if there is one, is rejected
abbrev IsRefused : List OpenSection → List (CondLine Spot) → Type 0
IsRefused pending [] = Unit {0}
IsRefused pending (here ∷ after) = (fault : StructFault) × (turned pending here ≡ Err fault)

refused_stops : (front after : List (CondLine Spot)) (pending : List OpenSection) → turned_all [] front ≡ Ok pending → IsRefused pending after → Stops front after
refused_stops front [] pending turns refused = tt
refused_stops front (here ∷ after) pending turns (fault, refused) = λ close.
    let t = close_turns (front ++ here ∷ []) close in
    let goes : turned_all pending (here ∷ []) ≡ Ok t.0 = sym (run_on front (here ∷ []) [] pending turns) ∙ t.1 in
    let stops : turned_all pending (here ∷ []) ≡ Err fault = ap (λ x. x >>= λ next. turned_all next []) refused in
    cc

stops_refused : (front after : List (CondLine Spot)) (pending : List OpenSection) → turned_all [] front ≡ Ok pending → Stops front after → IsRefused pending after
stops_refused front [] pending turns stops = tt
stops_refused front (here ∷ after) pending turns stops = by_turn (turned pending here) refl
  where
    by_turn : (r : Result (List OpenSection) StructFault) → turned pending here ≡ r → (fault : StructFault) × (turned pending here ≡ Err fault)
    by_turn (Ok s) e = absurd (stops (turns_close (front ++ here ∷ []) (s, run_on front (here ∷ []) [] pending turns ∙ ap (λ x. x >>= λ next. turned_all next []) e)))
    by_turn (Err fault) e = (fault, e)

module _ {A : Type 0} (view : A → Spot) where
  abbrev seen : CondLine A → CondLine Spot
  seen here = line here.role (view here.item)

  carried_endifs : (ending : A) (n : ℕ) → carried view (endifs ending n) ≡ endifs (view ending) n
  carried_endifs ending zero = refl
  carried_endifs ending (suc n) = ap (λ x. line EndifLine (view ending) ∷ x) (carried_endifs ending n)

  carried_closed : (ending : A) (front : List (CondLine A)) (n : ℕ) → carried view (front ++ endifs ending n) ≡ carried view front ++ endifs (view ending) n
  carried_closed ending front n = map-append seen front (endifs ending n) ∙ ap (λ x. carried view front ++ x) (carried_endifs ending n)

  -- lines, as far as they are turned
  record Run (s : List OpenSection) (lines : List (CondLine A)) : Type 0 where
    front : List (CondLine A)
    after : List (CondLine A)
    pending : List OpenSection
    whole : lines ≡ front ++ after
    turns : turned_all s (carried view front) ≡ Ok pending
    refused : IsRefused pending (carried view after)

  run_step : (s : List OpenSection) (here : CondLine A) (lines : List (CondLine A)) (r : Result (List OpenSection) StructFault) → turned s (seen here) ≡ r →
      ((next : List OpenSection) → Run next lines) → Run s (here ∷ lines)
  run_step s here lines (Ok next) e go =
      let more = go next in
      record {
        front = here ∷ more.front;
        after = more.after;
        pending = more.pending;
        whole = ap (λ x. here ∷ x) more.whole;
        turns = ap (λ r. r >>= λ after. turned_all after (carried view more.front)) e ∙ more.turns;
        refused = more.refused;
      }
  run_step s here lines (Err fault) e go = record { front = []; after = here ∷ lines; pending = s; whole = refl; turns = refl; refused = (fault, e) }

  run_of : (lines : List (CondLine A)) (s : List OpenSection) → Run s lines
  run_of [] s = record { front = []; after = []; pending = s; whole = refl; turns = refl; refused = tt }
  run_of (here ∷ lines) s = run_step s here lines (turned s (seen here)) refl (run_of lines)

  pub closed_file : (ending : A) (lines : List (CondLine A)) → (tree : Group A) × Closes view ending lines tree
  closed_file ending lines =
      let r = run_of lines [] in
      let n = length r.pending in
      let ends : turned_all [] (carried view r.front ++ endifs (view ending) n) ≡ Ok [] =
      run_on (carried view r.front) (endifs (view ending) n) [] r.pending r.turns ∙ endifs_all (view ending) r.pending in
      let spots : HasTree (carried view (r.front ++ endifs ending n)) =
      run_tree (carried view (r.front ++ endifs ending n)) (ap (turned_all []) (carried_closed ending r.front n) ∙ ends) in
      let t = (roles_decide view (r.front ++ endifs ending n)).1 spots in (
        t.0,
        record {
          front = r.front;
          after = r.after;
          lacking = n;
          whole = r.whole;
          legal = turns_legal (carried view r.front) (r.pending, r.turns);
          stops = refused_stops (carried view r.front) (carried view r.after) r.pending r.turns r.refused;
          parses = t.1;
        },
      )

  -- a line is not both turned and rejected
  not_both : {S : Type 0} (s pending : List OpenSection) (here : CondLine Spot) (lines after : List (CondLine Spot)) → turned_all s (here ∷ lines) ≡ Ok pending → IsRefused s (here ∷ after) → S
  not_both s pending here lines after turns (fault, refused) =
      let b = bind_ok (turned s here) (λ next. turned_all next lines) pending turns in
      absurd (ok_not_err (sym b.1 ∙ refused))
    where
      ok_not_err : {x : List OpenSection} {f : StructFault} → ◌≡◌ {A = Result (List OpenSection) StructFault} (Ok x) (Err f) → ⊥
      ok_not_err e = cc

  -- lines end to be turned at one place only
  one_front : (front other after rest : List (CondLine A)) (s pending left : List OpenSection) → front ++ after ≡ other ++ rest →
      turned_all s (carried view front) ≡ Ok pending → IsRefused pending (carried view after) →
      turned_all s (carried view other) ≡ Ok left → IsRefused left (carried view rest) → front ≡ other
  one_front [] [] after rest s pending left is turns refused again stopped = refl
  one_front [] (here ∷ other) [] rest s pending left is turns refused again stopped = cc
  one_front [] (here ∷ other) (first ∷ after) rest s pending left is turns refused again stopped =
      let e : first ≡ here = cc in
      let stop : IsRefused s (seen here ∷ carried view after) = subst (λ h. IsRefused s (seen h ∷ carried view after)) e (subst (λ p. IsRefused p (seen first ∷ carried view after)) (sym (same_ok {E = StructFault} s pending turns)) refused) in
      not_both s left (seen here) (carried view other) (carried view after) again stop
  one_front (here ∷ front) [] after [] s pending left is turns refused again stopped = cc
  one_front (here ∷ front) [] after (first ∷ rest) s pending left is turns refused again stopped =
      let e : first ≡ here = cc in
      let stop : IsRefused s (seen here ∷ carried view rest) = subst (λ h. IsRefused s (seen h ∷ carried view rest)) e (subst (λ p. IsRefused p (seen first ∷ carried view rest)) (sym (same_ok {E = StructFault} s left again)) stopped) in
      not_both s pending (seen here) (carried view front) (carried view rest) turns stop
  one_front (here ∷ front) (first ∷ other) after rest s pending left is turns refused again stopped =
      let e : here ≡ first = cc in
      let more : front ++ after ≡ other ++ rest = cc in
      let b = bind_ok (turned s (seen here)) (λ next. turned_all next (carried view front)) pending turns in
      let d = bind_ok (turned s (seen first)) (λ next. turned_all next (carried view other)) left again in
      let same : d.0 ≡ b.0 = same_ok {E = StructFault} d.0 b.0 (sym d.1 ∙ ap (λ h. turned s (seen h)) (sym e) ∙ b.1) in
      let f : front ≡ other = one_front front other after rest b.0 pending left more b.2 refused (ap (λ x. turned_all x (carried view other)) (sym same) ∙ d.2) stopped in
      cc

  -- so many `#endif` lack after lines that are turned
  lacks : (ending : A) (front : List (CondLine A)) (n : ℕ) (pending : List OpenSection) → turned_all [] (carried view front) ≡ Ok pending → HasTree (front ++ endifs ending n) → length pending ≡ n
  lacks ending front n pending turns tree =
      let spots : HasTree (carried view (front ++ endifs ending n)) = (roles_decide view (front ++ endifs ending n)).0 tree in
      let ends : turned_all [] (carried view front ++ endifs (view ending) n) ≡ Ok [] =
      ap (turned_all []) (sym (carried_closed ending front n)) ∙ tree_run (carried view (front ++ endifs ending n)) spots in
      endifs_run (view ending) n pending (sym (run_on (carried view front) (endifs (view ending) n) [] pending turns) ∙ ends)

  pub closed_once : (ending : A) (lines : List (CondLine A)) (tree other : Group A) → Closes view ending lines tree → Closes view ending lines other → tree ≡ other
  closed_once ending lines tree other c d =
      let t = legal_turns (carried view c.front) c.legal in
      let u = legal_turns (carried view d.front) d.legal in
      let same : c.front ≡ d.front = one_front c.front d.front c.after d.after [] t.0 u.0 (sym c.whole ∙ d.whole) t.1
      (stops_refused (carried view c.front) (carried view c.after) t.0 t.1 c.stops) u.1
      (stops_refused (carried view d.front) (carried view d.after) u.0 u.1 d.stops) in
      let left : t.0 ≡ u.0 = same_ok {E = StructFault} t.0 u.0 (sym t.1 ∙ ap (λ x. turned_all [] (carried view x)) same ∙ u.1) in
      let count : c.lacking ≡ d.lacking = sym (lacks ending c.front c.lacking t.0 t.1 (tree, c.parses)) ∙ ap (λ (x : List OpenSection). length x) left ∙ lacks ending d.front d.lacking u.0 u.1 (other, d.parses) in
      let ends : c.front ++ endifs ending c.lacking ≡ d.front ++ endifs ending d.lacking = ap (λ x. x ++ endifs ending c.lacking) same ∙ ap (λ n. d.front ++ endifs ending n) count in
      one_tree (d.front ++ endifs ending d.lacking) tree other (c.parses ∙ ends) d.parses
