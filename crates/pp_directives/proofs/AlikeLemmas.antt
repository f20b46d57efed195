-- Sections that are pending alike, whatever the answers were: what a line does to the structure.
use Rattle.std.proofs.Common.{◌≡◌, ℕ, suc, Bool, true, false, cond, not, ◌&&◌, List, [], ◌∷◌, length, Result, Ok, Err, refl, sym, ap, subst}
use Rattle.mac_base.proofs.Choices.{same_ok, bind_ok}
use Rattle.pp_directives.specs.declared.fault.StructFault.{StructFault}
use Rattle.pp_directives.specs.declared.fault.StructFault.TheVariants.{ElseAfterElse, ElifAfterElse}
use Rattle.pp_directives.specs.declared.conditional.open_section.OpenSection.{OpenSection}
use Rattle.pp_directives.specs.Groups.{LineRole, OtherLine, IfLine, ElifLine, ElseLine, EndifLine, CondLine, carried}
use Rattle.pp_directives.specs.Conditions.{after_elif, after_else, turned_by, turned_all}
use Rattle.pp_directives.specs.Following.{Ways, Stops, Goes, spot_of}
use Rattle.pp_directives.specs.Running.{RunState, after_turn, Turns, Steps}
use Rattle.pp_directives.proofs.ThenLemmas.{Same, then_after}
use Rattle.pp_directives.proofs.IntoLemmas.{Into, stand, spotted}

-- two sections that differ in their answers at most; after its `#else` the first waits no more
pub record AlikeOne (o u : OpenSection) : Type 0 where
  pub line : o.line ≡ u.line
  pub has_else : o.has_else ≡ u.has_else
  pub settled : o.has_else ≡ true → o.waiting ≡ false

abbrev pub Alike : List OpenSection → List OpenSection → Type 0
Alike [] [] = Unit {0}
Alike [] (u ∷ q) = ⊥
Alike (o ∷ p) [] = ⊥
Alike (o ∷ p) (u ∷ q) = AlikeOne o u × Alike p q

-- turned alike, or rejected alike
abbrev pub AlikeTurns : Result (List OpenSection) StructFault → Result (List OpenSection) StructFault → Type 0
AlikeTurns (Ok p) (Ok q) = Alike p q
AlikeTurns (Ok p) (Err e) = ⊥
AlikeTurns (Err f) (Ok q) = ⊥
AlikeTurns (Err f) (Err e) = f ≡ e

-- a section where no `#else` was, or the fault
guarded_alike : (a b : Bool) (f : StructFault) (p q : List OpenSection) → a ≡ b → (a ≡ false → Alike p q) → AlikeTurns (cond {A = Result (List OpenSection) StructFault} a (Err f) (Ok p)) (cond {A = Result (List OpenSection) StructFault} b (Err f) (Ok q))
guarded_alike true true f p q e go = refl
guarded_alike false false f p q e go = go refl
guarded_alike true false f p q e go = cc
guarded_alike false true f p q e go = cc

-- a line of one role and number, with different answers
pub turned_alike : (role : LineRole) (n : ℕ) (a b : Bool) (p q : List OpenSection) → Alike p q →
    AlikeTurns (turned_by role (record { number = n; answer = a }) p) (turned_by role (record { number = n; answer = b }) q)
turned_alike OtherLine n a b p q h = h
turned_alike IfLine n a b p q h = (record { line = refl; has_else = refl; settled = λ e. cc }, h)
turned_alike ElifLine n a b [] [] h = refl
turned_alike ElifLine n a b [] (u ∷ q) h = absurd h
turned_alike ElifLine n a b (o ∷ p) [] h = absurd h
turned_alike ElifLine n a b (o ∷ p) (u ∷ q) h =
    let one = h.0 in
    guarded_alike o.has_else u.has_else ElifAfterElse (after_elif a o ∷ p) (after_elif b u ∷ q) one.has_else
    (λ e. (record { line = one.line; has_else = one.has_else; settled = λ t. ap (λ w. w && not a) (one.settled t) }, h.1))
turned_alike ElseLine n a b [] [] h = refl
turned_alike ElseLine n a b [] (u ∷ q) h = absurd h
turned_alike ElseLine n a b (o ∷ p) [] h = absurd h
turned_alike ElseLine n a b (o ∷ p) (u ∷ q) h =
    let one = h.0 in
    guarded_alike o.has_else u.has_else ElseAfterElse (after_else o ∷ p) (after_else u ∷ q) one.has_else
    (λ e. (record { line = one.line; has_else = refl; settled = λ t. refl }, h.1))
turned_alike EndifLine n a b [] [] h = refl
turned_alike EndifLine n a b [] (u ∷ q) h = absurd h
turned_alike EndifLine n a b (o ∷ p) [] h = absurd h
turned_alike EndifLine n a b (o ∷ p) (u ∷ q) h = h.1

-- what was turned where its like was
alike_ok : (t : Result (List OpenSection) StructFault) (q : List OpenSection) → AlikeTurns t (Ok q) → (p : List OpenSection) × (t ≡ Ok p) × Alike p q
alike_ok (Ok p) q h = (p, refl, h)
alike_ok (Err f) q h = absurd h

pub alike_err : (t : Result (List OpenSection) StructFault) (f : StructFault) → AlikeTurns t (Err f) → t ≡ Err f
alike_err (Ok p) f h = absurd h
alike_err (Err e) f h = ap (λ x. Err x) h

pub alike_length : (p q : List OpenSection) → Alike p q → length p ≡ length q
alike_length [] [] h = refl
alike_length [] (u ∷ q) h = absurd h
alike_length (o ∷ p) [] h = absurd h
alike_length (o ∷ p) (u ∷ q) h = ap suc (alike_length p q h.1)

module _ {A S F : Type 0} (ways : Ways A S F) where
  -- what is pending after a line that was stepped over is alike what its spot leaves
  abbrev StepsAlike : Result (RunState S) F → List OpenSection → Type 0
  StepsAlike (Ok at) q = Alike at.pending q
  StepsAlike (Err f) q = Unit {0}

  after_alike : (here : A) (s : S) (t : Result (List OpenSection) StructFault) (q : List OpenSection) (r : Result (RunState S) F) → AlikeTurns t (Ok q) → r ≡ after_turn ways here s t → StepsAlike r q
  after_alike here s (Ok p) q r h is = subst (λ x. StepsAlike x q) (sym is) h
  after_alike here s (Err f) q r h is = absurd h

  turns_alike : (role : LineRole) (here : A) (p q next : List OpenSection) (s : S) (r : Result (RunState S) F) → Alike p q → turned_by role (spot_of ways here) q ≡ Ok next → Turns ways role here (stand ways p s) r → StepsAlike r next
  turns_alike role here p q next s _ h is (Stops stop) = tt
  turns_alike role here p q next s _ h is (Goes {s = answer} {r = r} given step) =
      after_alike here s (turned_by role (spotted ways here answer) p) next r
      (subst (λ x. AlikeTurns (turned_by role (spotted ways here answer) p) x) is (turned_alike role (ways.spot here) answer false p q h)) step

  acts_alike : (here : A) (p q next : List OpenSection) (s : S) (r : Result (RunState S) F) → Alike p q → q ≡ next → Steps ways OtherLine here (stand ways p s) r → StepsAlike r next
  acts_alike here p q next s _ h is (Stops stop) = tt
  acts_alike here p q next s _ h is (Goes {s = t} {r = r} given step) = subst (λ x. StepsAlike x next) (sym step) (subst (Alike p) is h)

  steps_alike : (role : LineRole) (here : A) (p q next : List OpenSection) (s : S) (r : Result (RunState S) F) → Alike p q → turned_by role (spot_of ways here) q ≡ Ok next → Steps ways role here (stand ways p s) r → StepsAlike r next
  steps_alike OtherLine here p q next s r h is step = acts_alike here p q next s r h (same_ok {E = StructFault} q next is) step
  steps_alike IfLine here p q next s r h is step = turns_alike IfLine here p q next s r h is step
  steps_alike ElifLine here p q next s r h is step = turns_alike ElifLine here p q next s r h is step
  steps_alike ElseLine here p q next s r h is step = turns_alike ElseLine here p q next s r h is step
  steps_alike EndifLine here p q next s r h is step = turns_alike EndifLine here p q next s r h is step

  -- what comes at the end of lines matters only for what may be pending there
  pub into_alike : (End Fin : List OpenSection → S → Result S F → Type 0) (lines : List (CondLine A)) (p q last : List OpenSection) (s : S) →
      Alike p q → turned_all q (carried (spot_of ways) lines) ≡ Ok last → ((x : List OpenSection) (t : S) → Alike x last → Same (End x t) (Fin x t)) →
      Same (Into ways End p lines s) (Into ways Fin p lines s)
  into_alike End Fin [] p q last s h is ends = ends p s (subst (Alike p) (same_ok {E = StructFault} q last is) h)
  into_alike End Fin (here ∷ lines) p q last s h is ends =
      let b = bind_ok (turned_by here.role (spot_of ways here.item) q) (λ next. turned_all next (carried (spot_of ways) lines)) last is in
      then_after (Steps ways here.role here.item (stand ways p s)) (λ at. Into ways End at.pending lines at.state) (λ at. Into ways Fin at.pending lines at.state)
      (λ at step. into_alike End Fin lines at.pending b.0 last at.state (steps_alike here.role here.item p q b.0 s (Ok at) h b.1 step) b.2 ends)
