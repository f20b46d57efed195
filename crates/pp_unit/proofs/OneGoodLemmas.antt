-- Relations that have exactly one good answer, where some faults are not good: each way to put them together keeps this.
use Rattle.std.proofs.Common.{◌≡◌, ◌≢◌, ◌↔◌, ℕ, Bool, true, false, cond, List, [], ◌∷◌, Result, Ok, Err, refl, ap, ◌∙◌, subst}
use Rattle.mac_base.proofs.Choices.{same_ok}
use Rattle.pp_directives.specs.declared.fault.StructFault.{StructFault}
use Rattle.pp_directives.specs.declared.fault.StructFault.TheVariants.{ElseAfterElse, ElifAfterElse, OpenIf, NoMemory as StructRanOut}
use Rattle.pp_directives.specs.declared.conditional.open_section.OpenSection.{OpenSection}
use Rattle.pp_directives.specs.Groups.{LineRole, OtherLine, IfLine, ElifLine, ElseLine, EndifLine, CondLine, Spot}
use Rattle.pp_directives.specs.Conditions.{is_active, is_due, after_elif, after_else, turned_by}
use Rattle.pp_directives.specs.Following.{Ways, Then, Stops, Goes, Chosen, FollowsFile}
use Rattle.pp_directives.specs.Running.{RunState, Acts, Answers, after_turn, Turns, Steps, ended, Runs}
use Rattle.pp_directives.proofs.ThenLemmas.{same_err}
use Rattle.pp_directives.proofs.OneLemmas.{lines_run}

-- an answer without a fault, or with one that is sound
abbrev pub Good : {F S : Type 0} → (F → Type 0) → Result S F → Type 0
Good Sound (Ok s) = Unit {0}
Good Sound (Err fault) = Sound fault

-- exactly one answer that is good in a weak sense, and it is so in a strong one
pub record One {F S : Type 0} (Weak Strong : F → Type 0) (P : Result S F → Type 0) : Type 0 where
  pub answer : Result S F
  pub good : Good Strong answer
  pub holds : P answer
  pub only : (r : Result S F) → Good Weak r → P r → r ≡ answer

-- a function's answer
pub equal_one : {F S : Type 0} (Weak Strong : F → Type 0) (x : Result S F) → Good Strong x → One Weak Strong (λ r. r ≡ x)
equal_one Weak Strong x good = record { answer = x; good = good; holds = refl; only = λ r g is. is }

pub cond_good : {F S : Type 0} (Sound : F → Type 0) (t : Bool) (x y : Result S F) → Good Sound x → Good Sound y → Good Sound (cond t x y)
cond_good Sound true x y a b = a
cond_good Sound false x y a b = b

-- the same relation in other words
pub same_one : {F S : Type 0} {Weak Strong : F → Type 0} {P Q : Result S F → Type 0} → ((r : Result S F) → P r ↔ Q r) → One Weak Strong P → One Weak Strong Q
same_one same one = record {
  answer = one.answer;
  good = one.good;
  holds = (same one.answer).0 one.holds;
  only = λ r g q. one.only r g ((same r).1 q);
}

-- the answers of a relation, seen by a function that keeps what is good
pub mapped_one : {F G A B : Type 0} (Weak Strong : F → Type 0) (Loose Tight : G → Type 0) (P : Result A F → Type 0) (f : Result A F → Result B G) →
    ((a : Result A F) → Good Strong a → Good Tight (f a)) → ((a : Result A F) → Good Loose (f a) → Good Weak a) →
    One Weak Strong P → One Loose Tight (λ r. (a : Result A F) × P a × (r ≡ f a))
mapped_one Weak Strong Loose Tight P f on back one = record {
  answer = f one.answer;
  good = on one.answer one.good;
  holds = (one.answer, one.holds, refl);
  only = λ r g h. h.2 ∙ ap f (one.only h.0 (back h.0 (subst (Good Loose) h.2 g)) h.1);
}

module _ {F : Type 0} (Weak Strong : F → Type 0) where
  -- the one or the other
  pub chosen_one : {S : Type 0} (Taken Left : Result S F → Type 0) (t : Bool) → One Weak Strong Taken → One Weak Strong Left → One Weak Strong (Chosen Taken Left t)
  chosen_one Taken Left true one other = one
  chosen_one Taken Left false one other = other

  module _ {S T : Type 0} (P : Result S F → Type 0) (N : S → Result T F → Type 0) where
    goes_only : (s : S) (n : Result T F) → ((r : Result S F) → Good Weak r → P r → r ≡ Ok s) → ((r : Result T F) → Good Weak r → N s r → r ≡ n) →
        (r : Result T F) → Good Weak r → Then P N r → r ≡ n
    goes_only s n first next _ g (Stops {fault = f} stop) = let e : ◌≡◌ {A = Result S F} (Err f) (Ok s) = first (Err f) g stop in cc
    goes_only s n first next _ g (Goes {s = t} {r = r} go more) = next r g (subst (λ x. N x r) (same_ok {E = F} t s (first (Ok t) tt go)) more)

    stops_only : (f : F) → ((r : Result S F) → Good Weak r → P r → r ≡ Err f) → (r : Result T F) → Good Weak r → Then P N r → r ≡ Err f
    stops_only f first _ g (Stops {fault = e} stop) = ap (λ x. Err x) (same_err {A = S} e f (first (Err e) g stop))
    stops_only f first _ g (Goes {s = t} go more) = let e : ◌≡◌ {A = Result S F} (Ok t) (Err f) = first (Ok t) tt go in cc

    then_by : (a : Result S F) → Good Strong a → P a → ((r : Result S F) → Good Weak r → P r → r ≡ a) → ((s : S) → One Weak Strong (N s)) → One Weak Strong (Then P N)
    then_by (Ok s) good holds only next =
        let n = next s in
        record { answer = n.answer; good = n.good; holds = Goes holds n.holds; only = goes_only s n.answer only n.only }
    then_by (Err f) good holds only next = record { answer = Err f; good = good; holds = Stops holds; only = stops_only f only }

    -- the first, and then the next
    pub then_one : One Weak Strong P → ((s : S) → One Weak Strong (N s)) → One Weak Strong (Then P N)
    then_one first next = then_by first.answer first.good first.holds first.only next

-- a fault of the structure that is no want of memory
abbrev pub PlainStruct : StructFault → Type 0
PlainStruct fault = fault ≢ StructRanOut

turned_plain : (role : LineRole) (spot : Spot) (pending : List OpenSection) → Good PlainStruct (turned_by role spot pending)
turned_plain OtherLine spot pending = tt
turned_plain IfLine spot pending = tt
turned_plain ElifLine spot [] = λ e. cc
turned_plain ElifLine spot (o ∷ others) = cond_good PlainStruct o.has_else (Err ElifAfterElse) (Ok (after_elif spot.answer o ∷ others)) (λ e. cc) tt
turned_plain ElseLine spot [] = λ e. cc
turned_plain ElseLine spot (o ∷ others) = cond_good PlainStruct o.has_else (Err ElseAfterElse) (Ok (after_else o ∷ others)) (λ e. cc) tt
turned_plain EndifLine spot [] = λ e. cc
turned_plain EndifLine spot (o ∷ others) = tt

-- lines in these ways, where each line and each condition comes to one thing, and each fault of the structure is good
module _ {A S F : Type 0} (Weak Strong : F → Type 0) (ways : Ways A S F) (does : (here : A) (s : S) → One Weak Strong (ways.Does here s)) (asks : (here : A) (s : S) → One Weak Strong (ways.Asks here s))
    (breaks : (fault : StructFault) (number : ℕ) → PlainStruct fault → Strong (ways.breaks fault number)) where
  acts_one : (active : Bool) (here : A) (s : S) → One Weak Strong (Acts ways active here s)
  acts_one true here s = does here s
  acts_one false here s = equal_one Weak Strong (Ok (ways.passes here s)) tt

  answers_one : (due : Bool) (here : A) (s : S) → One Weak Strong (Answers ways due here s)
  answers_one true here s = asks here s
  answers_one false here s = equal_one Weak Strong (Ok false) tt

  turn_good : (here : A) (s : S) (t : Result (List OpenSection) StructFault) → Good PlainStruct t → Good Strong (after_turn ways here s t)
  turn_good here s (Ok pending) plain = tt
  turn_good here s (Err fault) plain = breaks fault (ways.spot here) plain

  turns_one : (role : LineRole) (here : A) (at : RunState S) → One Weak Strong (Turns ways role here at)
  turns_one role here at =
      then_one Weak Strong (Answers ways (is_due role at.pending) here at.state) (λ answer r. r ≡ after_turn ways here at.state (turned_by role (record { number = ways.spot here; answer = answer }) at.pending))
      (answers_one (is_due role at.pending) here at.state)
      (λ answer. equal_one Weak Strong (after_turn ways here at.state (turned_by role (record { number = ways.spot here; answer = answer }) at.pending)) (turn_good here at.state (turned_by role (record { number = ways.spot here; answer = answer }) at.pending) (turned_plain role (record { number = ways.spot here; answer = answer }) at.pending)))

  steps_one : (role : LineRole) (here : A) (at : RunState S) → One Weak Strong (Steps ways role here at)
  steps_one OtherLine here at =
      then_one Weak Strong (Acts ways (is_active at.pending) here at.state) (λ t q. q ≡ Ok (record { pending = at.pending; state = t }))
      (acts_one (is_active at.pending) here at.state) (λ t. equal_one Weak Strong (Ok (record { pending = at.pending; state = t })) tt)
  steps_one IfLine here at = turns_one IfLine here at
  steps_one ElifLine here at = turns_one ElifLine here at
  steps_one ElseLine here at = turns_one ElseLine here at
  steps_one EndifLine here at = turns_one EndifLine here at

  end_good : (p : List OpenSection) (s : S) → Good Strong (ended ways p s)
  end_good [] s = tt
  end_good (innermost ∷ others) s = breaks OpenIf innermost.line (λ e. cc)

  runs_one : (lines : List (CondLine A)) (p : List OpenSection) (s : S) → One Weak Strong (Runs ways p lines s)
  runs_one [] p s = equal_one Weak Strong (ended ways p s) (end_good p s)
  runs_one (here ∷ lines) p s =
      then_one Weak Strong (Steps ways here.role here.item (record { pending = p; state = s })) (λ at. Runs ways at.pending lines at.state)
      (steps_one here.role here.item (record { pending = p; state = s })) (λ at. runs_one lines at.pending at.state)

  -- a file comes to one thing
  pub file_one : (lines : List (CondLine A)) (s : S) → One Weak Strong (FollowsFile ways lines s)
  file_one lines s = same_one (λ r. (lines_run ways).same lines s r) (runs_one lines [] s)
