-- Two neighbours are in one part exactly where both are changes inside an included file.
use Rattle.std.proofs.Common.{◌≡◌, ℕ, Bool, true, false, cond, ◌&&◌, List, [], ◌∷◌, ◌++◌, refl, ap, subst, sym, ◌∙◌}
use Rattle.std.specs.Bool.{MatchBool}
use Rattle.std.specs.List.{fold}
use Rattle.mac_base.specs.declared.events.Event.{Event}
use Rattle.unit_splitter.specs.Split.{is_change, is_included, depth_after, before_parts, parts_from, parts_of}
use Rattle.unit_splitter.specs.Laws.{together, belong, HasRound, AreInOnePart, ArePartedBetween, PartsAreLongest}
use Rattle.unit_splitter.proofs.RestoringLemmas.{whole}

-- a tail of a part, and the parts after it, with these events before the tail
StandsIn : List Event → List (List Event) → List Event → List (List Event) → Type 0
StandsIn front parts tail rest = (before : List (List Event)) × (left : List Event) × (parts ≡ before ++ (left ++ tail) ∷ rest) × (front ≡ together before ++ left)

in_first : (b : Bool) (event first : Event) (left ts : List Event) (rest : List (List Event)) (tail : List Event) → left ++ tail ≡ first ∷ ts → StandsIn (event ∷ left) (cond b ((event ∷ first ∷ ts) ∷ rest) ((event ∷ []) ∷ (first ∷ ts) ∷ rest)) tail rest
unfolding StandsIn
in_first true event first left ts rest tail is = ([], event ∷ left, ap (λ (xs : List Event). (event ∷ xs) ∷ rest) (sym is), refl)
in_first false event first left ts rest tail is = ((event ∷ []) ∷ [], left, ap (λ (xs : List Event). (event ∷ []) ∷ xs ∷ rest) (sym is), refl)

in_later : (b : Bool) (event first : Event) (more : List Event) (before : List (List Event)) (left tail : List Event) (rest : List (List Event)) →
    StandsIn (event ∷ (together ((first ∷ more) ∷ before) ++ left)) (cond b ((event ∷ first ∷ more) ∷ (before ++ (left ++ tail) ∷ rest)) ((event ∷ []) ∷ (first ∷ more) ∷ (before ++ (left ++ tail) ∷ rest))) tail rest
unfolding StandsIn
in_later true event first more before left tail rest = ((event ∷ first ∷ more) ∷ before, left, refl, refl)
in_later false event first more before left tail rest = ((event ∷ []) ∷ (first ∷ more) ∷ before, left, refl, refl)

-- an event before the parts changes neither the tail nor what is after it
one_more : (joins : Bool) (event : Event) (before : List (List Event)) (left : List Event) (t : Event) (ts : List Event) (rest : List (List Event)) → StandsIn (event ∷ (together before ++ left)) (before_parts joins event (before ++ (left ++ t ∷ ts) ∷ rest)) (t ∷ ts) rest
unfolding StandsIn
one_more joins event [] [] t ts rest = in_first (joins && is_change t) event t [] ts rest (t ∷ ts) refl
one_more joins event [] (first ∷ left) t ts rest = in_first (joins && is_change first) event first (first ∷ left) (left ++ t ∷ ts) rest (t ∷ ts) refl
one_more joins event ([] ∷ before) left t ts rest = ((event ∷ []) ∷ [] ∷ before, left, refl, refl)
one_more joins event ((first ∷ more) ∷ before) left t ts rest = in_later (joins && is_change first) event first more before left (t ∷ ts) rest

step : (joins : Bool) (event : Event) (front : List Event) (parts : List (List Event)) (t : Event) (ts : List Event) (rest : List (List Event)) → StandsIn front parts (t ∷ ts) rest → StandsIn (event ∷ front) (before_parts joins event parts) (t ∷ ts) rest
unfolding StandsIn
step joins event front parts t ts rest (before, left, parts_are, front_is) =
    subst (λ (es : List Event). StandsIn (event ∷ es) (before_parts joins event parts) (t ∷ ts) rest) (sym front_is)
    (subst (λ (ps : List (List Event)). StandsIn (event ∷ (together before ++ left)) (before_parts joins event ps) (t ∷ ts) rest) (sym parts_are) (one_more joins event before left t ts rest))

-- the parts begin with a part that begins with the event
Begins : Event → List (List Event) → Type 0
Begins event parts = (right : List Event) × (after : List (List Event)) × (parts ≡ (event ∷ right) ∷ after)

begins_by : (b : Bool) (event first : Event) (more : List Event) (parts : List (List Event)) → Begins event (cond b ((event ∷ first ∷ more) ∷ parts) ((event ∷ []) ∷ (first ∷ more) ∷ parts))
unfolding Begins
begins_by true event first more parts = (first ∷ more, parts, refl)
begins_by false event first more parts = ([], (first ∷ more) ∷ parts, refl)

begins : (joins : Bool) (event : Event) (parts : List (List Event)) → Begins event (before_parts joins event parts)
unfolding Begins
begins joins event [] = ([], [], refl)
begins joins event ([] ∷ parts) = ([], [] ∷ parts, refl)
begins joins event ((first ∷ more) ∷ parts) = begins_by (joins && is_change first) event first more parts

-- Two neighbours by whether they belong together: what a part has from the first on, and the parts after it.
abbrev tail_of : Bool → Event → Event → List Event → List Event
tail_of joined one other right = one ∷ cond joined (other ∷ right) []

abbrev rest_of : Bool → Event → List Event → List (List Event) → List (List Event)
rest_of joined other right after = cond joined after ((other ∷ right) ∷ after)

-- and where both stand
IsCut : Bool → List Event → Event → Event → List Event → List (List Event) → Type 0
IsCut joined front one other back parts = (right : List Event) × (after : List (List Event)) × (back ≡ right ++ together after) × StandsIn front parts (tail_of joined one other right) (rest_of joined other right after)

cut_by : (joined : Bool) (one other : Event) (right : List Event) (after : List (List Event)) → StandsIn [] (cond joined ((one ∷ other ∷ right) ∷ after) ((one ∷ []) ∷ (other ∷ right) ∷ after)) (tail_of joined one other right) (rest_of joined other right after)
unfolding StandsIn
cut_by true one other right after = ([], [], refl, refl)
cut_by false one other right after = ([], [], refl, refl)

first_cut : (joins : Bool) (one other : Event) (back : List Event) (parts : List (List Event)) → together parts ≡ other ∷ back → Begins other parts → IsCut (joins && is_change other) [] one other back (before_parts joins one parts)
unfolding IsCut Begins
first_cut joins one other back parts are (right, after, begun) =
    let all : other ∷ (right ++ together after) ≡ other ∷ back = sym (ap together begun) ∙ are in
    let same : back ≡ right ++ together after = cc in (
      right,
      after,
      same,
      subst (λ (ps : List (List Event)). StandsIn [] (before_parts joins one ps) (tail_of (joins && is_change other) one other right) (rest_of (joins && is_change other) other right after)) (sym begun)
          (cut_by (joins && is_change other) one other right after),
    )

cut_more : (joined joins : Bool) (event : Event) (front : List Event) (one other : Event) (back : List Event) (parts : List (List Event)) → IsCut joined front one other back parts → IsCut joined (event ∷ front) one other back (before_parts joins event parts)
unfolding IsCut
cut_more joined joins event front one other back parts (right, after, same, stands) =
    (right, after, same, step joins event front parts one (cond joined (other ∷ right) []) (rest_of joined other right after) stands)

is_cut : (front : List Event) (depth : ℕ) (one other : Event) (back : List Event) → IsCut ((is_included (fold depth_after depth front) && is_change one) && is_change other) front one other back (parts_from depth (front ++ one ∷ other ∷ back))
unfolding parts_from
is_cut [] depth one other back =
    let next = depth_after depth one in
    first_cut (is_included depth && is_change one) one other back (parts_from next (other ∷ back)) (whole (other ∷ back) next)
    (begins (is_included next && is_change other) other (parts_from (depth_after next other) back))
is_cut (event ∷ front) depth one other back =
    cut_more ((is_included (fold depth_after (depth_after depth event) front) && is_change one) && is_change other) (is_included depth && is_change event) event front one other back
    (parts_from (depth_after depth event) (front ++ one ∷ other ∷ back)) (is_cut front (depth_after depth event) one other back)

told : (joined : Bool) (front : List Event) (one other : Event) (back : List Event) (parts : List (List Event)) → IsCut joined front one other back parts → MatchBool joined (AreInOnePart front one other back parts) (ArePartedBetween front one other back parts)
unfolding IsCut StandsIn
told true front one other back parts (right, after, same, (before, left, are, front_is)) =
    record { before = before; left = left; right = right; after = after; round = record { front_is = front_is; back_is = same }; parts_are = are }
told false front one other back parts (right, after, same, (before, left, are, front_is)) =
    record { before = before; left = left; right = right; after = after; round = record { front_is = front_is; back_is = same }; parts_are = are }

-- parts are as long as can be
pub longest : PartsAreLongest
longest front back one other = told (belong front one other) front one other back (parts_of (front ++ one ∷ other ∷ back)) (is_cut front 0 one other back)
