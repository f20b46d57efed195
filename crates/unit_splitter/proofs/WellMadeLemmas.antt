-- Pieces are runs of changes, and not too many; imports name pieces.
use Rattle.std.proofs.Common.{◌≡◌, ℕ, suc, ◌<◌, ◌≤◌, Bool, true, false, cond, ◌&&◌, ◌||◌, List, [], ◌∷◌, ◌++◌, length, map, take, zero, Option, Some, None, refl, ap, sym, ◌∙◌, arith}
use Rattle.std.specs.Prelude.{position, nat_le}
use Rattle.std.specs.List.{flat_map, filter, list_any, AllByRecursion, IsDistinct}
use Rattle.std.proofs.lemmas.Bool.Decides.{nat_tests}
use Rattle.std.proofs.lemmas.List.{length-take}
use Rattle.std.proofs.lemmas.List.Folds.{list_any-append}
use Rattle.std.proofs.lemmas.List.Quantifiers.{position-Some}
use Rattle.mac_base.specs.declared.events.Event.{Event}
use Rattle.unit_splitter.specs.declared.root.RootEntry.{RootEntry}
use Rattle.unit_splitter.specs.declared.root.RootEntry.TheVariants.{Own, Import}
use Rattle.unit_splitter.specs.declared.pieces.Piece.{Piece}
use Rattle.unit_splitter.specs.Split.{same_part, is_change, is_included, depth_after, is_run, before_parts, parts_from, parts_of, different_runs, pieces_of, piece_limit, number_in, entries_as, split_of}
use Rattle.unit_splitter.specs.Laws.{IsRunOfChanges, IsThere, IsWellMade, SplitsAreWellMade}

abbrev Changes : List Event → Type 0
Changes events = AllByRecursion (λ event. is_change event ≡ true) events

-- all of a part of two or more are changes
Good : List Event → Type 0
Good [] = Unit {0}
Good (first ∷ []) = Unit {0}
Good (first ∷ second ∷ more) = Changes (first ∷ second ∷ more)

changes_of : (first : Event) (more : List Event) → is_change first ≡ true → Good (first ∷ more) → Changes (first ∷ more)
unfolding Good
changes_of first [] is good = (is, tt)
changes_of first (second ∷ more) is good = good

joined_good : (event first : Event) (more : List Event) (parts : List (List Event)) (first_is : Bool) (joins : Bool) → is_change first ≡ first_is → (joins ≡ true → is_change event ≡ true) → Good (first ∷ more) → AllByRecursion Good parts
    → AllByRecursion Good (cond (joins && first_is) ((event ∷ first ∷ more) ∷ parts) ((event ∷ []) ∷ (first ∷ more) ∷ parts))
unfolding Good
joined_good event first more parts true true is to good are = ((to refl, changes_of first more is good), are)
joined_good event first more parts false true is to good are = (tt, (good, are))
joined_good event first more parts first_is false is to good are = (tt, (good, are))

before_good : (joins : Bool) (event : Event) (parts : List (List Event)) → (joins ≡ true → is_change event ≡ true) → AllByRecursion Good parts → AllByRecursion Good (before_parts joins event parts)
unfolding Good
before_good joins event [] to are = (tt, tt)
before_good joins event ([] ∷ parts) to are = (tt, are)
before_good joins event ((first ∷ more) ∷ parts) to are = joined_good event first more parts (is_change first) joins refl to are.0 are.1

second_of : (a b : Bool) → (a && b) ≡ true → b ≡ true
second_of true b is = is
second_of false b is = cc

parts_good : (events : List Event) (depth : ℕ) → AllByRecursion Good (parts_from depth events)
unfolding parts_from
parts_good [] depth = tt
parts_good (event ∷ events) depth =
    before_good (is_included depth && is_change event) event (parts_from (depth_after depth event) events) (second_of (is_included depth) (is_change event)) (parts_good events (depth_after depth event))

Run : List Event → Type 0
Run part = (2 ≤ length part) × Changes part

at_least : (n : ℕ) → nat_le 2 n ≡ true → 2 ≤ n
at_least n is = grind (arith, nat_tests)

good_run : (part : List Event) → is_run part ≡ true → Good part → Run part
unfolding Run Good
good_run [] is good = absurd (omega (arith, at_least 0 is))
good_run (first ∷ []) is good = absurd (omega (arith, at_least 1 is))
good_run (first ∷ second ∷ more) is good = (at_least (length (first ∷ second ∷ more)) is, good)

filtered_by : (part : List Event) (rest : List (List Event)) (run : Bool) → is_run part ≡ run → Good part → AllByRecursion Run rest → AllByRecursion Run (cond run (part ∷ rest) rest)
filtered_by part rest true is good are = (good_run part is good, are)
filtered_by part rest false is good are = are

filtered : (parts : List (List Event)) → AllByRecursion Good parts → AllByRecursion Run (filter is_run parts)
filtered [] are = tt
filtered (part ∷ parts) are = filtered_by part (filter is_run parts) (is_run part) refl are.0 (filtered parts are.1)

different_by : (known : Bool) (run : List Event) (one other : List (List Event)) → Run run → AllByRecursion Run one → AllByRecursion Run other → AllByRecursion Run (cond known one (run ∷ other))
different_by true run one other is are others = are
different_by false run one other is are others = (is, others)

different : (runs before : List (List Event)) → AllByRecursion Run runs → AllByRecursion Run (different_runs before runs)
different [] before are = tt
different (run ∷ runs) before are =
    different_by (list_any (same_part run) before) run (different_runs before runs) (different_runs (before ++ run ∷ []) runs) are.0 (different runs before are.1) (different runs (before ++ run ∷ []) are.1)

made : (runs : List (List Event)) → AllByRecursion Run runs → AllByRecursion IsRunOfChanges (map (λ (run : List Event). record { entries = run }) runs)
unfolding Run
made [] are = tt
made (run ∷ runs) are = (record { long = are.0.0; changes = are.0.1 }, made runs are.1)

taken : (pieces : List Piece) (n : ℕ) → AllByRecursion IsRunOfChanges pieces → AllByRecursion IsRunOfChanges (take n pieces)
taken pieces zero are = tt
taken [] (suc n) are = tt
taken (piece ∷ pieces) (suc n) are = (are.0, taken pieces n are.1)

there_by : (pieces : List Piece) (part : List Event) (n : ℕ) (run : Bool) → cond run (position (λ (piece : Piece). same_part part piece.entries) pieces) None ≡ Some n → n < length pieces
there_by pieces part n true is = (position-Some (λ (piece : Piece). same_part part piece.entries) pieces n (record { entries = [] }) is).0
there_by pieces part n false is = cc

own_there : (count : ℕ) (part : List Event) (rest : List RootEntry) → AllByRecursion (IsThere count) rest → AllByRecursion (IsThere count) (map (λ event. Own event) part ++ rest)
own_there count [] rest are = are
own_there count (event ∷ events) rest are = (tt, own_there count events rest are)

part_there : (pieces : List Piece) (part : List Event) (o : Option ℕ) (rest : List RootEntry) → number_in pieces part ≡ o → AllByRecursion (IsThere (length pieces)) rest → AllByRecursion (IsThere (length pieces)) (entries_as o part ++ rest)
part_there pieces part (Some n) rest is are = (there_by pieces part n (is_run part) is, are)
part_there pieces part None rest is are = own_there (length pieces) part rest are

root_there : (pieces : List Piece) (parts : List (List Event)) → AllByRecursion (IsThere (length pieces)) (flat_map (λ part. entries_as (number_in pieces part) part) parts)
root_there pieces [] = tt
root_there pieces (part ∷ parts) = part_there pieces part (number_in pieces part) (flat_map (λ part. entries_as (number_in pieces part) part) parts) refl (root_there pieces parts)

few : (n : ℕ) (pieces : List Piece) → length (take n pieces) ≤ n
few n pieces = grind (arith, length-take n pieces)

-- no run is equal to one before it
neither : (a b : Bool) → (a || b) ≡ false → (a ≡ false) × (b ≡ false)
neither true b is = cc
neither false b is = (refl, is)

apart_of : (run other : List Event) (before : List (List Event)) → list_any (same_part run) (before ++ other ∷ []) ≡ false → (list_any (same_part run) before ≡ false) × (same_part run other ≡ false)
apart_of run other before is =
    let both = neither (list_any (same_part run) before) (same_part run other || false) (sym (list_any-append (same_part run) before (other ∷ [])) ∙ is) in
    (both.0, (neither (same_part run other) false both.1).0)

Apart : List (List Event) → List Event → Type 0
Apart before run = list_any (same_part run) before ≡ false

earlier : (before runs : List (List Event)) (other : List Event) → AllByRecursion (Apart (before ++ other ∷ [])) runs → AllByRecursion (Apart before) runs
unfolding Apart
earlier before [] other are = tt
earlier before (run ∷ runs) other are = ((apart_of run other before are.0).0, earlier before runs other are.1)

last : (before runs : List (List Event)) (other : List Event) → AllByRecursion (Apart (before ++ other ∷ [])) runs → AllByRecursion (λ run. same_part run other ≡ false) runs
unfolding Apart
last before [] other are = tt
last before (run ∷ runs) other are = ((apart_of run other before are.0).1, last before runs other are.1)

apart_by : (known : Bool) (before one other : List (List Event)) (run : List Event) → list_any (same_part run) before ≡ known → AllByRecursion (Apart before) one → AllByRecursion (Apart (before ++ run ∷ [])) other → AllByRecursion (Apart before) (cond known one (run ∷ other))
unfolding Apart
apart_by true before one other run is are others = are
apart_by false before one other run is are others = (is, earlier before other run others)

apart : (runs before : List (List Event)) → AllByRecursion (Apart before) (different_runs before runs)
apart [] before = tt
apart (run ∷ runs) before =
    apart_by (list_any (same_part run) before) before (different_runs before runs) (different_runs (before ++ run ∷ []) runs) run refl (apart runs before) (apart runs (before ++ run ∷ []))

distinct_by : (known : Bool) (before one other : List (List Event)) (run : List Event) → IsDistinct (λ a b. same_part b a) one → AllByRecursion (Apart (before ++ run ∷ [])) other → IsDistinct (λ a b. same_part b a) other → IsDistinct (λ a b. same_part b a) (cond known one (run ∷ other))
unfolding IsDistinct
distinct_by true before one other run are others more = are
distinct_by false before one other run are others more = (last before other run others, more)

distinct : (runs before : List (List Event)) → IsDistinct (λ a b. same_part b a) (different_runs before runs)
unfolding IsDistinct
distinct [] before = tt
distinct (run ∷ runs) before =
    distinct_by (list_any (same_part run) before) before (different_runs before runs) (different_runs (before ++ run ∷ []) runs) run (distinct runs before) (apart runs (before ++ run ∷ [])) (distinct runs (before ++ run ∷ []))

all_made : (run : List Event) (runs : List (List Event)) (n : ℕ) → AllByRecursion (λ other. same_part other run ≡ false) runs → AllByRecursion (λ (piece : Piece). same_part piece.entries run ≡ false) (take n (map (λ (r : List Event). record { entries = r }) runs))
all_made run runs zero are = tt
all_made run [] (suc n) are = tt
all_made run (other ∷ runs) (suc n) are = (are.0, all_made run runs n are.1)

distinct_made : (runs : List (List Event)) (n : ℕ) → IsDistinct (λ a b. same_part b a) runs → IsDistinct (λ (one other : Piece). same_part other.entries one.entries) (take n (map (λ (run : List Event). record { entries = run }) runs))
unfolding IsDistinct
distinct_made runs zero are = tt
distinct_made [] (suc n) are = tt
distinct_made (run ∷ runs) (suc n) are = (all_made run runs n are.0, distinct_made runs n are.1)

pub well_made : SplitsAreWellMade
unfolding split_of
well_made events =
    record {
      few = few piece_limit (map (λ (run : List Event). record { entries = run }) (different_runs [] (filter is_run (parts_of events))));
      runs = taken (map (λ (run : List Event). record { entries = run }) (different_runs [] (filter is_run (parts_of events)))) piece_limit (made (different_runs [] (filter is_run (parts_of events))) (different (filter is_run (parts_of events)) [] (filtered (parts_of events) (parts_good events 0))));
      different = distinct_made (different_runs [] (filter is_run (parts_of events))) piece_limit (distinct (filter is_run (parts_of events)) []);
      imports = root_there (pieces_of events) (parts_of events);
    }
