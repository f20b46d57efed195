-- The parts of events are the events, and what stands for a part gives it back.
use Rattle.std.proofs.Common.{◌≡◌, ℕ, zero, suc, Bool, true, false, cond, ◌&&◌, List, [], ◌∷◌, ◌++◌, map, Option, Some, None, refl, ap, sym, ◌∙◌}
use Rattle.std.specs.Prelude.{position, slice_get}
use Rattle.std.specs.Option.{option_map}
use Rattle.std.specs.List.{flat_map}
use Rattle.std.proofs.lemmas.Grind.{flat_map-append}
use Rattle.std.proofs.lemmas.List.{append-nil}
use Rattle.mac_base.specs.declared.events.Event.{Event}
use Rattle.unit_splitter.specs.declared.root.RootEntry.{RootEntry}
use Rattle.unit_splitter.specs.declared.root.RootEntry.TheVariants.{Own, Import}
use Rattle.unit_splitter.specs.declared.pieces.Piece.{Piece}
use Rattle.unit_splitter.specs.Split.{same_part, is_change, is_included, depth_after, is_run, before_parts, parts_from, parts_of, pieces_of, number_in, entries_as, split_of}
use Rattle.unit_splitter.specs.Growing.{passes}
use Rattle.unit_splitter.specs.Laws.{entries_of, events_of, together, GivesEventsBack}
use Rattle.unit_splitter.proofs.EventLemmas.{part_is}
use Rattle.unit_splitter.proofs.PlaceLemmas.{position_cons}

before_by : (joins : Bool) (event first : Event) (more : List Event) (parts : List (List Event)) → together (cond joins ((event ∷ first ∷ more) ∷ parts) ((event ∷ []) ∷ (first ∷ more) ∷ parts)) ≡ event ∷ together ((first ∷ more) ∷ parts)
before_by true event first more parts = refl
before_by false event first more parts = refl

before_whole : (joins : Bool) (event : Event) (parts : List (List Event)) → together (before_parts joins event parts) ≡ event ∷ together parts
before_whole joins event [] = refl
before_whole joins event ([] ∷ parts) = refl
before_whole joins event ((first ∷ more) ∷ parts) = before_by (joins && is_change first) event first more parts

-- all parts are the events
pub whole : (events : List Event) (depth : ℕ) → together (parts_from depth events) ≡ events
unfolding parts_from
whole [] depth = refl
whole (event ∷ events) depth =
    before_whole (is_included depth && is_change event) event (parts_from (depth_after depth event) events) ∙ ap (λ (es : List Event). event ∷ es) (whole events (depth_after depth event))

found_by : (p : Piece → Bool) (x : Piece) (xs : List Piece) (b : Bool) (o : Option ℕ) (n : ℕ) → p x ≡ b → ((k : ℕ) → o ≡ Some k → passes p (slice_get xs k) ≡ true) → cond b (Some 0) (option_map suc o) ≡ Some n → passes p (slice_get (x ∷ xs) n) ≡ true
found_by p x xs true o zero is next there = is
found_by p x xs true o (suc k) is next there = cc
found_by p x xs false None n is next there = cc
found_by p x xs false (Some k) zero is next there = cc
found_by p x xs false (Some k) (suc j) is next there = let at : Some k ≡ Some j = cc in next j at

-- the element at a place passes
pub found : (p : Piece → Bool) (xs : List Piece) (n : ℕ) → position p xs ≡ Some n → passes p (slice_get xs n) ≡ true
found p [] n there = cc
found p (x ∷ xs) n there = found_by p x xs (p x) (position p xs) n refl (λ k at. found p xs k at) (sym (position_cons p x xs) ∙ there)

same_entries : (part : List Event) (o : Option Piece) → passes (λ (piece : Piece). same_part part piece.entries) o ≡ true → entries_of o ≡ part
same_entries part None is = cc
same_entries part (Some piece) is = sym (part_is part piece.entries is)

owned : (pieces : List Piece) (part : List Event) → flat_map (events_of pieces) (map (λ event. Own event) part) ≡ part
owned pieces [] = refl
owned pieces (event ∷ events) = ap (λ (es : List Event). event ∷ es) (owned pieces events)

back_run : (pieces : List Piece) (part : List Event) (n : ℕ) (run : Bool) → cond run (position (λ (piece : Piece). same_part part piece.entries) pieces) None ≡ Some n → entries_of (slice_get pieces n) ≡ part
back_run pieces part n true is = same_entries part (slice_get pieces n) (found (λ (piece : Piece). same_part part piece.entries) pieces n is)
back_run pieces part n false is = cc

back_by : (pieces : List Piece) (part : List Event) (o : Option ℕ) → number_in pieces part ≡ o → flat_map (events_of pieces) (entries_as o part) ≡ part
back_by pieces part (Some n) is = append-nil (entries_of (slice_get pieces n)) ∙ back_run pieces part n (is_run part) is
back_by pieces part None is = owned pieces part

back : (pieces : List Piece) (parts : List (List Event)) → flat_map (events_of pieces) (flat_map (λ part. entries_as (number_in pieces part) part) parts) ≡ together parts
back pieces [] = refl
back pieces (part ∷ parts) =
    flat_map-append (events_of pieces) (entries_as (number_in pieces part) part) (flat_map (λ part. entries_as (number_in pieces part) part) parts)
    ∙ (λ i. back_by pieces part (number_in pieces part) refl i ++ back pieces parts i)

pub gives_back : GivesEventsBack
unfolding split_of
gives_back events = back (pieces_of events) (parts_of events) ∙ whole events 0
