-- The pieces and the root from part to part are those of all parts.
use Rattle.std.proofs.Common.{◌≡◌, ℕ, ◌+◌, ◌≤◌, nat_lt, Bool, true, false, cond, ◌&&◌, not, List, [], ◌∷◌, ◌++◌, length, map, take, Option, Some, None, refl, ap, sym, ◌∙◌, arith}
use Rattle.std.specs.Prelude.{position, is_some}
use Rattle.std.specs.List.{filter, flat_map, list_any}
use Rattle.std.proofs.Math.Seq.{take-append_seam}
use Rattle.std.proofs.lemmas.Bool.Decides.{nat_tests}
use Rattle.std.proofs.lemmas.List.{length-append, map-append, append_assoc, append-nil, take_all}
use Rattle.mac_base.specs.declared.events.Event.{Event}
use Rattle.unit_splitter.specs.declared.pieces.Piece.{Piece}
use Rattle.unit_splitter.specs.Split.{same_part, is_run, different_runs, number_in, entries_as, piece_limit, parts_of, pieces_of}
use Rattle.unit_splitter.specs.Growing.{grown, pieces_after, entries_after, place_or}
use Rattle.unit_splitter.proofs.PlaceLemmas.{position_push, any_placed}
use Rattle.unit_splitter.proofs.PieceLemmas.{grown_new, number_of_new}

-- the entries of pieces
Runs : List Piece → List (List Event)
Runs pieces = map (λ (piece : Piece). piece.entries) pieces

-- pieces with these entries
abbrev made : List (List Event) → List Piece
made runs = map (λ (run : List Event). record { entries = run }) runs

-- nothing grows of what is no run, is known, or has no room
stays_by : (run known room : Bool) (more pieces : List Piece) → (run && (not known && room)) ≡ false → cond (run && (not known && room)) more pieces ≡ pieces
stays_by run known room more pieces is = ap (λ b. cond b more pieces) is

no_run : (known room : Bool) (run : Bool) → run ≡ false → (run && (not known && room)) ≡ false
no_run known room true is = cc
no_run known room false is = refl

is_known : (run room known : Bool) → known ≡ true → (run && (not known && room)) ≡ false
is_known true room true is = refl
is_known false room true is = refl
is_known run room false is = cc

no_room : (run known room : Bool) → room ≡ false → (run && (not known && room)) ≡ false
no_room run known true is = cc
no_room true true false is = refl
no_room true false false is = refl
no_room false known false is = refl

grown_no_run : (pieces : List Piece) (part : List Event) → is_run part ≡ false → grown pieces part ≡ pieces
grown_no_run pieces part is = stays_by (is_run part) (is_some (number_in pieces part)) (nat_lt (length pieces) piece_limit) _ pieces (no_run (is_some (number_in pieces part)) (nat_lt (length pieces) piece_limit) (is_run part) is)

grown_known : (pieces : List Piece) (part : List Event) → is_some (number_in pieces part) ≡ true → grown pieces part ≡ pieces
grown_known pieces part is = stays_by (is_run part) (is_some (number_in pieces part)) (nat_lt (length pieces) piece_limit) _ pieces (is_known (is_run part) (nat_lt (length pieces) piece_limit) (is_some (number_in pieces part)) is)

grown_full : (pieces : List Piece) (part : List Event) → nat_lt (length pieces) piece_limit ≡ false → grown pieces part ≡ pieces
grown_full pieces part is = stays_by (is_run part) (is_some (number_in pieces part)) (nat_lt (length pieces) piece_limit) _ pieces (no_room (is_run part) (is_some (number_in pieces part)) (nat_lt (length pieces) piece_limit) is)

-- where there is no room all stays
full : (pieces : List Piece) (parts : List (List Event)) → nat_lt (length pieces) piece_limit ≡ false → pieces_after pieces parts ≡ pieces
unfolding pieces_after
full pieces [] is = refl
full pieces (part ∷ parts) is = ap (λ (ps : List Piece). pieces_after ps parts) (grown_full pieces part is) ∙ full pieces parts is

run_known : (pieces : List Piece) (part : List Event) → is_run part ≡ true → is_some (number_in pieces part) ≡ list_any (same_part part) (Runs pieces)
unfolding Runs
run_known pieces part is =
    ap (λ b. is_some (cond b (position (λ (piece : Piece). same_part part piece.entries) pieces) None)) is
    ∙ sym (any_placed (λ (piece : Piece). piece.entries) (same_part part) pieces)

filtered_out : (parts : List (List Event)) (part : List Event) → is_run part ≡ false → filter is_run (part ∷ parts) ≡ filter is_run parts
filtered_out parts part is = ap (λ b. cond b (part ∷ filter is_run parts) (filter is_run parts)) is

filtered_in : (parts : List (List Event)) (part : List Event) → is_run part ≡ true → filter is_run (part ∷ parts) ≡ part ∷ filter is_run parts
filtered_in parts part is = ap (λ b. cond b (part ∷ filter is_run parts) (filter is_run parts)) is

different_known : (before runs : List (List Event)) (run : List Event) → list_any (same_part run) before ≡ true → different_runs before (run ∷ runs) ≡ different_runs before runs
different_known before runs run is = ap (λ b. cond b (different_runs before runs) (run ∷ different_runs (before ++ run ∷ []) runs)) is

different_new : (before runs : List (List Event)) (run : List Event) → list_any (same_part run) before ≡ false → different_runs before (run ∷ runs) ≡ run ∷ different_runs (before ++ run ∷ []) runs
different_new before runs run is = ap (λ b. cond b (different_runs before runs) (run ∷ different_runs (before ++ run ∷ []) runs)) is

-- what all parts make of pieces
Fills : List Piece → List (List Event) → Type 0
Fills pieces parts = pieces_after pieces parts ≡ take piece_limit (pieces ++ made (different_runs (Runs pieces) (filter is_run parts)))

at_limit : (n : ℕ) → n ≤ 16384 → nat_lt n piece_limit ≡ false → piece_limit ≡ n
at_limit n most is = grind (arith, nat_tests)

below_limit : (n : ℕ) → nat_lt n piece_limit ≡ true → n + 1 ≤ 16384
below_limit n is = grind (arith, nat_tests)

taken : (pieces more : List Piece) → length pieces ≤ 16384 → nat_lt (length pieces) piece_limit ≡ false → take piece_limit (pieces ++ more) ≡ pieces
taken pieces more most is = ap (λ n. take n (pieces ++ more)) (at_limit (length pieces) most is) ∙ take-append_seam pieces more

fills_same : (pieces : List Piece) (part : List Event) (parts : List (List Event)) → grown pieces part ≡ pieces → different_runs (Runs pieces) (filter is_run (part ∷ parts)) ≡ different_runs (Runs pieces) (filter is_run parts) → Fills pieces parts → Fills pieces (part ∷ parts)
unfolding Fills pieces_after
fills_same pieces part parts is same next =
    ap (λ (ps : List Piece). pieces_after ps parts) is ∙ next ∙ sym (ap (λ runs. take piece_limit (pieces ++ made runs)) same)

fills_new : (pieces : List Piece) (part : List Event) (parts : List (List Event)) → grown pieces part ≡ pieces ++ record { entries = part } ∷ []
    → different_runs (Runs pieces) (filter is_run (part ∷ parts)) ≡ part ∷ different_runs (Runs pieces ++ part ∷ []) (filter is_run parts) → Fills (pieces ++ record { entries = part } ∷ []) parts → Fills pieces (part ∷ parts)
unfolding Fills pieces_after Runs
fills_new pieces part parts is more next =
    let piece : Piece = record { entries = part } in
    ap (λ (ps : List Piece). pieces_after ps parts) is ∙ next
    ∙ ap (λ before. take piece_limit ((pieces ++ piece ∷ []) ++ made (different_runs before (filter is_run parts)))) (map-append (λ (p : Piece). p.entries) pieces (piece ∷ []))
    ∙ ap (λ (ps : List Piece). take piece_limit ps) (append_assoc pieces (piece ∷ []) (made (different_runs (Runs pieces ++ part ∷ []) (filter is_run parts))))
    ∙ sym (ap (λ runs. take piece_limit (pieces ++ made runs)) more)

fills_full : (pieces : List Piece) (part : List Event) (parts : List (List Event)) → length pieces ≤ 16384 → nat_lt (length pieces) piece_limit ≡ false → Fills pieces (part ∷ parts)
unfolding Fills
fills_full pieces part parts most is = full pieces (part ∷ parts) is ∙ sym (taken pieces _ most is)

fills_by : (pieces : List Piece) (part : List Event) (parts : List (List Event)) (run known room : Bool) → is_run part ≡ run → is_some (number_in pieces part) ≡ known → nat_lt (length pieces) piece_limit ≡ room → length pieces ≤ 16384
    → ((ps : List Piece) → length ps ≤ 16384 → Fills ps parts) → Fills pieces (part ∷ parts)
fills_by pieces part parts false known room run_is known_is room_is most next =
    fills_same pieces part parts (grown_no_run pieces part run_is) (ap (different_runs (Runs pieces)) (filtered_out parts part run_is)) (next pieces most)
fills_by pieces part parts true true room run_is known_is room_is most next =
    fills_same pieces part parts (grown_known pieces part known_is)
    (ap (different_runs (Runs pieces)) (filtered_in parts part run_is) ∙ different_known (Runs pieces) (filter is_run parts) part (sym (run_known pieces part run_is) ∙ known_is))
    (next pieces most)
fills_by pieces part parts true false true run_is known_is room_is most next =
    let piece : Piece = record { entries = part } in
    let long : length (pieces ++ piece ∷ []) ≡ length pieces + 1 = length-append pieces (piece ∷ []) in
    fills_new pieces part parts (grown_new pieces part run_is known_is room_is)
    (ap (different_runs (Runs pieces)) (filtered_in parts part run_is) ∙ different_new (Runs pieces) (filter is_run parts) part (sym (run_known pieces part run_is) ∙ known_is))
    (next (pieces ++ piece ∷ []) (omega (arith, long, below_limit (length pieces) room_is)))
fills_by pieces part parts true false false run_is known_is room_is most next = fills_full pieces part parts most room_is

fills_end : (pieces : List Piece) → length pieces ≤ 16384 → pieces ≡ take piece_limit pieces
fills_end pieces most = sym (take_all piece_limit pieces most)

fills : (parts : List (List Event)) (pieces : List Piece) → length pieces ≤ 16384 → Fills pieces parts
unfolding Fills pieces_after
fills [] pieces most = fills_end pieces most ∙ ap (λ (ps : List Piece). take piece_limit ps) (sym (append-nil pieces))
fills (part ∷ parts) pieces most =
    fills_by pieces part parts (is_run part) (is_some (number_in pieces part)) (nat_lt (length pieces) piece_limit) refl refl refl most (λ ps few. fills parts ps few)

-- all parts of events give the pieces of the definition
pub all_pieces : (events : List Event) → pieces_after [] (parts_of events) ≡ pieces_of events
unfolding Fills Runs
all_pieces events = fills (parts_of events) [] (omega arith)

-- a number stays what it is
number_by : (pieces : List Piece) (more : Piece) (part : List Event) (n : ℕ) (run : Bool) → cond run (position (λ (piece : Piece). same_part part piece.entries) pieces) None ≡ Some n
    → cond run (position (λ (piece : Piece). same_part part piece.entries) (pieces ++ more ∷ [])) None ≡ Some n
number_by pieces more part n true is =
    let test : Piece → Bool = λ (piece : Piece). same_part part piece.entries in
    position_push test pieces more ∙ ap (λ o. place_or o (cond (test more) (Some (length pieces)) None)) is
number_by pieces more part n false is = cc

keeps_by : (pieces : List Piece) (more : Piece) (part : List Event) (n : ℕ) (grows : Bool) → number_in pieces part ≡ Some n → number_in (cond grows (pieces ++ more ∷ []) pieces) part ≡ Some n
keeps_by pieces more part n true is = number_by pieces more part n (is_run part) is
keeps_by pieces more part n false is = is

keeps : (pieces : List Piece) (part : List Event) (n : ℕ) (parts : List (List Event)) → number_in pieces part ≡ Some n → number_in (pieces_after pieces parts) part ≡ Some n
unfolding pieces_after
keeps pieces part n [] is = is
keeps pieces part n (other ∷ parts) is =
    keeps (grown pieces other) part n parts
    (keeps_by pieces (record { entries = other }) part n (is_run other && (not (is_some (number_in pieces other)) && nat_lt (length pieces) piece_limit)) is)

no_number : (pieces : List Piece) (part : List Event) → is_run part ≡ false → number_in pieces part ≡ None
no_number pieces part is = ap (λ b. cond b (position (λ (piece : Piece). same_part part piece.entries) pieces) None) is

settled_some : (pieces : List Piece) (part : List Event) (parts : List (List Event)) (o : Option ℕ) → number_in pieces part ≡ o → is_some o ≡ true → number_in (pieces_after pieces parts) part ≡ o
settled_some pieces part parts (Some n) is some = keeps pieces part n parts is
settled_some pieces part parts None is some = cc

is_none : (o : Option ℕ) → is_some o ≡ false → o ≡ None
is_none None is = refl
is_none (Some n) is = cc

run_number : (pieces : List Piece) (part : List Event) → is_run part ≡ true → number_in pieces part ≡ position (λ (piece : Piece). same_part part piece.entries) pieces
run_number pieces part is = ap (λ b. cond b (position (λ (piece : Piece). same_part part piece.entries) pieces) None) is

settled_by : (pieces : List Piece) (part : List Event) (parts : List (List Event)) (run known room : Bool) → is_run part ≡ run → is_some (number_in pieces part) ≡ known → nat_lt (length pieces) piece_limit ≡ room
    → number_in (pieces_after (grown pieces part) parts) part ≡ number_in (grown pieces part) part
settled_by pieces part parts false known room run_is known_is room_is = no_number (pieces_after (grown pieces part) parts) part run_is ∙ sym (no_number (grown pieces part) part run_is)
settled_by pieces part parts true true room run_is known_is room_is =
    settled_some (grown pieces part) part parts (number_in (grown pieces part) part) refl (ap (λ (ps : List Piece). is_some (number_in ps part)) (grown_known pieces part known_is) ∙ known_is)
settled_by pieces part parts true false true run_is known_is room_is =
    let none = sym (run_number pieces part run_is) ∙ is_none (number_in pieces part) known_is in
    let is : number_in (grown pieces part) part ≡ Some (length pieces) = ap (λ (ps : List Piece). number_in ps part) (grown_new pieces part run_is known_is room_is) ∙ number_of_new pieces part run_is none in
    settled_some (grown pieces part) part parts (Some (length pieces)) is refl ∙ sym is
settled_by pieces part parts true false false run_is known_is room_is =
    let same = grown_full pieces part room_is in
    ap (λ (ps : List Piece). number_in ps part) (ap (λ (ps : List Piece). pieces_after ps parts) same ∙ full pieces parts room_is ∙ sym same)

settled : (pieces : List Piece) (part : List Event) (parts : List (List Event)) → number_in (pieces_after (grown pieces part) parts) part ≡ number_in (grown pieces part) part
settled pieces part parts = settled_by pieces part parts (is_run part) (is_some (number_in pieces part)) (nat_lt (length pieces) piece_limit) refl refl refl

rooted : (parts : List (List Event)) (pieces : List Piece) → entries_after pieces parts ≡ flat_map (λ part. entries_as (number_in (pieces_after pieces parts) part) part) parts
unfolding entries_after pieces_after
rooted [] pieces = refl
rooted (part ∷ parts) pieces =
    let same : number_in (grown pieces part) part ≡ number_in (pieces_after (grown pieces part) parts) part = sym (settled pieces part parts) in
    λ i. entries_as (same i) part ++ rooted parts (grown pieces part) i

-- and all parts give the root of the definition
pub all_entries : (events : List Event) → entries_after [] (parts_of events) ≡ flat_map (λ part. entries_as (number_in (pieces_of events) part) part) (parts_of events)
all_entries events = rooted (parts_of events) [] ∙ ap (λ (pieces : List Piece). flat_map (λ part. entries_as (number_in pieces part) part) (parts_of events)) (all_pieces events)
