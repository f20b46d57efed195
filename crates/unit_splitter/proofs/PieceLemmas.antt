-- Pieces that are known, by the digests of their entries.
use Rattle.std.proofs.Common.{◌≡◌, ℕ, ◌+◌, ◌<◌, Bool, true, false, cond, List, [], ◌∷◌, ◌++◌, length, Option, Some, None, ap, sym, ◌∙◌, subst, arith, nat_lt, ◌&&◌, not}
use Rattle.std.specs.Prelude.{position, nat_eq, is_some}
use Rattle.std.specs.Cmp.Lexicographic.{pointwise, slice_cmp}
use Rattle.std.proofs.lemmas.Slice.Eq.{bytes_eq-Decides}
use Rattle.mac_base.specs.declared.events.Event.{Event}
use Rattle.unit_splitter.specs.declared.pieces.Piece.{Piece}
use Rattle.std.specs.BTreeMap.{BTreeMap, get}
use Rattle.std.specs.Ordering.{nat_cmp}
use Rattle.std.proofs.lemmas.Bool.Decides.{nat_tests}
use Rattle.std.proofs.lemmas.List.{length-append}
use Rattle.unit_splitter.specs.Growing.{digest_of, place_or, grown, AreKnown, number_noted}
use Rattle.unit_splitter.specs.Split.{same_part, is_run, number_in, piece_limit}
use Rattle.unit_splitter.proofs.EventLemmas.{part_is, own_part}
use Rattle.unit_splitter.proofs.PlaceLemmas.{position_push}

-- equal parts have one digest
pub same_digest : (part : List Event) (digest : List ℕ) (piece : Piece) → digest ≡ digest_of part → same_part part piece.entries ≡ true → pointwise nat_eq (digest_of piece.entries) digest ≡ true
same_digest part digest piece is same =
    (bytes_eq-Decides (digest_of piece.entries) digest).1 (ap digest_of (sym (part_is part piece.entries same)) ∙ sym is)

-- a part that is added as a piece has the number that was the next
pub number_of_new : (pieces : List Piece) (part : List Event) → is_run part ≡ true → position (λ (piece : Piece). same_part part piece.entries) pieces ≡ None → number_in (pieces ++ record { entries = part } ∷ []) part ≡ Some (length pieces)
number_of_new pieces part run none =
    ap (λ b. cond b (position (λ (piece : Piece). same_part part piece.entries) (pieces ++ record { entries = part } ∷ [])) None) run
    ∙ position_push (λ (piece : Piece). same_part part piece.entries) pieces (record { entries = part })
    ∙ ap (λ o. place_or o (cond (same_part part part) (Some (length pieces)) None)) none
    ∙ ap (λ b. cond b (Some (length pieces)) None) (own_part part)

-- no number of an equal digest
pub none_at : (numbers : BTreeMap (List ℕ) ℕ) (digest other : List ℕ) → is_some (get (slice_cmp nat_cmp) numbers digest) ≡ false → pointwise nat_eq digest other ≡ true → is_some (get (slice_cmp nat_cmp) numbers other) ≡ false
none_at numbers digest other none same = subst (λ (d : List ℕ). is_some (get (slice_cmp nat_cmp) numbers d) ≡ false) ((bytes_eq-Decides digest other).0 same) none

pub some_at : (numbers : BTreeMap (List ℕ) ℕ) (digest other : List ℕ) → is_some (get (slice_cmp nat_cmp) numbers digest) ≡ true → pointwise nat_eq digest other ≡ true → is_some (get (slice_cmp nat_cmp) numbers other) ≡ true
some_at numbers digest other had same = subst (λ (d : List ℕ). is_some (get (slice_cmp nat_cmp) numbers d) ≡ true) ((bytes_eq-Decides digest other).0 same) had

-- what is known with one piece more
pub known_more : (old new : BTreeMap (List ℕ) ℕ) (pieces after : List Piece) (part : List Event) (digest : List ℕ) (n : ℕ) → AreKnown old pieces → length pieces < 16384 → n ≡ length pieces → digest ≡ digest_of part → after ≡ pieces ++ record { entries = part } ∷ []
    → ((other : List ℕ) → get (slice_cmp nat_cmp) new other ≡ number_noted (get (slice_cmp nat_cmp) old other) digest n other) → AreKnown new after
known_more old new pieces after part digest n are room next named is noted =
    let piece : Piece = record { entries = part } in
    let long : length after ≡ length pieces + 1 = ap length is ∙ length-append pieces (piece ∷ []) in
    record {
      few = omega (arith, long);
      first = λ other.
          let test : Piece → Bool = λ (p : Piece). pointwise nat_eq (digest_of p.entries) other in
          noted other
          ∙ ap (λ (o : Option ℕ). number_noted o digest n other) (are.first other)
          ∙ ap (λ m. number_noted (position test pieces) digest m other) next
          ∙ ap (λ (d : List ℕ). number_noted (position test pieces) d (length pieces) other) named
          ∙ sym (position_push test pieces piece)
          ∙ ap (λ (ps : List Piece). position test ps) (sym is);
    }

-- a run that is new, where there is room, becomes a piece
pub grown_new : (pieces : List Piece) (part : List Event) → is_run part ≡ true → is_some (number_in pieces part) ≡ false → nat_lt (length pieces) piece_limit ≡ true → grown pieces part ≡ pieces ++ record { entries = part } ∷ []
grown_new pieces part run none room =
    ap (λ b. cond (b && (not (is_some (number_in pieces part)) && nat_lt (length pieces) piece_limit)) (pieces ++ record { entries = part } ∷ []) pieces) run
    ∙ ap (λ b. cond (not b && nat_lt (length pieces) piece_limit) (pieces ++ record { entries = part } ∷ []) pieces) none
    ∙ ap (λ b. cond b (pieces ++ record { entries = part } ∷ []) pieces) room

pub is_room : (n : ℕ) → n < 16384 → nat_lt n piece_limit ≡ true
is_room n below = grind (arith, nat_tests)

-- and its number is the next
pub number_of_grown : (pieces : List Piece) (part : List Event) → is_run part ≡ true → position (λ (piece : Piece). same_part part piece.entries) pieces ≡ None → length pieces < 16384 → number_in (grown pieces part) part ≡ Some (length pieces)
number_of_grown pieces part run none room =
    let unknown : is_some (number_in pieces part) ≡ false = ap (λ b. is_some (cond b (position (λ (piece : Piece). same_part part piece.entries) pieces) None)) run ∙ ap (λ (o : Option ℕ). is_some o) none in
    ap (λ (ps : List Piece). number_in ps part) (grown_new pieces part run unknown (is_room (length pieces) room)) ∙ number_of_new pieces part run none
