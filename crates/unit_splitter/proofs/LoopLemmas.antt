-- The loop of `split`: what stands before a part stands after it.
use Rattle.std.proofs.Common.{◌≡◌, ℕ, ◌+◌, ◌-◌, ◌≤◌, Bool, true, false, cond, ◌&&◌, List, [], ◌∷◌, ◌++◌, length, take, drop, Option, ap, sym, ◌∙◌, arith}
use Rattle.std.specs.List.{prefix_len}
use Rattle.std.proofs.lemmas.List.{append_assoc, append-nil, length-drop}
use Rattle.mac_base.specs.declared.events.Event.{Event}
use Rattle.mac_base.specs.declared.events.Event.TheVariants.{Define, Undef, Start, End}
use Rattle.unit_splitter.specs.declared.root.RootEntry.{RootEntry}
use Rattle.unit_splitter.specs.declared.pieces.Piece.{Piece}
use Rattle.unit_splitter.specs.declared.pieces.Split.{Split}
use Rattle.unit_splitter.specs.Split.{is_change, is_included, depth_after, parts_from, parts_of, number_in, entries_as, split_of}
use Rattle.unit_splitter.specs.Growing.{grown, pieces_after, entries_after, first_length}
use Rattle.unit_splitter.proofs.CutLemmas.{cut}
use Rattle.unit_splitter.proofs.GrowingLemmas.{all_pieces, all_entries}

-- what is known of the pieces and the root with the events that are left
abbrev pub Stands : List Event → List Piece → List RootEntry → ℕ → List Event → Type 0
Stands all known root depth rest =
    (pieces_after known (parts_from depth rest) ≡ pieces_after [] (parts_of all))
    × (root ++ entries_after known (parts_from depth rest) ≡ entries_after [] (parts_of all))
    × (depth + length rest ≤ length all)

rises : (depth : ℕ) (event : Event) → depth_after depth event ≤ depth + 1
rises depth (Define line text) = omega arith
rises depth (Undef line name) = omega arith
rises depth (Start line file) = omega arith
rises depth End = omega arith

some_by : (joins : Bool) (k : ℕ) → 1 ≤ cond joins (1 + k) 1
some_by true k = omega arith
some_by false k = omega arith

step_by : (all rest back part : List Event) (known next : List Piece) (root more : List RootEntry) (depth after : ℕ) (number : Option ℕ)
    → parts_from depth rest ≡ part ∷ parts_from after back → next ≡ grown known part → number ≡ number_in (grown known part) part → more ≡ root ++ entries_as number part → after + length back ≤ length all → Stands all known root depth rest → Stands all next more after back
unfolding pieces_after entries_after
step_by all rest back part known next root more depth after number cutting next_is number_is more_is few stands =
    let left = parts_from after back in (
      ap (λ (ps : List Piece). pieces_after ps left) next_is ∙ sym (ap (pieces_after known) cutting) ∙ stands.0,
      ap (λ (es : List RootEntry). es ++ entries_after next left) more_is
          ∙ append_assoc root (entries_as number part) (entries_after next left)
          ∙ (λ i. root ++ (entries_as (number_is i) part ++ entries_after (next_is i) left))
          ∙ sym (ap (λ parts. root ++ entries_after known parts) cutting) ∙ stands.1,
      few,
    )

pub step : (all rest back part events : List Event) (event : Event) (known next : List Piece) (root more : List RootEntry) (depth after n : ℕ) (number : Option ℕ)
    → rest ≡ event ∷ events → n ≡ first_length depth rest → part ≡ take n rest → back ≡ drop n rest → after ≡ depth_after depth event
    → next ≡ grown known part → number ≡ number_in (grown known part) part → more ≡ root ++ entries_as number part → Stands all known root depth rest → Stands all next more after back
step all rest back part events event known next root more depth after n number rest_is n_is part_is back_is after_is next_is number_is more_is stands =
    let here : first_length depth (event ∷ events) ≡ n = ap (first_length depth) (sym rest_is) ∙ sym n_is in
    let whole : event ∷ events ≡ rest = sym rest_is in
    let first : take (first_length depth (event ∷ events)) (event ∷ events) ≡ part = (λ i. take (here i) (whole i)) ∙ sym part_is in
    let later : drop (first_length depth (event ∷ events)) (event ∷ events) ≡ back = (λ i. drop (here i) (whole i)) ∙ sym back_is in
    let now : depth_after depth event ≡ after = sym after_is in
    let cutting : parts_from depth rest ≡ part ∷ parts_from after back = ap (parts_from depth) rest_is ∙ cut depth event events ∙ (λ i. first i ∷ parts_from (now i) (later i)) in
    let long : length back ≡ length rest - n = ap length back_is ∙ length-drop n rest in
    let some : 1 ≤ first_length depth (event ∷ events) = some_by (is_included depth && is_change event) (prefix_len is_change events) in
    let left : length rest ≡ length (event ∷ events) = ap length rest_is in
    step_by all rest back part known next root more depth after number cutting next_is number_is more_is (omega (arith, long, some, here, left, after_is, rises depth event, stands.2)) stands

pub finish : (all rest : List Event) (known : List Piece) (root : List RootEntry) (depth : ℕ) → rest ≡ [] → Stands all known root depth rest → ◌≡◌ {A = Split} (record { root = root; pieces = known }) (split_of all)
unfolding split_of pieces_after entries_after parts_from
finish all rest known root depth none stands =
    let pieces = sym (ap (λ (es : List Event). pieces_after known (parts_from depth es)) none) ∙ stands.0 ∙ all_pieces all in
    let entries = sym (append-nil root) ∙ sym (ap (λ (es : List Event). root ++ entries_after known (parts_from depth es)) none) ∙ stands.1 ∙ all_entries all in
    λ i. record { root = entries i; pieces = pieces i }
