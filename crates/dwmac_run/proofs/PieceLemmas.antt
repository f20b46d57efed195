-- A line is written piece by piece.
use Rattle.std.proofs.Common.{◌≡◌, ℕ, ◌+◌, ◌<◌, ◌≤◌, List, [], ◌∷◌, ◌++◌, length, get_or, take, drop, Option, refl, ap, subst, ◌∙◌, sym, append_assoc}
use Rattle.std.specs.Prelude.{codes, decimal}
use Rattle.std.specs.List.{flat_map}
use Rattle.std.proofs.lemmas.List.{take_more, drop_more, take_all, take-append-drop}
use Rattle.mac_io.specs.Calls.{grown, GrowsByFront, Writes}
use Rattle.mac_io.specs.Causes.{HasCause, Rose}
use Rattle.mac_io.specs.declared.sink.Wrote.{Wrote}
use Rattle.mac_io.specs.declared.sink.Wrote.TheVariants.{Done, Failed}
use Rattle.mac_base.specs.ReportText.{hex}
use Rattle.dwmac_run.specs.declared.line.Piece.{Piece}
use Rattle.dwmac_run.specs.declared.line.Piece.TheVariants.{Nothing, Text, Decimal, Hex, File, Line}
use Rattle.dwmac_run.specs.declared.line.FaultLine.{FaultLine}
use Rattle.dwmac_run.specs.Pieces.{spaced, line_text, in_file, at_line, pieces, line_pieces, written}
use Rattle.dwmac_run.proofs.TextLemmas.{writes_both, writes_front, grown_more, front_more}

-- the pieces that are written are those of the line
pub spaced_pieces : (ps : List Piece) → flat_map spaced (pieces ps) ≡ flat_map written ps
spaced_pieces [] = refl
spaced_pieces (Nothing ∷ ps) = spaced_pieces ps
spaced_pieces (Text text ∷ ps) = ap (λ (xs : List ℕ). spaced text.now ++ xs) (spaced_pieces ps)
spaced_pieces (Decimal number ∷ ps) = ap (λ (xs : List ℕ). spaced (decimal number) ++ xs) (spaced_pieces ps)
spaced_pieces (Hex number ∷ ps) = ap (λ (xs : List ℕ). spaced (hex number) ++ xs) (spaced_pieces ps)
spaced_pieces (File path ∷ ps) = ap (λ (xs : List ℕ). spaced (in_file path.now) ++ xs) (spaced_pieces ps)
spaced_pieces (Line path line ∷ ps) = ap (λ (xs : List ℕ). spaced (at_line path.now line) ++ xs) (spaced_pieces ps)

-- that there is no piece adds none
pub no_more : (ps : List Piece) → pieces (ps ++ Nothing ∷ Nothing ∷ []) ≡ pieces ps
no_more [] = refl
no_more (Nothing ∷ ps) = no_more ps
no_more (Text text ∷ ps) = ap (λ (xs : List (List ℕ)). text.now ∷ xs) (no_more ps)
no_more (Decimal number ∷ ps) = ap (λ (xs : List (List ℕ)). decimal number ∷ xs) (no_more ps)
no_more (Hex number ∷ ps) = ap (λ (xs : List (List ℕ)). hex number ∷ xs) (no_more ps)
no_more (File path ∷ ps) = ap (λ (xs : List (List ℕ)). in_file path.now ∷ xs) (no_more ps)
no_more (Line path line ∷ ps) = ap (λ (xs : List (List ℕ)). at_line path.now line ∷ xs) (no_more ps)

line_is : (line : FaultLine) → line_text (line_pieces line) ≡ (codes "dwmac:" ++ written line.place) ++ (flat_map written line.words ++ codes "\n")
line_is line =
    ap (λ (xs : List ℕ). codes "dwmac:" ++ (xs ++ codes "\n")) (spaced_pieces (line.place ∷ line.words)) ∙ ap (λ (xs : List ℕ). codes "dwmac:" ++ xs) (append_assoc (written line.place) (flat_map written line.words) (codes "\n"))

pub line_written : (line : FaultLine) (old mid new : Option (List ℕ)) (answer : Wrote) → mid ≡ grown old (codes "dwmac:" ++ written line.place) → Writes mid new (flat_map written line.words ++ codes "\n") answer → Writes old new (line_text (line_pieces line)) answer
line_written line old mid new answer first second =
    subst (λ (xs : List ℕ). Writes old new xs answer) (sym (line_is line)) (writes_both old mid new (codes "dwmac:" ++ written line.place) (flat_map written line.words ++ codes "\n") answer first second)

pub line_broken : (line : FaultLine) (old new : Option (List ℕ)) → GrowsByFront old new (codes "dwmac:" ++ written line.place) → GrowsByFront old new (line_text (line_pieces line))
line_broken line old new broken =
    subst (λ (xs : List ℕ). GrowsByFront old new xs) (sym (line_is line)) (writes_front old new (codes "dwmac:" ++ written line.place) (flat_map written line.words ++ codes "\n") broken)

written_both : (ps qs : List Piece) → flat_map written (ps ++ qs) ≡ flat_map written ps ++ flat_map written qs
written_both [] qs = refl
written_both (p ∷ ps) qs = ap (λ (xs : List ℕ). written p ++ xs) (written_both ps qs) ∙ sym (append_assoc (written p) (flat_map written ps) (flat_map written qs))

append_none : (xs : List ℕ) → xs ++ [] ≡ xs
append_none [] = refl
append_none (x ∷ xs) = ap (λ (ys : List ℕ). x ∷ ys) (append_none xs)

-- a piece more
pub piece_more : (old mid new : Option (List ℕ)) (ps : List Piece) (p d : Piece) (i : ℕ) → i < length ps → p ≡ get_or ps i d →
    mid ≡ grown old (flat_map written (take i ps)) → new ≡ grown mid (written p) → new ≡ grown old (flat_map written (take (i + 1) ps))
piece_more old mid new ps p d i within here so_far grows =
    grows ∙ ap (λ (t : Option (List ℕ)). grown t (written p)) so_far ∙ grown_more old (flat_map written (take i ps)) (written p)
    ∙ ap (λ (xs : List ℕ). grown old (flat_map written (take i ps) ++ xs)) (sym (append_none (written p)))
    ∙ ap (grown old) (sym (written_both (take i ps) (p ∷ [])))
    ∙ ap (λ (q : Piece). grown old (flat_map written (take i ps ++ q ∷ []))) here
    ∙ ap (λ (qs : List Piece). grown old (flat_map written qs)) (sym (take_more ps i d within))

-- the pieces before one, that one, and what is left
cut : (ps : List Piece) (p d : Piece) (i : ℕ) → i < length ps → p ≡ get_or ps i d → flat_map written ps ++ codes "\n" ≡ flat_map written (take i ps) ++ (written p ++ (flat_map written (drop (i + 1) ps) ++ codes "\n"))
cut ps p d i within here =
    let A = flat_map written (take i ps) in
    let B = flat_map written (drop (i + 1) ps) in
    ap (λ (qs : List Piece). flat_map written qs ++ codes "\n") (sym (take-append-drop i ps))
    ∙ ap (λ (xs : List ℕ). xs ++ codes "\n") (written_both (take i ps) (drop i ps))
    ∙ ap (λ (qs : List Piece). (A ++ flat_map written qs) ++ codes "\n") (drop_more ps i d within)
    ∙ ap (λ (q : Piece). (A ++ (written q ++ B)) ++ codes "\n") (sym here)
    ∙ append_assoc A (written p ++ B) (codes "\n")
    ∙ ap (λ (xs : List ℕ). A ++ xs) (append_assoc (written p) B (codes "\n"))

-- a piece that was cut off
pub piece_broken : (old mid new : Option (List ℕ)) (ps : List Piece) (p d : Piece) (i : ℕ) → i < length ps → p ≡ get_or ps i d →
    mid ≡ grown old (flat_map written (take i ps)) → GrowsByFront mid new (written p) → GrowsByFront old new (flat_map written ps ++ codes "\n")
piece_broken old mid new ps p d i within here so_far broken =
    front_more old mid new (flat_map written ps ++ codes "\n") (flat_map written (take i ps)) (written p) (flat_map written (drop (i + 1) ps) ++ codes "\n") (cut ps p d i within here) so_far broken

-- the end of the line, after all pieces
pub line_ended : (old mid new : Option (List ℕ)) (ps : List Piece) (i : ℕ) (answer : Wrote) → length ps ≤ i → mid ≡ grown old (flat_map written (take i ps)) → Writes mid new (codes "\n") answer → Writes old new (flat_map written ps ++ codes "\n") answer
line_ended old mid new ps i answer all so_far last =
    writes_both old mid new (flat_map written ps) (codes "\n") answer (so_far ∙ ap (λ (qs : List Piece). grown old (flat_map written qs)) (take_all i ps all)) last

-- a line of which no call failed is whole
pub whole_line : (ps qs : List (List ℕ)) (old new : Option (List ℕ)) (before now : ℕ) (answer : Wrote) → ps ≡ qs → Writes old new (line_text ps) answer → HasCause before now (answer ≡ Failed) → (Rose before now → ⊥) → new ≡ grown old (line_text qs)
whole_line ps qs old new before now Done is wrote cause none = wrote ∙ ap (λ (rs : List (List ℕ)). grown old (line_text rs)) is
whole_line ps qs old new before now Failed is wrote cause none = absurd (none (cause.rose refl))
