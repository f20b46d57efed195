-- A list of words that grows at its end.
use Rattle.std.proofs.Common.{◌≡◌, ℕ, ◌+◌, ◌<◌, ◌≤◌, nat_eq, Bool, if◌then◌else◌, List, [], ◌∷◌, ◌++◌, length, take, get_or, zero, suc, refl, sym, ◌∙◌, ap, append_assoc, add-one, arith}
use Rattle.std.proofs.Math.Seq.{take-suc}
use Rattle.std.proofs.lemmas.List.{take_all}
use Rattle.std.specs.List.{join_with_byte}
use Rattle.mac_base.proofs.TestLemmas.{zero_apart}

-- what is before a word that comes after these
abbrev gap : List (List ℕ) → List ℕ
gap [] = []
gap (w ∷ ws) = 44 ∷ []

join_push : (ws : List (List ℕ)) (x : List ℕ) → join_with_byte 44 (ws ++ x ∷ []) ≡ join_with_byte 44 ws ++ gap ws ++ x
join_push [] x = refl
join_push (w ∷ []) x = sym (append_assoc w (44 ∷ []) x)
join_push (w ∷ v ∷ ws) x =
    ap (λ t. w ++ 44 ∷ t) (join_push (v ∷ ws) x)
    ∙ ap (λ t. w ++ 44 ∷ t) (append_assoc (join_with_byte 44 (v ∷ ws)) (44 ∷ []) x)
    ∙ sym (append_assoc w (44 ∷ join_with_byte 44 (v ∷ ws)) (44 ∷ x))
    ∙ sym (append_assoc (w ++ 44 ∷ join_with_byte 44 (v ∷ ws)) (44 ∷ []) x)

gap_taken : (ws : List (List ℕ)) (i : ℕ) → i < length ws → gap (take i ws) ≡ (if nat_eq i 0 then [] else 44 ∷ [])
gap_taken ws zero within = refl
gap_taken [] (suc i) within = absurd (omega arith)
gap_taken (w ∷ ws) (suc i) within = ap (λ t. if t then [] else 44 ∷ []) (sym (zero_apart i))

-- one word more
pub join_next : (ws : List (List ℕ)) (i : ℕ) (x : List ℕ) (text more : List ℕ) → i < length ws → x ≡ get_or ws i x → more ≡ text ++ (if nat_eq i 0 then [] else 44 ∷ []) ++ x → (start : List ℕ) → text ≡ start ++ join_with_byte 44 (take i ws) →
    more ≡ start ++ join_with_byte 44 (take (i + 1) ws)
join_next ws i x text more within here is start so_far =
    let word = take i ws in
    let next : take (i + 1) ws ≡ word ++ x ∷ [] = ap (λ n. take n ws) (add-one i) ∙ take-suc ws i x within ∙ ap (λ y. word ++ y ∷ []) (sym here) in
    is ∙ ap (λ t. t ++ (if nat_eq i 0 then [] else 44 ∷ []) ++ x) so_far ∙ ap (λ g. start ++ join_with_byte 44 word ++ g ++ x) (sym (gap_taken ws i within))
    ∙ ap (λ t. t ++ x) (append_assoc start (join_with_byte 44 word) (gap word)) ∙ append_assoc start (join_with_byte 44 word ++ gap word) x
    ∙ ap (λ t. start ++ t) (sym (ap (join_with_byte 44) next ∙ join_push word x))

gap_of : (ws : List (List ℕ)) → (if nat_eq (length ws) 0 then [] else 44 ∷ []) ≡ gap ws
gap_of [] = refl
gap_of (w ∷ ws) = ap (λ t. if t then [] else 44 ∷ []) (zero_apart (length ws))

-- `...` after all words
pub join_last : (ws : List (List ℕ)) (i : ℕ) (is_empty : Bool) (x text more : List ℕ) → length ws ≤ i → is_empty ≡ nat_eq (length ws) 0 → more ≡ text ++ (if is_empty then [] else 44 ∷ []) ++ x → (start : List ℕ) → text ≡ start ++ join_with_byte 44 (take i ws) →
    more ≡ start ++ join_with_byte 44 (ws ++ x ∷ [])
join_last ws i is_empty x text more all empty is start so_far =
    let whole : text ≡ start ++ join_with_byte 44 ws = so_far ∙ ap (λ (vs : List (List ℕ)). start ++ join_with_byte 44 vs) (take_all i ws all) in
    let before : (if is_empty then [] else 44 ∷ []) ≡ gap ws = ap (λ t. if t then [] else 44 ∷ []) empty ∙ gap_of ws in
    is ∙ ap (λ t. t ++ (if is_empty then [] else 44 ∷ []) ++ x) whole ∙ ap (λ g. start ++ join_with_byte 44 ws ++ g ++ x) before
    ∙ ap (λ t. t ++ x) (append_assoc start (join_with_byte 44 ws) (gap ws)) ∙ append_assoc start (join_with_byte 44 ws ++ gap ws) x
    ∙ ap (λ t. start ++ t) (sym (join_push ws x))
