-- Files that are kept as two lists, names and contents.
use Rattle.std.proofs.Common.{◌≡◌, ℕ, zero, suc, ◌+◌, ◌<◌, Bool, true, false, cond, List, [], ◌∷◌, ◌++◌, length, get_or, set, Option, Some, None, refl, ap, ◌∙◌, sym, subst, arith}
use Rattle.std.proofs.lemmas.List.Quantifiers.{position-Some}
use Rattle.std.proofs.lemmas.List.Elements.{All-head, All-tail}
use Rattle.std.proofs.lemmas.Iterator.Adapters.{position_from-zero}
use Rattle.std.proofs.lemmas.Map.Text.{is_eq-slice_cmp}
use Rattle.std.proofs.lemmas.Slice.Eq.{bytes_eq-Decides}
use Rattle.std.proofs.lemmas.Cmp.{eq_by_cmp_equiv}
use Rattle.std.specs.List.{All, position, position_from, zip}
use Rattle.std.specs.Ordering.{nat_cmp, eq_by_cmp}
use Rattle.std.specs.Str.{bytes_eq}
use Rattle.std.specs.Cmp.Lexicographic.{slice_cmp, nat_list_cmp_total}
use Rattle.std.specs.FinMap as map
use Rattle.mac_io.specs.Files.{Files, AreBytes, AreAllBytes, AreFilesOfBytes, files_of}
use Rattle.mac_base.proofs.TestLemmas.{cond_again, cond_swapped}

-- the map's test for a name
abbrev same : List ℕ → List ℕ → Bool
same = eq_by_cmp (slice_cmp nat_cmp)

same_is : (n q : List ℕ) → same q n ≡ bytes_eq n q
same_is n q = (eq_by_cmp_equiv nat_list_cmp_total).symm q n ∙ is_eq-slice_cmp n q

same_name : (n q : List ℕ) → same q n ≡ true → n ≡ q
same_name n q is = (bytes_eq-Decides n q).0 (sym (same_is n q) ∙ is)

none_left : (t : Bool) (i : ℕ) (p : Option ℕ) → None ≡ cond t (Some i) p → (t ≡ false) × (None ≡ p)
none_left true i p none = cc
none_left false i p none = (refl, none)

no_file_from : (names contents : List (List ℕ)) (q : List ℕ) (i : ℕ) → None ≡ position_from (λ n. bytes_eq n q) i names → map.find (slice_cmp nat_cmp) q (zip names contents) ≡ None
no_file_from [] contents q i none = refl
no_file_from (n ∷ names) [] q i none = refl
no_file_from (n ∷ names) (c ∷ contents) q i none =
    let parts = none_left (bytes_eq n q) i _ none in
    ap (λ t. cond t (Some c) (map.find (slice_cmp nat_cmp) q (zip names contents))) (same_is n q ∙ parts.0) ∙ no_file_from names contents q (i + 1) parts.1

no_file : (names contents : List (List ℕ)) (q : List ℕ) → None ≡ position (λ n. bytes_eq n q) names → map.find (slice_cmp nat_cmp) q (zip names contents) ≡ None
no_file names contents q none = no_file_from names contents q 0 (none ∙ position_from-zero (λ n. bytes_eq n q) names)

-- a name that is nowhere has no file
pub no_place : (names contents : List (List ℕ)) (q : List ℕ) → None ≡ position (λ n. bytes_eq n q) names → map.get (files_of names contents) q ≡ None
no_place names contents q none = map.get-from_entries nat_list_cmp_total (zip names contents) q ∙ no_file names contents q none

-- k is the place of the first such name
record IsPlace (names : List (List ℕ)) (q : List ℕ) (k : ℕ) : Type 0 where
  within : k < length names
  here : bytes_eq (get_or names k []) q ≡ true
  before : (j : ℕ) → j < k → bytes_eq (get_or names j []) q ≡ false

place : (names : List (List ℕ)) (q : List ℕ) (k : ℕ) → Some k ≡ position (λ n. bytes_eq n q) names → IsPlace names q k
place names q k is =
    let found = position-Some (λ n. bytes_eq n q) names k [] (sym is) in
    record { within = found.0; here = found.1; before = found.2 }

later : (n : List ℕ) (names : List (List ℕ)) (q : List ℕ) (k : ℕ) → IsPlace (n ∷ names) q (suc k) → IsPlace names q k
later n names q k is = record { within = omega (arith, is.within); here = is.here; before = λ j h. is.before (suc j) (omega arith) }

file_at : (names contents : List (List ℕ)) (q : List ℕ) (k : ℕ) → length names ≡ length contents → IsPlace names q k → map.find (slice_cmp nat_cmp) q (zip names contents) ≡ Some (get_or contents k [])
file_at [] contents q k even is = absurd (omega (arith, is.within))
file_at (n ∷ names) [] q k even is = absurd (omega arith)
file_at (n ∷ names) (c ∷ contents) q zero even is = ap (λ t. cond t (Some c) (map.find (slice_cmp nat_cmp) q (zip names contents))) (same_is n q ∙ is.here)
file_at (n ∷ names) (c ∷ contents) q (suc k) even is =
    let first : bytes_eq n q ≡ false = is.before 0 (omega arith) in
    ap (λ t. cond t (Some c) (map.find (slice_cmp nat_cmp) q (zip names contents))) (same_is n q ∙ first)
    ∙ file_at names contents q k (omega arith) (later n names q k is)

-- the file of a name is the content at its place
pub file_at_place : (names contents : List (List ℕ)) (q : List ℕ) (k : ℕ) → length names ≡ length contents → Some k ≡ position (λ n. bytes_eq n q) names → map.get (files_of names contents) q ≡ Some (get_or contents k [])
file_at_place names contents q k even is = map.get-from_entries nat_list_cmp_total (zip names contents) q ∙ file_at names contents q k even (place names q k is)

replaced : (names contents : List (List ℕ)) (name c : List ℕ) (k : ℕ) (q : List ℕ) → length names ≡ length contents → IsPlace names name k → map.find (slice_cmp nat_cmp) q (zip names (set contents k c)) ≡ cond (same q name) (Some c) (map.find (slice_cmp nat_cmp) q (zip names contents))
replaced [] contents name c k q even is = absurd (omega (arith, is.within))
replaced (n ∷ names) [] name c k q even is = absurd (omega arith)
replaced (n ∷ names) (x ∷ contents) name c zero q even is =
    let one : n ≡ name = (bytes_eq-Decides n name).0 is.here in
    cond_again (same q n) (same q name) (Some c) (Some x) (map.find (slice_cmp nat_cmp) q (zip names contents)) (ap (same q) one)
replaced (n ∷ names) (x ∷ contents) name c (suc k) q even is =
    let other : bytes_eq n name ≡ false = is.before 0 (omega arith) in
    let apart : same q n ≡ true → same q name ≡ true → ⊥ =
    λ a b. let both : n ≡ name = same_name n q a ∙ sym (same_name name q b) in let yes : bytes_eq n name ≡ true = (bytes_eq-Decides n name).1 both in cc in
    ap (cond (same q n) (Some x)) (replaced names contents name c k q (omega arith) (later n names name k is))
    ∙ cond_swapped (same q n) (same q name) (Some x) (Some c) (map.find (slice_cmp nat_cmp) q (zip names contents)) apart

-- a new content at the place of its name
pub replaced_file : (names contents : List (List ℕ)) (name c : List ℕ) (k : ℕ) → length names ≡ length contents → Some k ≡ position (λ n. bytes_eq n name) names → files_of names (set contents k c) ≡ map.insert (files_of names contents) name c
replaced_file names contents name c k even is =
    map.same_map nat_list_cmp_total (map.slice_cmp-IsAntisymmetric map.nat_cmp-IsAntisymmetric) _ _ (λ q.
    map.get-from_entries nat_list_cmp_total (zip names (set contents k c)) q ∙ replaced names contents name c k q even (place names name k is)
    ∙ sym (map.get-insert nat_list_cmp_total (files_of names contents) name c q ∙ ap (cond (same q name) (Some c)) (map.get-from_entries nat_list_cmp_total (zip names contents) q)))

zip_push : (names contents : List (List ℕ)) (n c : List ℕ) → length names ≡ length contents → zip (names ++ n ∷ []) (contents ++ c ∷ []) ≡ zip names contents ++ (n, c) ∷ []
zip_push [] [] n c even = refl
zip_push [] (x ∷ contents) n c even = absurd (omega arith)
zip_push (m ∷ names) [] n c even = absurd (omega arith)
zip_push (m ∷ names) (x ∷ contents) n c even = ap (λ es. (m, x) ∷ es) (zip_push names contents n c (omega arith))

-- a name that is nowhere, and its content, after the others
pub pushed_file : (names contents : List (List ℕ)) (n c : List ℕ) → length names ≡ length contents → None ≡ position (λ m. bytes_eq m n) names → files_of (names ++ n ∷ []) (contents ++ c ∷ []) ≡ map.insert (files_of names contents) n c
pushed_file names contents n c even none =
    ap (λ (es : List (List ℕ × List ℕ)). map.from_entries {R = slice_cmp nat_cmp} es) (zip_push names contents n c even)
    ∙ map.from_entries_push nat_list_cmp_total (map.slice_cmp-IsAntisymmetric map.nat_cmp-IsAntisymmetric) (zip names contents) n c (no_file names contents n none)

-- a place is one of a name
pub place_within : (names : List (List ℕ)) (q : List ℕ) (k : ℕ) → Some k ≡ position (λ n. bytes_eq n q) names → k < length names
place_within names q k is = (place names q k is).within

chosen_bytes : (t : Bool) (c : List ℕ) (rest : Option (List ℕ)) → All (λ byte. byte < 256) c → AreBytes rest → AreBytes (cond t (Some c) rest)
chosen_bytes true c rest bytes others = bytes
chosen_bytes false c rest bytes others = others

found_bytes : (names contents : List (List ℕ)) (q : List ℕ) → AreAllBytes contents → AreBytes (map.find (slice_cmp nat_cmp) q (zip names contents))
found_bytes [] contents q bytes = tt
found_bytes (n ∷ names) [] q bytes = tt
found_bytes (n ∷ names) (c ∷ contents) q bytes =
    chosen_bytes (same q n) c (map.find (slice_cmp nat_cmp) q (zip names contents)) (All-head (λ (content : List ℕ). All (λ byte. byte < 256) content) c contents bytes)
    (found_bytes names contents q (All-tail (λ (content : List ℕ). All (λ byte. byte < 256) content) c contents bytes))

-- files whose contents are bytes
pub files_of_bytes : (files : Files) (names contents : List (List ℕ)) → files ≡ files_of names contents → AreAllBytes contents → AreFilesOfBytes (Some files)
files_of_bytes files names contents is bytes = λ q. subst AreBytes (sym (ap (λ (f : Files). map.get f q) is ∙ map.get-from_entries nat_list_cmp_total (zip names contents) q)) (found_bytes names contents q bytes)
