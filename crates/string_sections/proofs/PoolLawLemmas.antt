-- A pool is read by its offsets, and has exactly the strings that were added.
use Rattle.std.proofs.Common.{◌≡◌, ℕ, ◌+◌, Bool, true, false, cond, not, ◌&&◌, ◌||◌, List, [], ◌∷◌, ◌++◌, length, drop, Some, refl, ap, ◌∙◌, sym, arith, append_assoc, length-append}
use Rattle.std.specs.Prelude.{◌≢◌, IsTrue, bytes_eq}
use Rattle.std.specs.Option.{option_map}
use Rattle.std.specs.List.{AllByRecursion, fold}
use Rattle.std.proofs.Math.Dec.{eqb}
use Rattle.std.proofs.lemmas.Bool.Decides.{Decides-eqb}
use Rattle.std.proofs.lemmas.List.{drop_at, drop-drop}
use Rattle.mac_base.specs.Fields.{before_nul}
use Rattle.string_sections.specs.Strings.{string_of}
use Rattle.string_sections.specs.Pool.{has_string, add_string, pool_of, pool_bytes, offset_in}
use Rattle.string_sections.specs.PoolLaws.{are_different}
use Rattle.string_sections.proofs.PoolLemmas.{same_text, itself, bytes_first, offset_lacking, offset_kept, offset_put, has_put}

nul_by : (t : Bool) (byte : ℕ) (s more : List ℕ) → eqb byte 0 ≡ t → byte ≢ 0 → before_nul (s ++ 0 ∷ more) ≡ Some s → cond t (Some []) (option_map (λ text. byte ∷ text) (before_nul (s ++ 0 ∷ more))) ≡ Some (byte ∷ s)
nul_by true byte s more is none later = absurd (none ((Decides-eqb byte 0).0 is))
nul_by false byte s more is none later = ap (option_map (λ text. byte ∷ text)) later

before_nul_is : (s more : List ℕ) → AllByRecursion (λ b. b ≢ 0) s → before_nul (s ++ 0 ∷ more) ≡ Some s
before_nul_is [] more none = refl
before_nul_is (byte ∷ s) more none = nul_by (eqb byte 0) byte s more refl none.0 (before_nul_is s more none.1)

found_by : (t : Bool) (first s after : List ℕ) (pool : List (List ℕ)) → bytes_eq s first ≡ t → (t || has_string pool s) ≡ true → AllByRecursion (λ b. b ≢ 0) s
    → (has_string pool s ≡ true → string_of (pool_bytes pool ++ after) (offset_in pool s) ≡ Some s)
    → string_of ((first ++ 0 ∷ []) ++ (pool_bytes pool ++ after)) (cond t 0 (length first + 1 + offset_in pool s)) ≡ Some s
found_by true first s after pool same has none later =
    let one : first ≡ s = sym (same_text s first same) in
    ap (λ (xs : List ℕ). before_nul ((xs ++ 0 ∷ []) ++ (pool_bytes pool ++ after))) one
    ∙ ap before_nul (append_assoc s (0 ∷ []) (pool_bytes pool ++ after))
    ∙ before_nul_is s (pool_bytes pool ++ after) none
found_by false first s after pool same has none later =
    let long : length (first ++ 0 ∷ []) ≡ length first + 1 = length-append first (0 ∷ []) in
    let passed : drop (length first + 1 + offset_in pool s) ((first ++ 0 ∷ []) ++ (pool_bytes pool ++ after)) ≡ drop (offset_in pool s) (pool_bytes pool ++ after) =
    sym (drop-drop (offset_in pool s) (length first + 1) ((first ++ 0 ∷ []) ++ (pool_bytes pool ++ after)))
    ∙ ap (drop (offset_in pool s)) (drop_at (first ++ 0 ∷ []) (pool_bytes pool ++ after) (length first + 1) long) in
    ap before_nul passed ∙ later has

-- the string at the offset of a string
pub string_found : (pool : List (List ℕ)) (s after : List ℕ) → has_string pool s ≡ true → AllByRecursion (λ b. b ≢ 0) s → string_of (pool_bytes pool ++ after) (offset_in pool s) ≡ Some s
string_found [] s after has none = cc
string_found (first ∷ pool) s after has none =
    ap (λ (xs : List ℕ). string_of xs (offset_in (first ∷ pool) s)) (bytes_first first pool after)
    ∙ found_by (bytes_eq s first) first s after pool refl has none (λ there. string_found pool s after there none)

differ_by : (a b : Bool) (first s t : List ℕ) (pool : List (List ℕ)) → bytes_eq s first ≡ a → bytes_eq t first ≡ b → (a || has_string pool s) ≡ true → (b || has_string pool t) ≡ true
    → cond a 0 (length first + 1 + offset_in pool s) ≡ cond b 0 (length first + 1 + offset_in pool t) → (has_string pool s ≡ true → has_string pool t ≡ true → offset_in pool s ≡ offset_in pool t → s ≡ t) → s ≡ t
differ_by true true first s t pool one other has also same later = same_text s first one ∙ sym (same_text t first other)
differ_by true false first s t pool one other has also same later = absurd (omega (arith, same))
differ_by false true first s t pool one other has also same later = absurd (omega (arith, same))
differ_by false false first s t pool one other has also same later = later has also (omega (arith, same))

-- one offset, one string
pub offsets_differ : (pool : List (List ℕ)) (s t : List ℕ) → has_string pool s ≡ true → has_string pool t ≡ true → offset_in pool s ≡ offset_in pool t → s ≡ t
offsets_differ [] s t has also same = cc
offsets_differ (first ∷ pool) s t has also same = differ_by (bytes_eq s first) (bytes_eq t first) first s t pool refl refl has also same (offsets_differ pool s t)

or_false : (b : Bool) → (b || false) ≡ b
or_false true = refl
or_false false = refl

others_by : (t : Bool) (pool : List (List ℕ)) (s added : List ℕ) → has_string pool s ≡ true
    → IsTrue (has_string (cond t pool (pool ++ added ∷ [])) s) × (offset_in (cond t pool (pool ++ added ∷ [])) s ≡ offset_in pool s)
others_by true pool s added has = (has, refl)
others_by false pool s added has = ((has_put pool added s ∙ ap (λ h. h || (bytes_eq s added || false)) has), offset_kept pool s added has)

pub others_kept : (pool : List (List ℕ)) (s added : List ℕ) → has_string pool s ≡ true → IsTrue (has_string (add_string pool added) s) × (offset_in (add_string pool added) s ≡ offset_in pool s)
others_kept pool s added has = others_by (has_string pool added) pool s added has

added_by : (t : Bool) (pool : List (List ℕ)) (s : List ℕ) → has_string pool s ≡ t → IsTrue (has_string (cond t pool (pool ++ s ∷ [])) s) × (offset_in (cond t pool (pool ++ s ∷ [])) s ≡ offset_in pool s)
added_by true pool s has = (has, refl)
added_by false pool s has =
    ((has_put pool s s ∙ ap (λ h. h || (bytes_eq s s || false)) has ∙ or_false (bytes_eq s s) ∙ itself s), offset_put pool s has ∙ sym (offset_lacking pool s has))

pub itself_added : (pool : List (List ℕ)) (s : List ℕ) → IsTrue (has_string (add_string pool s) s) × (offset_in (add_string pool s) s ≡ offset_in pool s)
itself_added pool s = added_by (has_string pool s) pool s refl

there_by : (t h : Bool) (pool : List (List ℕ)) (s added : List ℕ) → bytes_eq s added ≡ t → has_string pool s ≡ h → has_string pool added ≡ true → h ≡ (h || t)
there_by true true pool s added same has there = refl
there_by true false pool s added same has there =
    let one : has_string pool s ≡ has_string pool added = ap (has_string pool) (same_text s added same) in
    cc
there_by false h pool s added same has there = sym (or_false h)

has_by : (t : Bool) (pool : List (List ℕ)) (s added : List ℕ) → has_string pool added ≡ t → has_string (cond t pool (pool ++ added ∷ [])) s ≡ (has_string pool s || bytes_eq s added)
has_by true pool s added there = there_by (bytes_eq s added) (has_string pool s) pool s added refl refl there
has_by false pool s added there = has_put pool added s ∙ ap (λ t. has_string pool s || t) (or_false (bytes_eq s added))

or_assoc : (a b c : Bool) → ((a || b) || c) ≡ (a || (b || c))
or_assoc true b c = refl
or_assoc false b c = refl

members_from : (added pool : List (List ℕ)) (s : List ℕ) → has_string (fold add_string pool added) s ≡ (has_string pool s || has_string added s)
members_from [] pool s = sym (or_false (has_string pool s))
members_from (first ∷ added) pool s =
    members_from added (add_string pool first) s ∙ ap (λ h. h || has_string added s) (has_by (has_string pool first) pool s first refl) ∙ or_assoc (has_string pool s) (bytes_eq s first) (has_string added s)

pub members : (added : List (List ℕ)) (s : List ℕ) → has_string (pool_of added) s ≡ has_string added s
members added s = members_from added [] s

lacks_back : (t : Bool) (a b : List ℕ) → bytes_eq b a ≡ t → bytes_eq a b ≡ false → t ≡ false
lacks_back true a b same apart =
    let one : bytes_eq a b ≡ bytes_eq a a = ap (bytes_eq a) (same_text b a same) in
    let is = itself a in
    cc
lacks_back false a b same apart = refl

both_by : (t u : Bool) (first added : List ℕ) (pool : List (List ℕ)) → bytes_eq added first ≡ t → (t || u) ≡ false → (t ≡ false) × (u ≡ false)
both_by true u first added pool is none = cc
both_by false u first added pool is none = (refl, none)

and_true : (a b : Bool) → (a && b) ≡ true → (a ≡ true) × (b ≡ true)
and_true true b is = (refl, is)
and_true false b is = cc

different_put : (pool : List (List ℕ)) (added : List ℕ) → has_string pool added ≡ false → are_different pool ≡ true → are_different (pool ++ added ∷ []) ≡ true
different_put [] added lacks are = refl
different_put (first ∷ pool) added lacks are =
    let parts = both_by (bytes_eq added first) (has_string pool added) first added pool refl lacks in
    let more = and_true (not (has_string pool first)) (are_different pool) are in
    let back : bytes_eq first added ≡ false = lacks_back (bytes_eq first added) added first refl parts.0 in
    let still : has_string (pool ++ added ∷ []) first ≡ has_string pool first = has_put pool added first ∙ ap (λ t. has_string pool first || (t || false)) back ∙ or_false (has_string pool first) in
    ap (λ h. not h && are_different (pool ++ added ∷ [])) still ∙ ap (λ d. not (has_string pool first) && d) (different_put pool added parts.1 more.1) ∙ ap (λ d. d && true) more.0

once_by : (t : Bool) (pool : List (List ℕ)) (added : List ℕ) → has_string pool added ≡ t → are_different pool ≡ true → are_different (cond t pool (pool ++ added ∷ [])) ≡ true
once_by true pool added has are = are
once_by false pool added has are = different_put pool added has are

once_from : (added pool : List (List ℕ)) → are_different pool ≡ true → are_different (fold add_string pool added) ≡ true
once_from [] pool are = are
once_from (first ∷ added) pool are = once_from added (add_string pool first) (once_by (has_string pool first) pool first refl are)

pub once : (added : List (List ℕ)) → IsTrue (are_different (pool_of added))
once added = once_from added [] refl
