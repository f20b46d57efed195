-- Searches, from the answers of their parts.
use Rattle.std.proofs.Common.{◌≡◌, ◌≢◌, ◌↔◌, Bool, true, false, IsTrue, if◌then◌else◌, ℕ, ◌-◌, ◌+◌, ◌<◌, suc, List, [], ◌∷◌, ◌++◌, length, map, Option, None, refl, ap, sym, ◌∙◌, subst, arith}
use Rattle.std.proofs.lemmas.List.{append_assoc}
use Rattle.std.proofs.lemmas.List.Elements.{All-nil, All-append}
use Rattle.std.specs.List.{range_with_len}
use Rattle.mac_io.specs.Files.{Files, IsFileAt}
use Rattle.mac_io.specs.Calls.{FetchesFrom}
use Rattle.mac_io.specs.Search.{Finds, IsReached, AreAbsent, candidates, beside, behind, is_absolute, told_by, source_limit}
use Rattle.mac_io.specs.declared.headers.FileId.{FileId}
use Rattle.mac_io.specs.declared.headers.Form.{Form}
use Rattle.mac_io.specs.declared.headers.Located.{Located}
use Rattle.mac_io.specs.declared.headers.Located.TheVariants.{Found, Absent, TooLong, Failed, NoMemory}
use Rattle.mac_io.specs.declared.shelf.Fetched.TheVariants.{Found as FetchedFound, TooLong as FetchedTooLong, Failed as FetchedFailed}

abbrev Stores : Type 0
Stores = List (List ℕ × Option Files)

-- the only candidate
only : (stores : Stores) (id : FileId) → IsReached stores (id ∷ []) id
only stores id = ([], [], refl, All-nil (λ (other : FileId). IsFileAt (told_by stores other.store) other.name None))

pub one_found : (stores : Stores) (store : ℕ) (name copied : List ℕ) (old new : List ℕ) → copied ≡ name → FetchesFrom (told_by stores store) name source_limit FetchedFound old new → Finds stores (record { store = store; name = name } ∷ []) (Found (record { store = store; name = copied })) old new
one_found stores store name copied old new same is = subst (λ n. Finds stores (record { store = store; name = name } ∷ []) (Found (record { store = store; name = n })) old new) (sym same) (only stores (record { store = store; name = name }), is)

pub one_too_long : (stores : Stores) (id : FileId) (old new : List ℕ) → FetchesFrom (told_by stores id.store) id.name source_limit FetchedTooLong old new → Finds stores (id ∷ []) TooLong old new
one_too_long stores id old new is = (id, only stores id, is)

pub one_failed : (stores : Stores) (id : FileId) (old new : List ℕ) → FetchesFrom (told_by stores id.store) id.name source_limit FetchedFailed old new → Finds stores (id ∷ []) Failed old new
one_failed stores id old new is = (id, only stores id, is)

-- a candidate that is reached after others that are absent
reached_behind : (stores : Stores) (front ids : List FileId) (id : FileId) → AreAbsent stores front → IsReached stores ids id → IsReached stores (front ++ ids) id
reached_behind stores front ids id absent (before, after, is, none) =
    (front ++ before, after, ap (λ xs. front ++ xs) is ∙ sym (append_assoc front before (id ∷ after)), All-append (λ (other : FileId). IsFileAt (told_by stores other.store) other.name None) front before absent none)

-- a search goes on after candidates that are absent
pub found_behind : (stores : Stores) (front ids : List FileId) (answer : Located) (old new : List ℕ) → AreAbsent stores front → Finds stores ids answer old new → Finds stores (front ++ ids) answer old new
found_behind stores front ids (Found id) old new absent (is, found) = (reached_behind stores front ids id absent is, found)
found_behind stores front ids Absent old new absent (none, same) = (All-append (λ (other : FileId). IsFileAt (told_by stores other.store) other.name None) front ids absent none, same)
found_behind stores front ids TooLong old new absent (id, is, found) = (id, reached_behind stores front ids id absent is, found)
found_behind stores front ids Failed old new absent (id, is, found) = (id, reached_behind stores front ids id absent is, found)
found_behind stores front ids NoMemory old new absent same = same

-- candidates that are not asked
reached_before : (stores : Stores) (ids others : List FileId) (id : FileId) → IsReached stores ids id → IsReached stores (ids ++ others) id
reached_before stores ids others id (before, after, is, none) =
    (before, after ++ others, ap (λ xs. xs ++ others) is ∙ append_assoc before (id ∷ after) others, none)

-- a search ends with an answer other than that all were absent
pub found_before : (stores : Stores) (ids others : List FileId) (answer : Located) (old new : List ℕ) → answer ≢ Absent → Finds stores ids answer old new → Finds stores (ids ++ others) answer old new
found_before stores ids others (Found id) old new other (is, found) = (reached_before stores ids others id is, found)
found_before stores ids others Absent old new other found = absurd (other refl)
found_before stores ids others TooLong old new other (id, is, found) = (id, reached_before stores ids others id is, found)
found_before stores ids others Failed old new other (id, is, found) = (id, reached_before stores ids others id is, found)
found_before stores ids others NoMemory old new other same = same

-- the name in the stores from a number on
abbrev pub from : ℕ → ℕ → List ℕ → List FileId
from number count name = map (λ (store : ℕ). record { store = store; name = name }) (range_with_len number (count - number))

from_here : (number count k : ℕ) (name : List ℕ) → k ≡ count - (number + 1) → count - number ≡ suc k → from number count name ≡ record { store = number; name = name } ∷ from (number + 1) count name
from_here number count k name is here =
    ap (λ n. map (λ (store : ℕ). record { store = store; name = name }) (range_with_len number n)) here
    ∙ ap (λ n. record { store = number; name = name } ∷ map (λ (store : ℕ). record { store = store; name = name }) (range_with_len (number + 1) n)) is

-- the first of them and the others
pub from_next : (number count : ℕ) (name : List ℕ) → number < count → from number count name ≡ record { store = number; name = name } ∷ from (number + 1) count name
from_next number count name below = from_here number count (count - (number + 1)) name refl (omega arith)

-- none is left
pub from_end : (number count : ℕ) (name : List ℕ) → count - number ≡ 0 → from number count name ≡ []
from_end number count name is = ap (λ n. map (λ (store : ℕ). record { store = store; name = name }) (range_with_len number n)) is

-- an answer is that all were absent, or it is not
pub is_other : (absent : Bool) (answer : Located) → IsTrue absent ↔ (answer ≡ Absent) → absent ≡ false → answer ≢ Absent
is_other absent answer means is none = let all : IsTrue absent = means.1 none in cc

pub is_absent : (absent : Bool) (answer : Located) → IsTrue absent ↔ (answer ≡ Absent) → absent ≡ true → answer ≡ Absent
is_absent absent answer means is = means.0 is

pub no_fault : (answer : Located) → answer ≡ Absent → answer ≡ Failed → ⊥
no_fault answer none fault = cc

-- the same search where nothing has changed
pub moved : (stores later : Stores) (ids : List FileId) (answer : Located) (old left new : List ℕ) → later ≡ stores → left ≡ old → Finds later ids answer left new → Finds stores ids answer old new
moved stores later ids answer old left new same kept found =
    subst (λ s. Finds s ids answer old new) same (subst (λ l. Finds later ids answer l new) kept found)

-- a search that finds nothing
pub all_absent : (stores : Stores) (ids : List FileId) (answer : Located) (old new : List ℕ) → answer ≡ Absent → Finds stores ids answer old new → AreAbsent stores ids × (new ≡ old)
all_absent stores ids answer old new none found = subst (λ a. Finds stores ids a old new) none found

-- the first store of those that are left has the file
pub stops_here : (stores : Stores) (number count : ℕ) (name : List ℕ) (answer : Located) (old new : List ℕ) → number < count → answer ≢ Absent → Finds stores (record { store = number; name = name } ∷ []) answer old new → Finds stores (from number count name) answer old new
stops_here stores number count name answer old new below other found =
    subst (λ ids. Finds stores ids answer old new) (sym (from_next number count name below))
    (found_before stores (record { store = number; name = name } ∷ []) (from (number + 1) count name) answer old new other found)

-- the first store of those that are left lacks the file
pub goes_on : (stores : Stores) (number count : ℕ) (name : List ℕ) (first : Located) (old left : List ℕ) → number < count → first ≡ Absent → Finds stores (record { store = number; name = name } ∷ []) first old left → (answer : Located) (new : List ℕ) → Finds stores (from (number + 1) count name) answer old new → Finds stores (from number count name) answer old new
goes_on stores number count name first old left below none here answer new found =
    let absent = all_absent stores (record { store = number; name = name } ∷ []) first old left none here in
    subst (λ ids. Finds stores ids answer old new) (sym (from_next number count name below))
    (found_behind stores (record { store = number; name = name } ∷ []) (from (number + 1) count name) answer old new absent.0 found)

-- no store is left
pub none_left : (stores : Stores) (number count : ℕ) (name : List ℕ) (old : List ℕ) → count - number ≡ 0 → Finds stores (from number count name) Absent old old
none_left stores number count name old is =
    subst (λ ids. Finds stores ids Absent old old) (sym (from_end number count name is))
    (All-nil (λ (other : FileId). IsFileAt (told_by stores other.store) other.name None), refl)

second : (test : Bool) (first others : List FileId) → test ≡ false → others ≡ (if test then first else others)
second test first others is = rw is refl

-- a file that is absent beside the includer is looked for in the other stores
pub goes_behind : (stores later : Stores) (includer : FileId) (form : Form) (name : List ℕ) (first answer : Located) (old left new : List ℕ) → later ≡ stores → first ≡ Absent → is_absolute name ≡ false → Finds stores (beside includer form name) first old left → Finds later (behind (length later) name) answer left new → Finds stores (candidates (length stores) includer form name) answer old new
goes_behind stores later includer form name first answer old left new same none relative here there =
    let absent = all_absent stores (beside includer form name) first old left none here in
    let rest : Finds stores (behind (length stores) name) answer old new =
    subst (λ l. Finds stores (behind (length stores) name) answer l new) absent.1 (subst (λ s. Finds s (behind (length s) name) answer left new) same there) in
    subst (λ ids. Finds stores ids answer old new)
    (second (is_absolute name) (record { store = 0; name = name } ∷ []) (beside includer form name ++ behind (length stores) name) relative)
    (found_behind stores (beside includer form name) (behind (length stores) name) answer old new absent.0 rest)
