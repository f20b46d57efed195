-- A search over stores that tell their files has an answer on the files.
use Rattle.std.proofs.Common.{◌≡◌, ℕ, zero, suc, ◌+◌, ◌-◌, ◌≤◌, ◌<◌, Bool, true, false, List, [], ◌∷◌, ◌++◌, length, map, Option, None, Some, refl, sym, subst, arith, cond}
use Rattle.std.proofs.lemmas.Bool.{leb-true, leb-false}
use Rattle.std.proofs.lemmas.List.Elements.{All-nil, All-cons, All-append}
use Rattle.std.specs.Prelude.{nat_le}
use Rattle.std.specs.List.{range_with_len}
use Rattle.std.specs.FinMap as map_of
use Rattle.mac_io.specs.Files.{Files, IsFileAt}
use Rattle.mac_io.specs.Search.{Finds, IsReached, candidates, beside, behind, is_absolute, folder_of, told_by, source_limit}
use Rattle.mac_io.specs.SearchLaws.{AreTold, IsOnFiles, TellsFiles}
use Rattle.mac_io.specs.declared.headers.FileId.{FileId}
use Rattle.mac_io.specs.declared.headers.Form.{Form}
use Rattle.mac_io.specs.declared.headers.Form.TheVariants.{Quote, Angle}
use Rattle.mac_io.specs.declared.headers.Located.{Located}
use Rattle.mac_io.specs.declared.headers.Located.TheVariants.{Found, Absent, TooLong}
use Rattle.mac_io.proofs.SearchLemmas.{found_behind}
use Rattle.mac_io.proofs.OneSearchLemmas.{one_answer}

abbrev Stores : Type 0
Stores = List (List ℕ × Option Files)

-- the store of a candidate tells its files
abbrev IsTold : Stores → FileId → Type 0
IsTold stores id = (files : Files) × (told_by stores id.store ≡ Some files)

abbrev IsNone : Stores → FileId → Type 0
IsNone stores id = IsFileAt (told_by stores id.store) id.name None

-- The candidates of a header are told.

numbers_told : (stores : Stores) → TellsFiles stores → (name : List ℕ) (number n : ℕ) → number + n ≤ length stores →
    AreTold stores (map (λ (store : ℕ). record { store = store; name = name }) (range_with_len number n))
numbers_told stores tell name number zero enough = All-nil (IsTold stores)
numbers_told stores tell name number (suc n) enough =
    All-cons (IsTold stores) (record { store = number; name = name }) (map (λ (store : ℕ). record { store = store; name = name }) (range_with_len (number + 1) n))
    (tell number ([], None) (omega (arith, enough))) (numbers_told stores tell name (number + 1) n (omega (arith, enough)))

beside_told : (stores : Stores) (includer : FileId) (form : Form) (name : List ℕ) → IsTold stores includer → AreTold stores (beside includer form name)
beside_told stores includer Quote name told = All-cons (IsTold stores) (record { store = includer.store; name = folder_of includer.name ++ name }) [] told (All-nil (IsTold stores))
beside_told stores includer Angle name told = All-nil (IsTold stores)

by_test : (stores : Stores) (t : Bool) (one other : List FileId) → AreTold stores one → AreTold stores other → AreTold stores (cond t one other)
by_test stores true one other a b = a
by_test stores false one other a b = b

candidates_told : (stores : Stores) (includer : FileId) (form : Form) (name : List ℕ) → TellsFiles stores → includer.store < length stores → AreTold stores (candidates (length stores) includer form name)
candidates_told stores includer form name tell within =
    by_test stores (is_absolute name) (record { store = 0; name = name } ∷ []) (beside includer form name ++ behind (length stores) name)
    (All-cons (IsTold stores) (record { store = 0; name = name }) [] (tell 0 ([], None) (omega (arith, within))) (All-nil (IsTold stores)))
    (All-append (IsTold stores) (beside includer form name) (behind (length stores) name) (beside_told stores includer form name (tell includer.store ([], None) within))
    (numbers_told stores tell name 1 (length stores - 1) (omega (arith, within))))

-- Something is found.

abbrev FindsSome : Stores → List FileId → List ℕ → Type 0
FindsSome stores ids old = (answer : Located) × (new : List ℕ) × IsOnFiles answer × Finds stores ids answer old new

first_reached : (stores : Stores) (id : FileId) (ids : List FileId) → IsReached stores (id ∷ ids) id
first_reached stores id ids = ([], ids, refl, All-nil (IsNone stores))

by_limit : (stores : Stores) (id : FileId) (ids : List FileId) (old bytes : List ℕ) → IsFileAt (told_by stores id.store) id.name (Some bytes) → (t : Bool) → nat_le (length bytes) source_limit ≡ t → FindsSome stores (id ∷ ids) old
by_limit stores id ids old bytes at true is = (Found id, old ++ bytes, tt, (first_reached stores id ids, (Some bytes, at, (bytes, refl, leb-true (length bytes) source_limit is, refl))))
by_limit stores id ids old bytes at false is = (TooLong, old, tt, (id, first_reached stores id ids, (Some bytes, at, (bytes, refl, leb-false (length bytes) source_limit is, refl))))

by_file : (stores : Stores) (id : FileId) (ids : List FileId) (old : List ℕ) (file : Option (List ℕ)) → IsFileAt (told_by stores id.store) id.name file → FindsSome stores ids old → FindsSome stores (id ∷ ids) old
by_file stores id ids old (Some bytes) at rest = by_limit stores id ids old bytes at (nat_le (length bytes) source_limit) refl
by_file stores id ids old None at rest =
    (rest.0, rest.1, rest.2, found_behind stores (id ∷ []) ids rest.0 old rest.1 (All-cons (IsNone stores) id [] at (All-nil (IsNone stores))) rest.3)

found : (stores : Stores) (ids : List FileId) (old : List ℕ) → AreTold stores ids → FindsSome stores ids old
found stores [] old told = (Absent, old, tt, (All-nil (IsNone stores), refl))
found stores (id ∷ ids) old told =
    let here = told 0 id (omega arith) in
    by_file stores id ids old (map_of.get here.0 id.name) (subst (λ (t : Option Files). IsFileAt t id.name (map_of.get here.0 id.name)) (sym here.1) refl)
    (found stores ids old (λ k d below. told (suc k) d (omega (arith, below))))

-- and nothing else
pub decided : (stores : Stores) (includer : FileId) (form : Form) (name old : List ℕ) → TellsFiles stores → includer.store < length stores → (answer : Located) × (new : List ℕ) × IsOnFiles answer × Finds stores (candidates (length stores) includer form name) answer old new × ((other : Located) (left : List ℕ) → IsOnFiles other → Finds stores (candidates (length stores) includer form name) other old left → (other ≡ answer) × (left ≡ new))
decided stores includer form name old tell within =
    let ids = candidates (length stores) includer form name in
    let told = candidates_told stores includer form name tell within in
    let some = found stores ids old told in
    (some.0, some.1, some.2, some.3, λ other left on finds. one_answer stores ids told other some.0 old left some.1 on some.2 finds some.3)
