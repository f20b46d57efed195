-- A search over stores that tell their files finds something on the files.
use Rattle.std.proofs.Common.{◌≡◌, ℕ, zero, suc, ◌+◌, ◌-◌, ◌≤◌, ◌<◌, Bool, true, false, List, [], ◌∷◌, ◌++◌, length, map, Option, None, Some, refl, sym, subst, arith, cond}
use Rattle.std.proofs.lemmas.Bool.{leb-true, leb-false}
use Rattle.std.proofs.lemmas.List.Elements.{All-nil, All-append}
use Rattle.std.specs.Prelude.{nat_le}
use Rattle.std.specs.List.{All, range_with_len}
use Rattle.std.specs.FinMap as map_of
use Rattle.mac_io.specs.Files.{Files, IsFileAt}
use Rattle.mac_io.specs.Search.{Finds, IsReached, candidates, beside, behind, is_absolute, folder_of, told_by, source_limit}
use Rattle.mac_io.specs.SearchLaws.{AreTold, IsOnFiles}
use Rattle.mac_io.specs.declared.headers.FileId.{FileId}
use Rattle.mac_io.specs.declared.headers.Form.{Form}
use Rattle.mac_io.specs.declared.headers.Form.TheVariants.{Quote, Angle}
use Rattle.mac_io.specs.declared.headers.Located.{Located}
use Rattle.mac_io.specs.declared.headers.Located.TheVariants.{Found, Absent, TooLong}
use Rattle.mac_io.proofs.SearchLemmas.{found_behind}
use Rattle.pp_unit.specs.Files.{Stores}
use Rattle.pp_unit.specs.WalkLaws.{TellFiles}

-- the store of a file tells its files
abbrev pub IsTold : Stores → FileId → Type 0
IsTold stores id = (files : Files) × (told_by stores id.store ≡ Some files)

-- one element of a list
pub all_one : {A : Type 0} (P : A → Type 0) (x : A) → P x → All P (x ∷ [])
all_one P x p zero d below = p
all_one P x p (suc k) d below = absurd (omega arith)

all_cons : {A : Type 0} (P : A → Type 0) (x : A) (xs : List A) → P x → All P xs → All P (x ∷ xs)
all_cons P x xs p ps zero d below = p
all_cons P x xs p ps (suc k) d below = ps k d (omega (arith, below))

all_after : {A : Type 0} (P : A → Type 0) (x : A) (xs : List A) → All P (x ∷ xs) → All P xs
all_after P x xs ps k d below = ps (suc k) d (omega (arith, below))

-- the element after others
all_at : {A : Type 0} (P : A → Type 0) (before after : List A) (x : A) → All P (before ++ x ∷ after) → P x
all_at P [] after x ps = ps 0 x (omega arith)
all_at P (y ∷ before) after x ps = all_at P before after x (all_after P y (before ++ x ∷ after) ps)

-- a file that is reached is one of the candidates
pub reached_told : (stores : Stores) (ids : List FileId) (id : FileId) → AreTold stores ids → IsReached stores ids id → IsTold stores id
reached_told stores ids id told (before, after, is, absent) = all_at (IsTold stores) before after id (subst (AreTold stores) is told)

-- The candidates of a header are told.

pub store_told : (stores : Stores) → TellFiles stores → (store : ℕ) (name : List ℕ) → store < length stores → IsTold stores (record { store = store; name = name })
store_told stores tell store name below = tell.told store ([], None) below

after_told : (stores : Stores) → TellFiles stores → (name : List ℕ) (number n : ℕ) → number + n ≤ length stores →
    AreTold stores (map (λ (store : ℕ). record { store = store; name = name }) (range_with_len number n))
after_told stores tell name number zero enough = All-nil (IsTold stores)
after_told stores tell name number (suc n) enough =
    all_cons (IsTold stores) (record { store = number; name = name }) (map (λ (store : ℕ). record { store = store; name = name }) (range_with_len (number + 1) n))
    (store_told stores tell number name (omega (arith, enough))) (after_told stores tell name (number + 1) n (omega (arith, enough)))

beside_told : (stores : Stores) (includer : FileId) (form : Form) (name : List ℕ) → IsTold stores includer → AreTold stores (beside includer form name)
beside_told stores includer Quote name told = all_one (IsTold stores) (record { store = includer.store; name = folder_of includer.name ++ name }) told
beside_told stores includer Angle name told = All-nil (IsTold stores)

by_test : (stores : Stores) (t : Bool) (one other : List FileId) → AreTold stores one → AreTold stores other → AreTold stores (cond t one other)
by_test stores true one other a b = a
by_test stores false one other a b = b

pub candidates_told : (stores : Stores) (includer : FileId) (form : Form) (name : List ℕ) → TellFiles stores → IsTold stores includer → AreTold stores (candidates (length stores) includer form name)
candidates_told stores includer form name tell told =
    by_test stores (is_absolute name) (record { store = 0; name = name } ∷ []) (beside includer form name ++ behind (length stores) name)
    (all_one (IsTold stores) (record { store = 0; name = name }) (store_told stores tell 0 name tell.some))
    (All-append (IsTold stores) (beside includer form name) (behind (length stores) name) (beside_told stores includer form name told)
    (after_told stores tell name 1 (length stores - 1) (omega (arith, tell.some))))

-- Something is found.

abbrev FindsSome : Stores → List FileId → Type 0
FindsSome stores ids = (located : Located) × (bytes : List ℕ) × IsOnFiles located × Finds stores ids located [] bytes

first_reached : (stores : Stores) (id : FileId) (ids : List FileId) → IsReached stores (id ∷ ids) id
first_reached stores id ids = ([], ids, refl, All-nil (λ (other : FileId). IsFileAt (told_by stores other.store) other.name None))

by_limit : (stores : Stores) (id : FileId) (ids : List FileId) (bytes : List ℕ) → IsFileAt (told_by stores id.store) id.name (Some bytes) → (t : Bool) → nat_le (length bytes) source_limit ≡ t → FindsSome stores (id ∷ ids)
by_limit stores id ids bytes at true is = (Found id, bytes, tt, (first_reached stores id ids, (Some bytes, at, (bytes, refl, leb-true (length bytes) source_limit is, refl))))
by_limit stores id ids bytes at false is = (TooLong, [], tt, (id, first_reached stores id ids, (Some bytes, at, (bytes, refl, leb-false (length bytes) source_limit is, refl))))

by_file : (stores : Stores) (id : FileId) (ids : List FileId) (file : Option (List ℕ)) → IsFileAt (told_by stores id.store) id.name file → FindsSome stores ids → FindsSome stores (id ∷ ids)
by_file stores id ids (Some bytes) at rest = by_limit stores id ids bytes at (nat_le (length bytes) source_limit) refl
by_file stores id ids None at rest =
    (rest.0, rest.1, rest.2, found_behind stores (id ∷ []) ids rest.0 [] rest.1 (all_one (λ (other : FileId). IsFileAt (told_by stores other.store) other.name None) id at) rest.3)

pub found : (stores : Stores) (ids : List FileId) → AreTold stores ids → FindsSome stores ids
found stores [] told = (Absent, [], tt, (All-nil (λ (other : FileId). IsFileAt (told_by stores other.store) other.name None), refl))
found stores (id ∷ ids) told =
    let here = told 0 id (omega arith) in
    by_file stores id ids (map_of.get here.0 id.name) (subst (λ (t : Option Files). IsFileAt t id.name (map_of.get here.0 id.name)) (sym here.1) refl)
    (found stores ids (all_after (IsTold stores) id ids told))
