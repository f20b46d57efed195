-- A search has one answer.
use Rattle.std.proofs.Common.{◌≡◌, ◌⊎◌, inl, inr, ℕ, ◌<◌, ◌≤◌, suc, List, [], ◌∷◌, ◌++◌, length, Option, Some, None, refl, ap, sym, ◌∙◌, subst, arith}
use Rattle.mac_io.specs.Files.{Files, IsFileAt}
use Rattle.mac_io.specs.Calls.{FetchesFrom}
use Rattle.mac_io.specs.Search.{Finds, IsReached, told_by, source_limit}
use Rattle.mac_io.specs.SearchLaws.{AreTold, IsOnFiles}
use Rattle.mac_io.specs.declared.headers.FileId.{FileId}
use Rattle.mac_io.specs.declared.headers.Located.{Located}
use Rattle.mac_io.specs.declared.headers.Located.TheVariants.{Found, Absent, TooLong, Failed, NoMemory}
use Rattle.mac_io.specs.declared.shelf.Fetched.TheVariants.{Found as FetchedFound, TooLong as FetchedTooLong}

abbrev Stores : Type 0
Stores = List (List ℕ × Option Files)

-- a store that tells its files has one at a name, or none
once : (files : Files) (told : Option Files) (name : List ℕ) (one other : Option (List ℕ)) → told ≡ Some files → IsFileAt told name one → IsFileAt told name other → one ≡ other
once files told name one other is first second =
    let a : IsFileAt (Some files) name one = subst (λ t. IsFileAt t name one) is first in
    let b : IsFileAt (Some files) name other = subst (λ t. IsFileAt t name other) is second in
    sym a ∙ b

-- what a search says, by the first candidate: it is there, or the search is that of the others
abbrev Here : Stores → FileId → Located → List ℕ → List ℕ → Type 0
Here stores id answer old new = (bytes : List ℕ) × IsFileAt (told_by stores id.store) id.name (Some bytes) × (((length bytes ≤ source_limit) × (answer ≡ Found id) × (new ≡ old ++ bytes)) ⊎ ((source_limit < length bytes) × (answer ≡ TooLong) × (new ≡ old)))

abbrev Behind : Stores → FileId → List FileId → Located → List ℕ → List ℕ → Type 0
Behind stores id ids answer old new = IsFileAt (told_by stores id.store) id.name None × Finds stores ids answer old new

reached_next : (stores : Stores) (first : FileId) (ids : List FileId) (id : FileId) → IsReached stores (first ∷ ids) id → (id ≡ first) ⊎ (IsFileAt (told_by stores first.store) first.name None × IsReached stores ids id)
reached_next stores first ids id ([], after, is, none) = let same : first ≡ id = cc in inl (sym same)
reached_next stores first ids id (x ∷ before, after, is, none) =
    let same : first ≡ x = cc in
    let rest : ids ≡ before ++ id ∷ after = cc in
    inr (subst (λ y. IsFileAt (told_by stores y.store) y.name None) (sym same) (none 0 x (omega arith)), (before, after, rest, λ k d h. none (suc k) d (omega (arith, h))))

at_first : (stores : Stores) (first id : FileId) (file : Option (List ℕ)) (bytes : List ℕ) → id ≡ first → file ≡ Some bytes → IsFileAt (told_by stores id.store) id.name file → IsFileAt (told_by stores first.store) first.name (Some bytes)
at_first stores first id file bytes same is at =
    subst (λ i. IsFileAt (told_by stores i.store) i.name (Some bytes)) same (subst (λ f. IsFileAt (told_by stores id.store) id.name f) is at)

found_next : (stores : Stores) (first : FileId) (ids : List FileId) (id : FileId) (old new : List ℕ) → (id ≡ first) ⊎ (IsFileAt (told_by stores first.store) first.name None × IsReached stores ids id) → FetchesFrom (told_by stores id.store) id.name source_limit FetchedFound old new → Here stores first (Found id) old new ⊎ Behind stores first ids (Found id) old new
found_next stores first ids id old new (inl same) (file, at, (bytes, is, within, more)) = inl (bytes, at_first stores first id file bytes same is at, inl (within, ap Found same, more))
found_next stores first ids id old new (inr (none, reached)) fetched = inr (none, (reached, fetched))

long_next : (stores : Stores) (first : FileId) (ids : List FileId) (id : FileId) (old new : List ℕ) → (id ≡ first) ⊎ (IsFileAt (told_by stores first.store) first.name None × IsReached stores ids id) → FetchesFrom (told_by stores id.store) id.name source_limit FetchedTooLong old new → Here stores first TooLong old new ⊎ Behind stores first ids TooLong old new
long_next stores first ids id old new (inl same) (file, at, (bytes, is, beyond, kept)) = inl (bytes, at_first stores first id file bytes same is at, inr (beyond, refl, kept))
long_next stores first ids id old new (inr (none, reached)) fetched = inr (none, (id, reached, fetched))

next : (stores : Stores) (first : FileId) (ids : List FileId) (answer : Located) (old new : List ℕ) → IsOnFiles answer → Finds stores (first ∷ ids) answer old new → Here stores first answer old new ⊎ Behind stores first ids answer old new
next stores first ids (Found id) old new on (reached, fetched) = found_next stores first ids id old new (reached_next stores first ids id reached) fetched
next stores first ids Absent old new on (none, kept) = inr (none 0 first (omega arith), (λ k d h. none (suc k) d (omega (arith, h)), kept))
next stores first ids TooLong old new on (id, reached, fetched) = long_next stores first ids id old new (reached_next stores first ids id reached) fetched
next stores first ids Failed old new on found = absurd on
next stores first ids NoMemory old new on found = absurd on

not_reached : (stores : Stores) (id : FileId) → IsReached stores [] id → ⊥
not_reached stores id ([], after, is, none) = cc
not_reached stores id (x ∷ before, after, is, none) = cc

nothing : (stores : Stores) (answer : Located) (old new : List ℕ) → IsOnFiles answer → Finds stores [] answer old new → (answer ≡ Absent) × (new ≡ old)
nothing stores (Found id) old new on (reached, fetched) = absurd (not_reached stores id reached)
nothing stores Absent old new on (none, kept) = (refl, kept)
nothing stores TooLong old new on (id, reached, fetched) = absurd (not_reached stores id reached)
nothing stores Failed old new on found = absurd on
nothing stores NoMemory old new on found = absurd on

abbrev Says : FileId → List ℕ → Located → List ℕ → List ℕ → Type 0
Says id bytes answer old new = ((length bytes ≤ source_limit) × (answer ≡ Found id) × (new ≡ old ++ bytes)) ⊎ ((source_limit < length bytes) × (answer ≡ TooLong) × (new ≡ old))

says_one : (id : FileId) (bytes : List ℕ) (one other : Located) (old new left : List ℕ) → Says id bytes one old new → Says id bytes other old left → (one ≡ other) × (new ≡ left)
says_one id bytes one other old new left (inl (within, is, more)) (inl (also, be, again)) = (is ∙ sym be, more ∙ sym again)
says_one id bytes one other old new left (inl (within, is, more)) (inr (beyond, be, again)) = absurd (omega (arith, within, beyond))
says_one id bytes one other old new left (inr (beyond, is, more)) (inl (within, be, again)) = absurd (omega (arith, within, beyond))
says_one id bytes one other old new left (inr (beyond, is, more)) (inr (also, be, again)) = (is ∙ sym be, more ∙ sym again)

some_one : (a b : List ℕ) → Some a ≡ Some b → b ≡ a
some_one a b same = cc

some_none : (a : List ℕ) → Some a ≡ None → ⊥
some_none a same = cc

compare : (stores : Stores) (first : FileId) (ids : List FileId) (files : Files) (one other : Located) (old new left : List ℕ) → told_by stores first.store ≡ Some files → (Finds stores ids one old new → Finds stores ids other old left → (one ≡ other) × (new ≡ left)) → Here stores first one old new ⊎ Behind stores first ids one old new → Here stores first other old left ⊎ Behind stores first ids other old left → (one ≡ other) × (new ≡ left)
compare stores first ids files one other old new left told rest (inl (bytes, at, says)) (inl (more, there, tells)) =
    let same : more ≡ bytes = some_one bytes more (once files (told_by stores first.store) first.name (Some bytes) (Some more) told at there) in
    says_one first bytes one other old new left says (subst (λ b. Says first b other old left) same tells)
compare stores first ids files one other old new left told rest (inl (bytes, at, says)) (inr (none, found)) = absurd (some_none bytes (once files (told_by stores first.store) first.name (Some bytes) None told at none))
compare stores first ids files one other old new left told rest (inr (none, found)) (inl (bytes, at, says)) = absurd (some_none bytes (once files (told_by stores first.store) first.name (Some bytes) None told at none))
compare stores first ids files one other old new left told rest (inr (none, found)) (inr (lacks, also)) = rest found also

pub one_answer : (stores : Stores) (ids : List FileId) → AreTold stores ids → (one other : Located) (old new left : List ℕ) → IsOnFiles one → IsOnFiles other → Finds stores ids one old new → Finds stores ids other old left → (one ≡ other) × (new ≡ left)
one_answer stores [] told one other old new left on too found also =
    let a = nothing stores one old new on found in
    let b = nothing stores other old left too also in
    (a.0 ∙ sym b.0, a.1 ∙ sym b.1)
one_answer stores (first ∷ ids) told one other old new left on too found also =
    let here = told 0 first (omega arith) in
    compare stores first ids here.0 one other old new left here.1
    (λ f a. one_answer stores ids (λ k d h. told (suc k) d (omega (arith, h))) one other old new left on too f a)
    (next stores first ids one old new on found) (next stores first ids other old left too also)
