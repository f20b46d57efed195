-- Laws of searches: where the stores tell their files, these alone decide what is found; and what is found is bytes.
use Rattle.std.specs.Prelude.{◌≡◌, ◌<◌, ℕ, List, ◌++◌, length, Option, Some}
use Rattle.std.specs.List.{All}
use Rattle.mac_io.specs.Files.{Files, AreBytes, AreFilesOfBytes, IsFileAt}
use Rattle.mac_io.specs.Search.{Finds, candidates, told_by}
use Rattle.mac_io.specs.declared.headers.FileId.{FileId}
use Rattle.mac_io.specs.declared.headers.Form.{Form}
use Rattle.mac_io.specs.declared.headers.Located.{Located}
use Rattle.mac_io.specs.declared.headers.Located.TheVariants.{Found, Absent, TooLong, Failed, NoMemory}

-- the store of each candidate tells its files
abbrev pub AreTold : List (List ℕ × Option Files) → List FileId → Type 0
AreTold stores ids = All (λ id. (files : Files) × (told_by stores id.store ≡ Some files)) ids

-- an answer on the files, and no failure
abbrev pub IsOnFiles : Located → Type 0
IsOnFiles (Found id) = Unit {0}
IsOnFiles Absent = Unit {0}
IsOnFiles TooLong = Unit {0}
IsOnFiles Failed = ⊥
IsOnFiles NoMemory = ⊥

-- a search has one answer on the files, and leaves one text
abbrev pub SearchHasOneAnswer : Type 0
SearchHasOneAnswer = (stores : List (List ℕ × Option Files)) (ids : List FileId) → AreTold stores ids → (one other : Located) (old new left : List ℕ) → IsOnFiles one → IsOnFiles other → Finds stores ids one old new → Finds stores ids other old left → (one ≡ other) × (new ≡ left)

-- each store of a path tells its files
abbrev pub TellsFiles : List (List ℕ × Option Files) → Type 0
TellsFiles stores = All (λ (store : List ℕ × Option Files). (files : Files) × (store.1 ≡ Some files)) stores

-- On a path whose stores tell their files a search for a header has an answer on the files, whatever file of the path includes it, in
-- both forms and for every name, and this answer alone.
abbrev pub SearchIsDecided : Type 0
SearchIsDecided = (stores : List (List ℕ × Option Files)) (includer : FileId) (form : Form) (name old : List ℕ) → TellsFiles stores → includer.store < length stores → (answer : Located) × (new : List ℕ) × IsOnFiles answer × Finds stores (candidates (length stores) includer form name) answer old new × ((other : Located) (left : List ℕ) → IsOnFiles other → Finds stores (candidates (length stores) includer form name) other old left → (other ≡ answer) × (left ≡ new))

-- what a store has at a name is bytes, whether it tells its files or not
abbrev pub FilesAreBytes : Type 0
FilesAreBytes = (told : Option Files) (name : List ℕ) (file : Option (List ℕ)) → AreFilesOfBytes told → IsFileAt told name file → AreBytes file

-- what a search finds, and appends, is bytes
abbrev pub FoundFilesAreBytes : Type 0
FoundFilesAreBytes = (stores : List (List ℕ × Option Files)) (ids : List FileId) (id : FileId) (old new : List ℕ) → AreFilesOfBytes (told_by stores id.store) → Finds stores ids (Found id) old new → (bytes : List ℕ) × All (λ byte. byte < 256) bytes × (new ≡ old ++ bytes)
