-- Where a header is looked for, and what the search answers (C17 6.10.2, which leaves the places to the implementation).
use Rattle.std.specs.Prelude.{◌≡◌, ℕ, ◌-◌, ◌==◌, Bool, false, not, if◌then◌else◌, List, [], ◌∷◌, ◌++◌, length, map, take, reverse, Option, None, Some}
use Rattle.std.specs.List.{All, range_with_len, prefix_len, slice_index_or}
use Rattle.mac_io.specs.Files.{Files, IsFileAt}
use Rattle.mac_io.specs.Calls.{FetchesFrom}
use Rattle.mac_io.specs.declared.headers.FileId.{FileId}
use Rattle.mac_io.specs.declared.headers.Form.{Form}
use Rattle.mac_io.specs.declared.headers.Form.TheVariants.{Quote, Angle}
use Rattle.mac_io.specs.declared.headers.Located.{Located}
use Rattle.mac_io.specs.declared.headers.Located.TheVariants.{Found, Absent, TooLong, Failed, NoMemory}
use Rattle.mac_io.specs.declared.shelf.Fetched.TheVariants.{Found as FetchedFound, TooLong as FetchedTooLong, Failed as FetchedFailed}

-- the most bytes that a source file may have
abbrev pub source_limit : ℕ
source_limit = 16777216

-- the byte `/`
abbrev pub slash : ℕ
slash = 47

-- what the store of a number tells of its files
abbrev pub told_by : List (List ℕ × Option Files) → ℕ → Option Files
told_by stores number = (slice_index_or stores number ([], None)).1

-- the label of the store of a number
abbrev pub label_of : List (List ℕ × Option Files) → ℕ → List ℕ
label_of stores number = (slice_index_or stores number ([], None)).0

-- whether a name begins with `/`
abbrev pub is_absolute : List ℕ → Bool
is_absolute [] = false
is_absolute (byte ∷ bytes) = byte == slash

-- a name up to and with its last `/`; nothing where it has no `/`
abbrev pub folder_of : List ℕ → List ℕ
folder_of name = take (length name - prefix_len (λ byte. not (byte == slash)) (reverse name)) name

-- a file beside the includer: where the form is `".."`, the name in the includer's folder
abbrev pub beside : FileId → Form → List ℕ → List FileId
beside includer Quote name = record { store = includer.store; name = folder_of includer.name ++ name } ∷ []
beside includer Angle name = []

-- the name in each of so many stores but the first, in order
abbrev pub behind : ℕ → List ℕ → List FileId
behind count name = map (λ number. record { store = number; name = name }) (range_with_len 1 (count - 1))

-- the files that a search asks for, in order: a name that begins with `/` in the first store alone; any other beside the
-- includer, and then in the stores after the first
abbrev pub candidates : ℕ → FileId → Form → List ℕ → List FileId
candidates count includer form name = if is_absolute name then record { store = 0; name = name } ∷ [] else beside includer form name ++ behind count name

-- no store has its candidate
abbrev pub AreAbsent : List (List ℕ × Option Files) → List FileId → Type 0
AreAbsent stores ids = All (λ id. IsFileAt (told_by stores id.store) id.name None) ids

-- one of the candidates, all before it absent
abbrev pub IsReached : List (List ℕ × Option Files) → List FileId → FileId → Type 0
IsReached stores ids id = (before after : List FileId) × (ids ≡ before ++ id ∷ after) × AreAbsent stores before

-- what a search answers, and what it leaves in the buffer: the first candidate that is there, with its bytes. A store that
-- tells nothing has some content that explains the answer.
abbrev pub Finds : List (List ℕ × Option Files) → List FileId → Located → List ℕ → List ℕ → Type 0
Finds stores ids (Found id) old new = IsReached stores ids id × FetchesFrom (told_by stores id.store) id.name source_limit FetchedFound old new
Finds stores ids Absent old new = AreAbsent stores ids × (new ≡ old)
Finds stores ids TooLong old new = (id : FileId) × IsReached stores ids id × FetchesFrom (told_by stores id.store) id.name source_limit FetchedTooLong old new
Finds stores ids Failed old new = (id : FileId) × IsReached stores ids id × FetchesFrom (told_by stores id.store) id.name source_limit FetchedFailed old new
Finds stores ids NoMemory old new = new ≡ old

-- P of the file, where one was found
abbrev pub OnFound : Located → (FileId → Type 0) → Type 0
OnFound (Found id) P = P id
OnFound Absent P = Unit {0}
OnFound TooLong P = Unit {0}
OnFound Failed P = Unit {0}
OnFound NoMemory P = Unit {0}

-- the path of a file, by the label of its store and its name there
abbrev pub path_text : List ℕ → List ℕ → List ℕ
path_text [] name = name
path_text (byte ∷ label) name = (byte ∷ label) ++ slash ∷ name

-- each store is over the folder that its label names
abbrev pub AreOverLabels : List (List ℕ × Option Files) → List (Option (List ℕ)) → Type 0
AreOverLabels stores folders = folders ≡ map (λ (store : List ℕ × Option Files). Some store.0) stores
