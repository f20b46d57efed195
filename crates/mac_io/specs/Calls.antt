-- What the calls of a store and of a sink answer and leave.
use Rattle.std.specs.Prelude.{◌≡◌, ℕ, ◌<◌, ◌≤◌, List, ◌++◌, length, Option, None, Some}
use Rattle.std.specs.Option.{option_map}
use Rattle.mac_io.specs.Files.{Files, AreBytes, IsFileAt, with_file, SameBut}
use Rattle.mac_io.specs.declared.shelf.Fetched.{Fetched}
use Rattle.mac_io.specs.declared.shelf.Fetched.TheVariants.{Found, Absent, TooLong, Failed, NoMemory}
use Rattle.mac_io.specs.declared.shelf.Put.{Put}
use Rattle.mac_io.specs.declared.shelf.Put.TheVariants.{Done as PutDone, Failed as PutFailed, NoMemory as PutNoMemory}
use Rattle.mac_io.specs.declared.sink.Wrote.{Wrote}
use Rattle.mac_io.specs.declared.sink.Wrote.TheVariants.{Done as WroteDone, Failed as WroteFailed}

-- what a look-up with a limit answers by the content of the file, if there is one, and what it leaves in the buffer
abbrev pub Fetches : Option (List ℕ) → ℕ → Fetched → List ℕ → List ℕ → Type 0
Fetches file limit Found old new = (bytes : List ℕ) × (file ≡ Some bytes) × (length bytes ≤ limit) × (new ≡ old ++ bytes)
Fetches file limit Absent old new = (file ≡ None) × (new ≡ old)
Fetches file limit TooLong old new = (bytes : List ℕ) × (file ≡ Some bytes) × (limit < length bytes) × (new ≡ old)
Fetches file limit Failed old new = new ≡ old
Fetches file limit NoMemory old new = new ≡ old

-- the same by some content of the file, whatever it is
abbrev pub FetchesSome : ℕ → Fetched → List ℕ → List ℕ → Type 0
FetchesSome limit answer old new = (file : Option (List ℕ)) × AreBytes file × Fetches file limit answer old new

-- the same by what the store tells; where it tells nothing, some content of the file explains the answer
abbrev pub FetchesFrom : Option Files → List ℕ → ℕ → Fetched → List ℕ → List ℕ → Type 0
FetchesFrom told name limit answer old new = (file : Option (List ℕ)) × IsFileAt told name file × Fetches file limit answer old new

-- what storing a file leaves; after a failure the content of this name is unknown
abbrev pub Puts : Option Files → Option Files → List ℕ → List ℕ → Put → Type 0
Puts old new name bytes PutDone = new ≡ with_file old name bytes
Puts old new name bytes PutFailed = SameBut old new name
Puts old new name bytes PutNoMemory = new ≡ old

-- the text so far, where it is told, and then the piece
abbrev pub grown : Option (List ℕ) → List ℕ → Option (List ℕ)
grown text piece = option_map (λ so_far. so_far ++ piece) text

-- the text has grown by a prefix of the piece
abbrev pub GrowsByFront : Option (List ℕ) → Option (List ℕ) → List ℕ → Type 0
GrowsByFront old new piece = (front back : List ℕ) × (piece ≡ front ++ back) × (new ≡ grown old front)

-- what a write leaves
abbrev pub Writes : Option (List ℕ) → Option (List ℕ) → List ℕ → Wrote → Type 0
Writes old new piece WroteDone = new ≡ grown old piece
Writes old new piece WroteFailed = GrowsByFront old new piece
