-- What a store tells, and what a search finds, is bytes.
use Rattle.std.proofs.Common.{◌≡◌, ℕ, ◌<◌, List, ◌++◌, Option, None, Some, subst}
use Rattle.std.specs.List.{All}
use Rattle.mac_io.specs.Files.{Files, AreBytes, AreFilesOfBytes, IsFileAt}
use Rattle.mac_io.specs.Search.{Finds, told_by}
use Rattle.mac_io.specs.declared.headers.FileId.{FileId}
use Rattle.mac_io.specs.declared.headers.Located.TheVariants.{Found}

-- what a store has at a name
pub bytes_at : (told : Option Files) (name : List ℕ) (file : Option (List ℕ)) → AreFilesOfBytes told → IsFileAt told name file → AreBytes file
bytes_at None name file bytes at = at
bytes_at (Some files) name file bytes at = subst AreBytes at (bytes name)

-- what a search appends
pub bytes_found : (stores : List (List ℕ × Option Files)) (ids : List FileId) (id : FileId) (old new : List ℕ) → AreFilesOfBytes (told_by stores id.store) → Finds stores ids (Found id) old new → (bytes : List ℕ) × All (λ byte. byte < 256) bytes × (new ≡ old ++ bytes)
bytes_found stores ids id old new told (reached, (file, at, (bytes, is, within, grown))) = (bytes, subst AreBytes is (bytes_at (told_by stores id.store) id.name file told at), grown)
