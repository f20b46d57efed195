-- The files of a store, by name. A store may tell them or not.
use Rattle.std.specs.Prelude.{◌≡◌, ◌≢◌, ◌<◌, ℕ, Bool, true, not, ◌&&◌, List, [], ◌∷◌, Option, None, Some}
use Rattle.std.specs.Option.{option_map}
use Rattle.std.specs.List.{All, list_any, zip}
use Rattle.std.specs.Ordering.{nat_cmp}
use Rattle.std.specs.Str.{bytes_eq}
use Rattle.std.specs.Cmp.Lexicographic.{slice_cmp}
use Rattle.std.specs.FinMap as map

-- files by name
abbrev pub Files : Type 0
Files = map.FinMap (slice_cmp nat_cmp) (List ℕ)

-- the content of a file, where there is one, is a list of bytes
abbrev pub AreBytes : Option (List ℕ) → Type 0
AreBytes None = Unit {0}
AreBytes (Some bytes) = All (λ byte. byte < 256) bytes

-- each of these contents is a list of bytes
abbrev pub AreAllBytes : List (List ℕ) → Type 0
AreAllBytes contents = All (λ content. All (λ byte. byte < 256) content) contents

-- where a store tells its files, the content of each is a list of bytes
abbrev pub AreFilesOfBytes : Option Files → Type 0
AreFilesOfBytes None = Unit {0}
AreFilesOfBytes (Some files) = (name : List ℕ) → AreBytes (map.get files name)

-- `file` is what a store has at a name: what it tells; where it doesn't tell, no file or any bytes
abbrev pub IsFileAt : Option Files → List ℕ → Option (List ℕ) → Type 0
IsFileAt None name file = AreBytes file
IsFileAt (Some files) name file = map.get files name ≡ file

-- the files with these bytes at the name
abbrev pub with_file : Option Files → List ℕ → List ℕ → Option Files
with_file told name bytes = option_map (λ files. map.insert files name bytes) told

-- all files but that of the name are as before
abbrev pub SameBut : Option Files → Option Files → List ℕ → Type 0
SameBut None None name = Unit {0}
SameBut (Some old) (Some new) name = (other : List ℕ) → other ≢ name → map.get new other ≡ map.get old other
SameBut None (Some new) name = ⊥
SameBut (Some old) None name = ⊥

-- each name with the content at its place
abbrev pub files_of : List (List ℕ) → List (List ℕ) → Files
files_of names contents = map.from_entries (zip names contents)

-- no name occurs twice
abbrev pub are_distinct : List (List ℕ) → Bool
are_distinct [] = true
are_distinct (name ∷ names) = not (list_any (λ other. bytes_eq other name) names) && are_distinct names
