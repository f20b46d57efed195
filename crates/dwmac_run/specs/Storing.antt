-- What storing files one after another leaves of a shelf.
use Rattle.std.specs.Prelude.{◌≡◌, List, [], ◌∷◌, ◌++◌, Option}
use Rattle.mac_io.specs.Files.{Files, with_file, SameBut}
use Rattle.mac_io.specs.declared.shelf.Put.{Put}
use Rattle.mac_io.specs.declared.shelf.Put.TheVariants.{Done, Failed, NoMemory}
use Rattle.dwmac_run.specs.declared.outcome.NewFile.{NewFile}

-- the files of a shelf after these were stored
abbrev pub with_files : Option Files → List NewFile → Option Files
with_files told [] = told
with_files told (file ∷ files) = with_files (with_file told file.name file.bytes) files

-- The files before one of these were stored, and all else is as before.
abbrev pub StoresSome : List NewFile → Option Files → Option Files → Type 0
StoresSome files old new = (front back : List NewFile) × (next : NewFile) × (files ≡ front ++ next ∷ back) × (new ≡ with_files old front)

-- The files before one of these were stored, and all else but the content of that one is as before.
abbrev pub LosesOne : List NewFile → Option Files → Option Files → Type 0
LosesOne files old new = (front back : List NewFile) × (next : NewFile) × (files ≡ front ++ next ∷ back) × SameBut (with_files old front) new next.name

-- what storing these files leaves, by the last answer
abbrev pub PutsAll : List NewFile → Option Files → Option Files → Put → Type 0
PutsAll files old new Done = new ≡ with_files old files
PutsAll files old new Failed = LosesOne files old new
PutsAll files old new NoMemory = StoresSome files old new
