-- Files that are stored one after another.
use Rattle.std.proofs.Common.{◌≡◌, ℕ, ◌+◌, ◌<◌, ◌≤◌, List, [], ◌∷◌, ◌++◌, length, get_or, take, drop, Option, refl, ap, subst, sym, ◌∙◌}
use Rattle.std.proofs.lemmas.List.{take_more, drop_more, take_all, take-append-drop}
use Rattle.mac_io.specs.Files.{Files, with_file, SameBut}
use Rattle.dwmac_run.specs.declared.outcome.NewFile.{NewFile}
use Rattle.dwmac_run.specs.Storing.{with_files, StoresSome, LosesOne}

files_behind : (old : Option Files) (files : List NewFile) (last : NewFile) → with_files old (files ++ last ∷ []) ≡ with_file (with_files old files) last.name last.bytes
files_behind old [] last = refl
files_behind old (file ∷ files) last = files_behind (with_file old file.name file.bytes) files last

-- a file more is stored
pub file_more : (old so_far new : Option Files) (files : List NewFile) (file d : NewFile) (i : ℕ) (name bytes : List ℕ) → i < length files → file ≡ get_or files i d → name ≡ file.name → bytes ≡ file.bytes →
    so_far ≡ with_files old (take i files) → new ≡ with_file so_far name bytes → new ≡ with_files old (take (i + 1) files)
file_more old so_far new files file d i name bytes within is named written stored grows =
    grows
    ∙ ap (λ (n : List ℕ). with_file so_far n bytes) named
    ∙ ap (λ (b : List ℕ). with_file so_far file.name b) written
    ∙ ap (λ (told : Option Files). with_file told file.name file.bytes) stored
    ∙ sym (files_behind old (take i files) file)
    ∙ ap (λ (x : NewFile). with_files old (take i files ++ x ∷ [])) is
    ∙ ap (λ (xs : List NewFile). with_files old xs) (sym (take_more files i d within))

cut_at : (files : List NewFile) (file d : NewFile) (i : ℕ) → i < length files → file ≡ get_or files i d → files ≡ take i files ++ file ∷ drop (i + 1) files
cut_at files file d i within is =
    sym (take-append-drop i files) ∙ ap (λ (xs : List NewFile). take i files ++ xs) (drop_more files i d within) ∙ ap (λ (x : NewFile). take i files ++ x ∷ drop (i + 1) files) (sym is)

-- the content of this file is lost
pub file_lost : (old so_far new : Option Files) (files : List NewFile) (file d : NewFile) (i : ℕ) (name : List ℕ) → i < length files → file ≡ get_or files i d → name ≡ file.name →
    so_far ≡ with_files old (take i files) → SameBut so_far new name → LosesOne files old new
file_lost old so_far new files file d i name within is named stored same = (
  take i files,
  drop (i + 1) files,
  file,
  cut_at files file d i within is,
  subst (λ (told : Option Files). SameBut told new file.name) stored (subst (λ (n : List ℕ). SameBut so_far new n) named same),
)

-- memory ran out at this file
pub file_left : (old so_far new : Option Files) (files : List NewFile) (file d : NewFile) (i : ℕ) → i < length files → file ≡ get_or files i d → so_far ≡ with_files old (take i files) → new ≡ so_far → StoresSome files old new
file_left old so_far new files file d i within is stored same =
    (take i files, drop (i + 1) files, file, cut_at files file d i within is, same ∙ stored)

-- all files were stored
pub files_all : (old new : Option Files) (files : List NewFile) (i : ℕ) → length files ≤ i → new ≡ with_files old (take i files) → new ≡ with_files old files
files_all old new files i all stored = stored ∙ ap (λ (xs : List NewFile). with_files old xs) (take_all i files all)
