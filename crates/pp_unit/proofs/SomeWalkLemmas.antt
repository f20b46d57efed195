-- The walk of a translation unit over any stores has an answer on the files: the one where each store that tells nothing has no file.
use Rattle.std.proofs.Common.{◌≡◌, ℕ, zero, suc, ◌<◌, List, [], ◌∷◌, length, Option, None, Some, Result, Ok, Err, refl, ap, subst, sym, ◌∙◌}
use Rattle.std.specs.List.{All}
use Rattle.std.proofs.lemmas.List.Elements.{All-nil, All-cons}
use Rattle.std.specs.FinMap as map_of
use Rattle.std.specs.Ordering.{nat_cmp}
use Rattle.std.specs.Cmp.Lexicographic.{slice_cmp}
use Rattle.mac_io.specs.Files.{Files, AreBytes, IsFileAt}
use Rattle.mac_io.specs.Search.{told_by, label_of}
use Rattle.pp_unit.specs.declared.fault.PpFault.{PpFault}
use Rattle.pp_unit.specs.Seen.{Marked}
use Rattle.pp_unit.specs.Files.{Stores}
use Rattle.pp_unit.specs.Walk.{Walk}
use Rattle.pp_unit.specs.WalkLaws.{TellFiles, IsPlainAnswer, HasOneOnFiles, WalkHasAnAnswer}
use Rattle.pp_unit.proofs.LessLemmas.{TellsLess, walk_less}
use Rattle.pp_unit.proofs.OneWalkLemmas.{walk_one_answer}

-- no files, where none are told
abbrev filled_files : Option Files → Files
filled_files None = map_of.empty {K = List ℕ} {X = List ℕ} {R = slice_cmp nat_cmp}
filled_files (Some files) = files

-- the same stores, which tell these
abbrev filled : Stores → Stores
filled [] = []
filled (store ∷ stores) = (store.0, Some (filled_files store.1)) ∷ filled stores

file_at : (told : Option Files) (name : List ℕ) (file : Option (List ℕ)) → IsFileAt (Some (filled_files told)) name file → IsFileAt told name file
file_at None name file at = subst AreBytes (sym (map_of.get-empty (slice_cmp nat_cmp) name) ∙ at) tt
file_at (Some files) name file at = at

filled_file : (stores : Stores) (store : ℕ) (name : List ℕ) (file : Option (List ℕ)) → IsFileAt (told_by (filled stores) store) name file → IsFileAt (told_by stores store) name file
filled_file [] store name file at = at
filled_file (first ∷ stores) zero name file at = file_at first.1 name file at
filled_file (first ∷ stores) (suc store) name file at = filled_file stores store name file at

filled_label : (stores : Stores) (store : ℕ) → label_of (filled stores) store ≡ label_of stores store
filled_label [] store = refl
filled_label (first ∷ stores) zero = refl
filled_label (first ∷ stores) (suc store) = filled_label stores store

filled_number : (stores : Stores) → length (filled stores) ≡ length stores
filled_number [] = refl
filled_number (first ∷ stores) = ap (λ n. suc n) (filled_number stores)

filled_less : (stores : Stores) → TellsLess (filled stores) stores
filled_less stores = record { number = filled_number stores; label = filled_label stores; file = filled_file stores }

-- a store tells its files
abbrev Tells : List ℕ × Option Files → Type 0
Tells store = (files : Files) × (store.1 ≡ Some files)

filled_told : (stores : Stores) → All Tells (filled stores)
filled_told [] = All-nil Tells
filled_told (store ∷ stores) = All-cons Tells (store.0, Some (filled_files store.1)) (filled stores) (filled_files store.1, refl) (filled_told stores)

filled_tell : (stores : Stores) → 0 < length stores → TellFiles (filled stores)
filled_tell stores some = record { some = subst (λ n. 0 < n) (sym (filled_number stores)) some; told = filled_told stores }

plain_answer : (P : Result Marked PpFault → Type 0) → HasOneOnFiles P → (r : Result Marked PpFault) → P r → IsPlainAnswer r
plain_answer P one (Ok m) holds = tt
plain_answer P one (Err fault) holds = one.plain fault holds

pub walk_some_answer : WalkHasAnAnswer
walk_some_answer stores spec some =
    let one : HasOneOnFiles (Walk (filled stores) spec) = walk_one_answer (filled stores) spec (filled_tell stores some) in
    record {
      answer = one.some.0;
      on_files = one.some.1;
      plain = plain_answer (Walk (filled stores) spec) one one.some.0 one.some.2;
      holds = walk_less (filled stores) stores (filled_less stores) spec one.some.0 one.some.2;
    }
