-- What an inclusion comes to, and a file that is opened, by what the code does with it.
use Rattle.std.proofs.Common.{◌≡◌, ◌⊎◌, inl, inr, ℕ, suc, ◌+◌, Bool, true, false, List, length, Result, Ok, Err, refl, sym, ap, subst, ◌∙◌, arith}
use Rattle.std.proofs.lemmas.List.{length-append}
use Rattle.mac_io.specs.declared.headers.FileId.{FileId}
use Rattle.mac_io.specs.declared.headers.Located.{Located}
use Rattle.mac_io.specs.declared.headers.Located.TheVariants.{Found, Absent, TooLong, Failed}
use Rattle.mac_io.specs.declared.headers.Located.TheVariants.{NoMemory as SearchRanOut}
use Rattle.mac_base.specs.Answers.{Answers}
use Rattle.pp_directives.specs.Following.{Chosen, Stops, Goes}
use Rattle.pp_unit.specs.declared.open_file.OpenFile.{OpenFile}
use Rattle.pp_unit.specs.declared.stop.Stop.{Stop}
use Rattle.pp_unit.specs.declared.stop.Stop.TheVariants.{Here, Inside}
use Rattle.pp_unit.specs.declared.fault.PpFault.{PpFault}
use Rattle.pp_unit.specs.declared.fault.PpKind.{PpKind}
use Rattle.pp_unit.specs.declared.fault.PpKind.TheVariants.{NoMemory, StoreFault}
use Rattle.pp_unit.specs.Kinds.{fault_at}
use Rattle.pp_unit.specs.Seen.{Seen, Mark, Marked, started, is_once}
use Rattle.pp_unit.specs.Files.{Stores, FileWalk, inside, Enters, IncludesFound}
use Rattle.pp_unit.specs.Stopping.{stopped, with_marks, HasLeft, FileComesTo, StopComesTo, IsOut, stop_fault, IsFoundIn}

-- one file more is open
pub left_inside : (stores : Stores) (left : ℕ) (outer open_file : OpenFile) (line : ℕ) (id : FileId) (seen : Seen) → open_file ≡ inside stores outer line id seen → HasLeft (suc left) outer → HasLeft left open_file
left_inside stores left outer open_file line id seen is has =
    let more : length (inside stores outer line id seen).frames ≡ length outer.frames + 1 = length-append outer.frames _ in
    subst (λ (w : OpenFile). HasLeft left w) (sym is) (omega arith)

-- the start of a file that is rejected
pub start_stops : (stores : Stores) (Inner : FileWalk) (outer open_file : OpenFile) (line : ℕ) (id : FileId) (bytes shown : List ℕ) (seen : Seen) (marks : List Mark) (r : Result Seen PpKind) (stop : Stop) →
    open_file ≡ inside stores outer line id seen → shown ≡ open_file.path → Answers NoMemory r (started seen line shown) → ◌≡◌ {A = Result Seen Stop} (Err stop) (stopped line r) →
    IsOut stop ⊎ Enters stores Inner outer line id bytes (with_marks seen marks) (Err (stop_fault outer stop))
start_stops stores Inner outer open_file line id bytes shown seen marks (Ok x) stop is path starts same = cc
start_stops stores Inner outer open_file line id bytes shown seen marks (Err kind) stop is path (inl out) same =
    let at : stop ≡ Here line kind = cc in inl (subst IsOut (sym at) out)
start_stops stores Inner outer open_file line id bytes shown seen marks (Err kind) stop is path (inr starts) same =
    let at : stop ≡ Here line kind = cc in
    let begun : started seen line (inside stores outer line id seen).path ≡ Err kind = subst (λ (p : List ℕ). started seen line p ≡ Err kind) (path ∙ ap (λ (w : OpenFile). w.path) is) starts in
    subst (λ (s : Stop). IsOut s ⊎ Enters stores Inner outer line id bytes (with_marks seen marks) (Err (stop_fault outer s))) (sym at)
    (inr (Stops (Err kind, sym begun, refl)))

entered : (stores : Stores) (Inner : FileWalk) (outer open_file : OpenFile) (line : ℕ) (id : FileId) (bytes shown : List ℕ) (seen begun : Seen) (marks : List Mark) (q : Result Marked PpFault) →
    open_file ≡ inside stores outer line id seen → shown ≡ open_file.path → started seen line shown ≡ Ok begun → Inner open_file bytes (with_marks begun marks) q → Enters stores Inner outer line id bytes (with_marks seen marks) q
entered stores Inner outer open_file line id bytes shown seen begun marks q is path starts walks =
    let first : started seen line (inside stores outer line id seen).path ≡ Ok begun = subst (λ (p : List ℕ). started seen line p ≡ Ok begun) (path ∙ ap (λ (w : OpenFile). w.path) is) starts in
    Goes {s = with_marks begun marks} (Ok begun, sym first, refl) (subst (λ (w : OpenFile). Inner w bytes (with_marks begun marks) q) is walks)

-- a file that is walked inside
pub enter_goes : (stores : Stores) (Inner : FileWalk) (outer open_file : OpenFile) (line : ℕ) (id : FileId) (bytes shown : List ℕ) (seen begun after : Seen) (marks : List Mark) →
    open_file ≡ inside stores outer line id seen → shown ≡ open_file.path → started seen line shown ≡ Ok begun → FileComesTo (Inner open_file bytes (with_marks begun marks)) (Ok after) →
    StopComesTo outer (Enters stores Inner outer line id bytes (with_marks seen marks)) (Ok after)
enter_goes stores Inner outer open_file line id bytes shown seen begun after marks is path starts walks =
    (walks.0, entered stores Inner outer open_file line id bytes shown seen begun marks _ is path starts walks.1)

pub enter_fails : (stores : Stores) (Inner : FileWalk) (outer open_file : OpenFile) (line : ℕ) (id : FileId) (bytes shown : List ℕ) (seen begun : Seen) (marks : List Mark) (fault : PpFault) →
    open_file ≡ inside stores outer line id seen → shown ≡ open_file.path → started seen line shown ≡ Ok begun → FileComesTo (Inner open_file bytes (with_marks begun marks)) (Err fault) →
    StopComesTo outer (Enters stores Inner outer line id bytes (with_marks seen marks)) (Err (Inside fault))
enter_fails stores Inner outer open_file line id bytes shown seen begun marks fault is path starts (inl out) = inl out
enter_fails stores Inner outer open_file line id bytes shown seen begun marks fault is path starts (inr walks) = inr (entered stores Inner outer open_file line id bytes shown seen begun marks _ is path starts walks)

-- what was started before it was put in a line
pub told_start : (n : ℕ) (r : Result Seen PpKind) (x : Seen) (reading : Result Seen PpKind) → ◌≡◌ {A = Result Seen Stop} (Ok x) (stopped n r) → Answers NoMemory r reading → reading ≡ Ok x
told_start n (Ok y) x reading is h = let same : y ≡ x = cc in h ∙ ap (λ (s : Seen). Ok s) same
told_start n (Err kind) x reading is h = cc

-- a search that finds no file
pub not_found : (stores : Stores) (Inner : FileWalk) (outer : OpenFile) (line : ℕ) (name : List ℕ) (m : Marked) (located : Located) (bytes : List ℕ) (kind : PpKind) → IsFoundIn located name (Err kind) →
    StopComesTo outer (IncludesFound stores Inner outer line name m located bytes) (Err (Here line kind))
not_found stores Inner outer line name m (Found id) bytes kind is = cc
not_found stores Inner outer line name m Absent bytes kind is = let same : kind ≡ _ = cc in inr (ap (λ (k : PpKind). Err (fault_at outer line k)) same)
not_found stores Inner outer line name m TooLong bytes kind is = let same : kind ≡ _ = cc in inr (ap (λ (k : PpKind). Err (fault_at outer line k)) same)
not_found stores Inner outer line name m Failed bytes kind is = let same : kind ≡ StoreFault = cc in inr (ap (λ (k : PpKind). Err (fault_at outer line k)) same)
not_found stores Inner outer line name m SearchRanOut bytes kind is = inl cc

-- it has a cause where the search had one
pub not_found_failed : (located : Located) (name : List ℕ) (kind : PpKind) → IsFoundIn located name (Err kind) → located ≡ Failed → kind ≡ StoreFault
not_found_failed (Found id) name kind is failed = cc
not_found_failed Absent name kind is failed = cc
not_found_failed TooLong name kind is failed = cc
not_found_failed Failed name kind is failed = cc
not_found_failed SearchRanOut name kind is failed = cc

pub failed_search : (located : Located) (name : List ℕ) (kind : PpKind) → IsFoundIn located name (Err kind) → kind ≡ StoreFault → located ≡ Failed
failed_search (Found id) name kind is failed = cc
failed_search Absent name kind is failed = cc
failed_search TooLong name kind is failed = cc
failed_search Failed name kind is failed = refl
failed_search SearchRanOut name kind is failed = cc

-- a file that was found
pub found_is : (located : Located) (name : List ℕ) (id : FileId) → IsFoundIn located name (Ok id) → located ≡ Found id
found_is (Found other) name id is = cc
found_is Absent name id is = cc
found_is TooLong name id is = cc
found_is Failed name id is = cc
found_is SearchRanOut name id is = cc

pub found_no_failure : (located : Located) (id : FileId) → located ≡ Found id → located ≡ Failed → ⊥
found_no_failure located id is failed = cc

chosen_once : (stores : Stores) (Inner : FileWalk) (outer : OpenFile) (line : ℕ) (name : List ℕ) (m : Marked) (id : FileId) (bytes : List ℕ) → true ≡ is_once m.seen id → IncludesFound stores Inner outer line name m (Found id) bytes (Ok m)
chosen_once stores Inner outer line name m id bytes once = by_test (is_once m.seen id) once
  where
    by_test : (b : Bool) → true ≡ b → Chosen (λ (q : Result Marked PpFault). q ≡ Ok m) (Enters stores Inner outer line id bytes m) b (Ok m)
    by_test true is = refl
    by_test false is = cc

-- a file that contributes nothing any more
pub once_found : (stores : Stores) (Inner : FileWalk) (outer : OpenFile) (line : ℕ) (name : List ℕ) (seen : Seen) (marks : List Mark) (located : Located) (id : FileId) (bytes : List ℕ) → located ≡ Found id → true ≡ is_once seen id →
    StopComesTo outer (IncludesFound stores Inner outer line name (with_marks seen marks) located bytes) (Ok seen)
once_found stores Inner outer line name seen marks located id bytes is once =
    (marks, subst (λ (l : Located). IncludesFound stores Inner outer line name (with_marks seen marks) l bytes (Ok (with_marks seen marks))) (sym is) (chosen_once stores Inner outer line name (with_marks seen marks) id bytes once))

-- what holds by some rules holds by others that follow from them
pub stop_map : (open_file : OpenFile) (P Q : Result Marked PpFault → Type 0) → ((r : Result Marked PpFault) → P r → Q r) → (result : Result Seen Stop) → StopComesTo open_file P result → StopComesTo open_file Q result
stop_map open_file P Q next (Ok seen) (marks, h) = (marks, next _ h)
stop_map open_file P Q next (Err stop) (inl out) = inl out
stop_map open_file P Q next (Err stop) (inr h) = inr (next _ h)

-- a file that is entered
pub entered_found : (stores : Stores) (Inner : FileWalk) (outer : OpenFile) (line : ℕ) (name : List ℕ) (m : Marked) (located : Located) (id : FileId) (bytes : List ℕ) (r : Result Marked PpFault) → located ≡ Found id → false ≡ is_once m.seen id →
    Enters stores Inner outer line id bytes m r → IncludesFound stores Inner outer line name m located bytes r
entered_found stores Inner outer line name m located id bytes r is once enters =
    subst (λ (l : Located). IncludesFound stores Inner outer line name m l bytes r) (sym is) (by_test (is_once m.seen id) once)
  where
    by_test : (b : Bool) → false ≡ b → Chosen (λ (q : Result Marked PpFault). q ≡ Ok m) (Enters stores Inner outer line id bytes m) b r
    by_test true h = cc
    by_test false h = enters

pub frames_inside : (stores : Stores) (outer open_file : OpenFile) (line : ℕ) (id : FileId) (seen : Seen) → open_file ≡ inside stores outer line id seen → length open_file.frames ≡ length outer.frames + 1
frames_inside stores outer open_file line id seen is = ap (λ (w : OpenFile). length w.frames) is ∙ length-append outer.frames _
