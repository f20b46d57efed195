-- What a run leaves of the shelf and of the texts of `out` and `err`, by its answer and its status.
use Rattle.std.specs.Prelude.{◌≡◌, ℕ, List, ◌++◌, Option, ◌⊎◌}
use Rattle.mac_io.specs.Causes.{Rose}
use Rattle.mac_io.specs.Calls.{grown, GrowsByFront}
use Rattle.mac_io.specs.Files.{Files}
use Rattle.dwmac_run.specs.Refusals.{usage_line, no_memory_line, outside_line}
use Rattle.dwmac_run.specs.Storing.{with_files, StoresSome, LosesOne}
use Rattle.dwmac_run.specs.Answers.{Answer, Prints, Refuses, Misuse}
use Rattle.dwmac_run.specs.declared.outcome.NewFile.{NewFile}
use Rattle.dwmac_run.specs.declared.status.Status.{Status}
use Rattle.dwmac_run.specs.declared.status.Status.TheVariants.{Ok, Refused, Usage, NoMemory, Outside}

-- the files of the shelf, and the texts of `out` and `err`, where they are told, and how often a call of the shelf has failed
pub record State : Type 0 where
  pub files : Option Files
  pub faults : ℕ
  pub out : Option (List ℕ)
  pub err : Option (List ℕ)

-- the files of the shelf are as before
abbrev pub KeepsFiles : State → State → Type 0
KeepsFiles old new = new.files ≡ old.files

-- the shelf has these files, and all others are as before
abbrev pub StoresAll : List NewFile → State → State → Type 0
StoresAll files old new = new.files ≡ with_files old.files files

-- Memory ran out before any file was stored, or at one of them: those before it were stored.
abbrev pub StoresFew : List NewFile → State → State → Type 0
StoresFew files old new = KeepsFiles old new ⊎ StoresSome files old.files new.files

-- The outside failed before any file was stored, or at one of them: those before it were stored, and its content is unknown, where the count of the shelf rose.
abbrev pub StoresBadly : List NewFile → State → State → Type 0
StoresBadly files old new = KeepsFiles old new ⊎ (LosesOne files old.files new.files × Rose old.faults new.faults)

-- `out` is as before, and `err` has this line more
abbrev pub Says : List ℕ → State → State → Type 0
Says line old new = (new.out ≡ old.out) × (new.err ≡ grown old.err line)

-- a prefix of this line more, and then a prefix of the line on the outside
abbrev pub IsCut : List ℕ → Option (List ℕ) → Option (List ℕ) → Type 0
IsCut line old new = (front back : List ℕ) × (line ≡ front ++ back) × GrowsByFront (grown old front) new outside_line

-- `out` is as before, and `err` broke off in the midst of this line
abbrev pub BreaksOff : List ℕ → State → State → Type 0
BreaksOff line old new = (new.out ≡ old.out) × IsCut line old.err new.err

-- `out` is as before, and `err` has a prefix of the line on the outside
abbrev pub SaysFailed : State → State → Type 0
SaysFailed old new = (new.out ≡ old.out) × GrowsByFront old.err new.err outside_line

-- `out` has a prefix of this text more, and `err` a prefix of the line on the outside
abbrev pub PrintsPart : List ℕ → State → State → Type 0
PrintsPart text old new = GrowsByFront old.out new.out text × GrowsByFront old.err new.err outside_line

-- A run that has this answer to give ends with the status, and leaves the new state of the old one.
abbrev pub Leaves : Answer → Status → State → State → Type 0
Leaves (Prints files text) Ok old new = StoresAll files old new × (new.out ≡ grown old.out text) × (new.err ≡ old.err)
Leaves (Refuses line) Refused old new = KeepsFiles old new × Says line old new
Leaves Misuse Usage old new = KeepsFiles old new × Says usage_line old new
-- memory may run out whatever the answer is
Leaves (Prints files text) NoMemory old new = StoresFew files old new × Says no_memory_line old new
Leaves (Refuses line) NoMemory old new = KeepsFiles old new × Says no_memory_line old new
Leaves Misuse NoMemory old new = KeepsFiles old new × Says no_memory_line old new
-- and the outside may fail: `out` in the midst of a text after all files were stored, the shelf or a header store before or while they are, or `err` in the midst of a line
Leaves (Prints files text) Outside old new = (StoresAll files old new × PrintsPart text old new) ⊎ ((StoresBadly files old new × SaysFailed old new) ⊎ (StoresFew files old new × BreaksOff no_memory_line old new))
Leaves (Refuses line) Outside old new = KeepsFiles old new × (BreaksOff line old new ⊎ BreaksOff no_memory_line old new)
Leaves Misuse Outside old new = KeepsFiles old new × (BreaksOff usage_line old new ⊎ BreaksOff no_memory_line old new)
-- no other status comes
Leaves (Prints files text) Refused old new = ⊥
Leaves (Prints files text) Usage old new = ⊥
Leaves (Refuses line) Ok old new = ⊥
Leaves (Refuses line) Usage old new = ⊥
Leaves Misuse Ok old new = ⊥
Leaves Misuse Refused old new = ⊥
