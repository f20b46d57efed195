-- Two laws of walks: where the stores tell their files, these alone decide what a translation unit comes to, and over any stores it comes to something (C17 5.1.1.1, 6.10.2).
use Rattle.std.specs.Prelude.{◌≡◌, ◌≢◌, ℕ, ◌<◌, List, length, Option, Some, Result, Ok, Err}
use Rattle.std.specs.List.{All}
use Rattle.mac_io.specs.Files.{Files}
use Rattle.pp_tokens.specs.declared.fault.LexFault.TheVariants.{NoMemory as LexRanOut}
use Rattle.macro_table.specs.declared.fault.DefFault.TheVariants.{NoMemory as DefRanOut}
use Rattle.macro_expand.specs.declared.fault.ExpandFault.TheVariants.{NoMemory as ExpandRanOut}
use Rattle.pp_directives.specs.declared.fault.ExprFault.TheVariants.{NoMemory as ExprRanOut}
use Rattle.pp_directives.specs.declared.fault.StructFault.TheVariants.{NoMemory as StructRanOut}
use Rattle.pp_unit.specs.declared.request.UnitSpec.{UnitSpec}
use Rattle.pp_unit.specs.declared.fault.PpFault.{PpFault}
use Rattle.pp_unit.specs.declared.fault.PpKind.{PpKind}
use Rattle.pp_unit.specs.declared.fault.PpKind.TheVariants.{Lex, Def, Expr, Expand, Struct, StoreFault, NoMemory}
use Rattle.pp_unit.specs.Seen.{Marked}
use Rattle.pp_unit.specs.Files.{Stores}
use Rattle.pp_unit.specs.Walk.{Walk}

-- there is a store 0, and each store tells its files
pub record TellFiles (stores : Stores) : Type 0 where
  pub some : 0 < length stores
  pub told : All (λ (store : List ℕ × Option Files). (files : Files) × (store.1 ≡ Some files)) stores

-- an answer on the files: no store failed
abbrev pub IsOnFiles : Result Marked PpFault → Type 0
IsOnFiles (Ok m) = Unit {0}
IsOnFiles (Err fault) = fault.what ≢ StoreFault

-- a kind of fault that is no want of memory, and holds none
abbrev pub IsPlain : PpKind → Type 0
IsPlain (Lex fault) = fault ≢ LexRanOut
IsPlain (Def fault) = fault ≢ DefRanOut
IsPlain (Expr fault) = fault ≢ ExprRanOut
IsPlain (Expand fault) = fault ≢ ExpandRanOut
IsPlain (Struct fault) = fault ≢ StructRanOut
IsPlain NoMemory = ⊥
IsPlain _ = Unit {0}

-- exactly one answer on the files
pub record HasOneOnFiles (Answers : Result Marked PpFault → Type 0) : Type 0 where
  -- there is one
  pub some : (answer : Result Marked PpFault) × IsOnFiles answer × Answers answer
  -- and no other: no other events, paths or marks, and no fault of another kind or at another place
  pub at_most : (one other : Result Marked PpFault) → IsOnFiles one → IsOnFiles other → Answers one → Answers other → one ≡ other
  -- no answer is want of memory
  pub plain : (fault : PpFault) → Answers (Err fault) → IsPlain fault.what

-- A translation unit over such stores is accepted in one way, or has one first fault, but for the failures of stores.
abbrev pub WalkHasOneAnswer : Type 0
WalkHasOneAnswer = (stores : Stores) (spec : UnitSpec) → TellFiles stores → HasOneOnFiles (Walk stores spec)

-- an answer that is no want of memory, and holds none
abbrev pub IsPlainAnswer : Result Marked PpFault → Type 0
IsPlainAnswer (Ok m) = Unit {0}
IsPlainAnswer (Err fault) = IsPlain fault.what

-- at least one answer on the files
pub record HasSomeOnFiles (Answers : Result Marked PpFault → Type 0) : Type 0 where
  pub answer : Result Marked PpFault
  -- no store failed
  pub on_files : IsOnFiles answer
  -- and there was memory
  pub plain : IsPlainAnswer answer
  -- it is an answer
  pub holds : Answers answer

-- A translation unit is accepted or has a first fault, whatever the stores tell of their files. Where one tells nothing, there may be more answers.
abbrev pub WalkHasAnAnswer : Type 0
WalkHasAnAnswer = (stores : Stores) (spec : UnitSpec) → 0 < length stores → HasSomeOnFiles (Walk stores spec)
