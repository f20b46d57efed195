-- There is exactly one thing to be said to each query, and it says something of the file.
use Rattle.std.specs.Prelude.{◌≡◌, ◌≢◌, ℕ, List, Result, Err}
use Rattle.macro_query.specs.declared.fault.QueryFault.{QueryFault}
use Rattle.macro_query.specs.declared.fault.QueryFault.TheVariants.{NoMemory as RanOut}
use Rattle.macro_query.specs.Queries.{RawSays, UnitAtSays, DumpSays, InfoSays, ListSays, ExpandSays, OnceSays}
use Rattle.position_table.specs.declared.position.Position.{Position}

-- there is one, and no other
abbrev pub One : {A : Type 0} → (A → Type 0) → Type 0
One {A} Says = (said : A) × Says said × ((other : A) → Says other → other ≡ said)

-- there is exactly one thing to be said to each query
pub record QueriesHaveOneAnswer : Type 0 where
  pub raw : (bytes : List ℕ) → One (RawSays bytes)
  pub unit : (offset : ℕ) (file : List ℕ) → One (UnitAtSays offset file)
  pub dump : (file : List ℕ) → One (DumpSays file)
  pub info : (position : Position) (name file : List ℕ) → One (InfoSays position name file)
  pub list : (position : Position) (file : List ℕ) → One (ListSays position file)
  pub expand : (position : Position) (text file : List ℕ) → One (ExpandSays position text file)
  pub once : (position : Position) (text file : List ℕ) → One (OnceSays position text file)

-- what is to be said is never that memory ran out
abbrev pub NeverOutOfMemory : (Result (List ℕ) QueryFault → Type 0) → Type 0
NeverOutOfMemory Says = (said : Result (List ℕ) QueryFault) → Says said → said ≢ Err RanOut

-- to none of the queries
pub record QueriesSayNoMemory : Type 0 where
  pub raw : (bytes : List ℕ) → NeverOutOfMemory (RawSays bytes)
  pub unit : (offset : ℕ) (file : List ℕ) → NeverOutOfMemory (UnitAtSays offset file)
  pub dump : (file : List ℕ) → NeverOutOfMemory (DumpSays file)
  pub info : (position : Position) (name file : List ℕ) → NeverOutOfMemory (InfoSays position name file)
  pub list : (position : Position) (file : List ℕ) → NeverOutOfMemory (ListSays position file)
  pub expand : (position : Position) (text file : List ℕ) → NeverOutOfMemory (ExpandSays position text file)
  pub once : (position : Position) (text file : List ℕ) → NeverOutOfMemory (OnceSays position text file)
