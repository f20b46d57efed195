-- The stores that a run needs, by its words.
use Rattle.std.specs.Prelude.{◌≡◌, ℕ, ◌≤◌, List, map, length, Option, Some, None, Result, Ok, Err}
use Rattle.mac_io.specs.Files.{Files}
use Rattle.pp_unit.specs.Files.{Stores}
use Rattle.dwmac_run.specs.declared.roots.Roots.{Roots}
use Rattle.dwmac_run.specs.declared.roots.Roots.TheVariants.{Labelled}
use Rattle.dwmac_run.specs.declared.roots.RootsFault.{RootsFault}
use Rattle.dwmac_run.specs.declared.roots.RootsFault.TheVariants.{Usage, NoMemory}
use Rattle.dwmac_run.specs.Command.{labels_of}

-- the labels of stores, in order
abbrev pub labels : Stores → List (List ℕ)
labels stores = map (λ (store : List ℕ × Option Files). store.0) stores

-- a path has a store for each of these labels, in order, where words fit a command at all
abbrev pub HasStores : Option (List (List ℕ)) → Stores → Type 0
HasStores None stores = Unit {0}
HasStores (Some wanted) stores = labels stores ≡ wanted

-- the path has the stores that the words call for
abbrev pub IsPathFor : List (List ℕ) → Stores → Type 0
IsPathFor words stores = HasStores (labels_of words) stores

-- these are the labels that are wanted, where words fit a command at all
abbrev pub AreWanted : Option (List (List ℕ)) → List (List ℕ) → Type 0
AreWanted None named = Unit {0}
AreWanted (Some wanted) named = named ≡ wanted

-- the stores that are called for, or that the words fit no command; or memory ran out
abbrev pub AreRoots : Option (List (List ℕ)) → Result Roots RootsFault → Type 0
AreRoots wanted (Ok (Labelled named)) = wanted ≡ Some named
AreRoots wanted (Err Usage) = wanted ≡ None
AreRoots wanted (Err NoMemory) = Unit {0}

-- so few stores that a path can hold them
abbrev pub AreFew : Result Roots RootsFault → Type 0
AreFew (Ok (Labelled named)) = length named ≤ 256
AreFew (Err fault) = Unit {0}
